-- What opening answers is Err of the refusal whose number the rows give, and each answer that is a refusal has a number above 0.
use Prim.Native.Nat.{ℕ, zero, suc, ◌+◌, ◌-◌, ◌≤◌, ◌<◌}
use mathlib.Core.Path.{◌≡◌, refl}
use mathlib.Core.Bool.{Bool, true, false, cond}
use mathlib.Core.List.{List, [], ◌∷◌}
use Rattle.std.specs.Prelude.{Result, Ok, Err}
use native.Mathlib.Omega.{arith}
use borrow.Author.Rules.{rules}
use lib.ListN.{length, get_or}
use Rattle.layout.specs.declared.refusals.Refusal.{Refusal}
use Rattle.layout.specs.declared.refusals.Refusal.TheVariants.{AreaBad, KeyLong, NumbersBad, JoinBad, OrdinalBad, KeyBad, RoomBad, ListBad}
use Rattle.layout.specs.declared.refusals.Refusal.TheVariants.{OutShort, FileShort, NoDirectory, DirectoryBad, KeysUnsorted, RecordsBad}
use Rattle.layout.specs.declared.refusals.Refusal.TheVariants.{GroupBad, BlockBad, UnknownId, OrdinalBelow, KeyAbove, Unfit, TableBad}
use Rattle.layout.specs.declared.refusals.Refusal.TheVariants.{FlagBad, StateBad, RoomShort, NoExample, KeyListBad, NotCanonical, TermsBad}
use Rattle.layout.specs.declared.refusals.Refusal.TheVariants.{OrdinalAbove, VersionBad}
use Rattle.layout.specs.Refusals.{number_of}
use Rattle.layout.specs.Versions.{version_no}
use Rattle.layout.proofs.Numbers.{number_positive}
use Rattle.group.specs.declared.BlockAddr.{BlockAddr}
use Rattle.group.specs.Rows.{or_row}
use Rattle.store.specs.declared.Located.{Located}
use Rattle.store.specs.Check.{store_no}
use Rattle.directory.specs.Read.{directory_no}
use Rattle.index.specs.Opening.{footer_no, file_no, terms_no, open_no, rows, refusal_of, step_of_open}
use Rattle.index.specs.Answers.{load_no, BlockByIdCased, LocatedCased, LocatedIdCased}

-- ---- a refusal and its number

pub step-refused : (version terms : ℕ) (f : List ℕ) (r : Refusal) → step_of_open (number_of r) version terms f ≡ Err r
unfolding refusal_of
step-refused version terms f AreaBad = refl
step-refused version terms f KeyLong = refl
step-refused version terms f NumbersBad = refl
step-refused version terms f JoinBad = refl
step-refused version terms f OrdinalBad = refl
step-refused version terms f KeyBad = refl
step-refused version terms f RoomBad = refl
step-refused version terms f ListBad = refl
step-refused version terms f OutShort = refl
step-refused version terms f FileShort = refl
step-refused version terms f NoDirectory = refl
step-refused version terms f DirectoryBad = refl
step-refused version terms f KeysUnsorted = refl
step-refused version terms f RecordsBad = refl
step-refused version terms f GroupBad = refl
step-refused version terms f BlockBad = refl
step-refused version terms f UnknownId = refl
step-refused version terms f OrdinalBelow = refl
step-refused version terms f KeyAbove = refl
step-refused version terms f Unfit = refl
step-refused version terms f TableBad = refl
step-refused version terms f FlagBad = refl
step-refused version terms f StateBad = refl
step-refused version terms f RoomShort = refl
step-refused version terms f NoExample = refl
step-refused version terms f KeyListBad = refl
step-refused version terms f NotCanonical = refl
step-refused version terms f TermsBad = refl
step-refused version terms f OrdinalAbove = refl
step-refused version terms f VersionBad = refl

-- refusals whose numbers rise by one from k on
abbrev Numbered : ℕ → List Refusal → Type 0
Numbered k [] = Unit {0}
Numbered k (r ∷ rs) = (number_of r ≡ k) × Numbered (suc k) rs

numbered-at : (l : List Refusal) (k i : ℕ) → Numbered k l → i < length l → number_of (get_or l i Unfit) ≡ k + i
numbered-at [] k i h l = absurd (let z : ⊥ = omega arith in z)
numbered-at (r ∷ rs) k zero h l = omega (arith, h.0)
numbered-at (r ∷ rs) k (suc i) h l = omega (arith, numbered-at rs (suc k) i h.1 (omega arith))

rows-numbered : Numbered 1 rows
rows-numbered = search rules depth 60

pub refusal-number : (k : ℕ) → 1 ≤ k → k ≤ 30 → number_of (refusal_of k) ≡ k
unfolding refusal_of
refusal-number k some few = omega (arith, numbered-at rows 1 (k - 1) rows-numbered (omega arith))

-- ---- the numbers of opening are the table's

cond-most : (t : Bool) (a b most : ℕ) → a ≤ most → b ≤ most → cond t a b ≤ most
cond-most true a b most h l = h
cond-most false a b most h l = l

or_row-most : (a b most : ℕ) → a ≤ most → b ≤ most → or_row a b ≤ most
or_row-most zero b most h l = l
or_row-most (suc a) b most h l = h

pub file_no-most : (L : ℕ) (f : List ℕ) → file_no L f ≤ 16
unfolding file_no footer_no directory_no store_no
file_no-most L f = search (rules, or_row-most, cond-most) depth 12

pub open_no-most : (L version terms : ℕ) (f : List ℕ) → open_no L version terms f ≤ 30
unfolding open_no version_no terms_no file_no footer_no directory_no store_no
open_no-most L version terms f = search (rules, or_row-most, cond-most) depth 12

pub step-number : (version terms : ℕ) (f : List ℕ) (k : ℕ) → k ≤ 30 → load_no (step_of_open k version terms f) ≡ k
step-number version terms f zero h = refl
step-number version terms f (suc k) h = refusal-number (suc k) (omega arith) h

-- ---- no refusal has the number 0

pub block_by_id_cased : (answer : Result BlockAddr Refusal) → BlockByIdCased answer
block_by_id_cased (Ok addr) = tt
block_by_id_cased (Err refusal) = number_positive refusal

pub located_cased : (answer : Result Located Refusal) → LocatedCased answer
located_cased (Ok at) = tt
located_cased (Err refusal) = number_positive refusal

pub located_id_cased : (answer : Result ℕ Refusal) → LocatedIdCased answer
located_id_cased (Ok id) = tt
located_id_cased (Err refusal) = number_positive refusal
