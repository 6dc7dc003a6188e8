-- The check of a version: who gets 0, that a version that no index has gets 30, and that finish of that version writes the file.
use Prim.Native.Nat.{ℕ, ◌≤◌}
use mathlib.Core.Path.{◌≡◌, sym, ap, ◌∙◌}
use mathlib.Core.Bool.{true, false}
use mathlib.Core.List.{List, []}
use native.Mathlib.Omega.{arith}
use borrow.Table.Steps.{cases}
use lib.ListN.{length, take}
use Rattle.layout.specs.Versions.{version_bad, version_no}
use Rattle.layout.proofs.GroupLengths.{version-good, version-refused, version-kept}
use Rattle.group.proofs.RowOrder.{or_row-zero}
use Rattle.builder.specs.Index.{settings}
use Rattle.builder.specs.Finish.{Finish, unwritten, finish_def, finish_in}
use Rattle.builder.specs.declared.SSTableIndexBuilder.{SSTableIndexBuilder}
use Rattle.index.specs.Opening.{file_no}
use Rattle.index.proofs.OpeningRows.{footer-ok, file-ok}
use Rattle.canonical.specs.Canonical.{blocks_in, separators_in, rewritten, canonical_no, check_no, AreasHold}
use Rattle.canonical.proofs.Theorems.{finish-writes}

module _ (version : ℕ) (f : List ℕ) where
  -- 30 for a version that no index has, whatever the bytes are
  pub check-unknown : version_bad version ≡ true → check_no version f ≡ 30
  unfolding check_no
  check-unknown bad = rw (version-refused version bad)

  -- the canonical form's number for one that there is
  pub check-known : version_bad version ≡ false → check_no version f ≡ canonical_no (settings version) f
  unfolding check_no
  check-known known = rw (version-good version known)

  -- 0 exactly for a version that there is and a file in the canonical form of its groups
  pub check-exactly : (check_no version f ≡ 0 → (version_bad version ≡ false) × (canonical_no (settings version) f ≡ 0))
      × (version_bad version ≡ false → canonical_no (settings version) f ≡ 0 → check_no version f ≡ 0)
  unfolding check_no
  check-exactly = (
    λ e.
        let p = or_row-zero (version_no version) (canonical_no (settings version) f) e in
        (version-kept version p.0, p.1),
    λ known e. check-known known ∙ e,
  )

-- ---- finish

-- a finish gives the file and no other, and a number
pub record Writes (f : List ℕ) (no check : ℕ) (finish : Finish) : Type 0 where
  pub number : finish.no ≡ no
  pub canonical : check ≡ 0 → take finish.total finish.out ≡ f
  pub only : take finish.total finish.out ≡ f → check ≡ 0

module _ (version : ℕ) (f : List ℕ) (opened : file_no (settings version).len_of_group f ≡ 0) (b : SSTableIndexBuilder) (B K : List ℕ)
    (hold : AreasHold b B K (blocks_in (settings version).len_of_group f) (separators_in f)) (out : List ℕ)
    (room : length (rewritten (settings version) f) ≤ length out) where
  -- a file that opens isn't empty
  there : [] ≡ f → ⊥
  there e = let foot = footer-ok f (file-ok (settings version).len_of_group f opened).footer in omega (arith, foot.inside, ap length e)

  unknown : version_bad version ≡ true → Writes f (version_no version) (check_no version f) (unwritten 30 b out)
  unknown bad = record {
    number = sym (version-refused version bad);
    canonical = λ e. absurd (let z : ⊥ = omega (arith, check-unknown version f bad) in z);
    only = λ e. absurd (there e);
  }

  known : version_bad version ≡ false
      → Writes f (version_no version) (check_no version f) (finish_def (settings version) b B K out)
  known good =
      let w = finish-writes (settings version) f opened b B K hold out room in
      record {
        number = w.0 ∙ sym (version-good version good);
        canonical = λ e. w.1 (sym (check-known version f good) ∙ e);
        only = λ e. check-known version f good ∙ w.2 e;
      }

  -- a file gets 0 exactly when finish of the version writes that file, which it refuses for the version alone
  pub finish-writes-in : Writes f (version_no version) (check_no version f) (finish_in version b B K out)
  unfolding finish_in
  finish-writes-in = cases (version_bad version) (λ t. rw t (unknown t)) (λ t. rw t (known t))
