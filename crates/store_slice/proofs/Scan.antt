-- Rows over a list of records, read off what was seen of them one after the other.
use mathlib.Core.Path.{◌≡◌, refl, sym, ◌∙◌, ap}
use mathlib.Core.Bool.{Bool, true, false, ◌||◌, cond, or_assoc, or-false}
use mathlib.Core.List.{List, [], ◌∷◌, ◌++◌}
use Prim.Native.Nat.{ℕ, suc, ◌+◌, ◌≤◌, ◌<◌}
use native.Mathlib.Nat.{add-zero, zero-add}
use Rattle.std.specs.List.{fold, range_with_len}
use native.Mathlib.Numerals.{add-one}
use native.Mathlib.Omega.{arith}
use lib.Dec.{ltb}
use lib.ListN.{length, take}
use lib.Seq.{take-suc}
use borrow.Author.Tests.{ltb-false, le-ltb}
use Rattle.std.proofs.lemmas.Bool.{or_parts}
use Rattle.std.specs.Prelude.{Option, None, Some}
use Rattle.group.specs.declared.BlockAddr.{BlockAddr}
use Rattle.group.specs.Blocks.{no_block, block_of}
use Rattle.group.specs.Rows.{are_numbers_bad, is_join_bad, is_ordinal_bad}
use Rattle.store_slice.specs.declared.rows.Seen.{Seen}
use Rattle.store_slice.specs.Slice.{any_bad, pair_bad, block_list_no}
use Rattle.store_slice.specs.Records.{breaks_behind, seen_with, none_seen, seen_all, seen_number}

-- what is seen by default
pub default-none : (s : Seen) → (s.last ≡ None) × ((s.numbers_bad ≡ false) × ((s.join_bad ≡ false) × (s.ordinal_bad ≡ false))) →
    s ≡ none_seen
default-none s d = from-parts s.last s.numbers_bad s.join_bad s.ordinal_bad d.0 d.1.0 d.1.1.0 d.1.1.1
  where
    from-parts : (last : Option BlockAddr) (a b c : Bool) → last ≡ None → a ≡ false → b ≡ false → c ≡ false
        → ◌≡◌ {A = Seen} (record { last = last; numbers_bad = a; join_bad = b; ordinal_bad = c }) none_seen
    from-parts last a b c e p q r = rw (e, p, q, r) refl

seen-numbers : (s : Seen) (bs : List BlockAddr) → (seen_all s bs).numbers_bad ≡ (s.numbers_bad || any_bad are_numbers_bad bs)
unfolding seen_all seen_with any_bad
seen-numbers s [] = sym (or-false s.numbers_bad)
seen-numbers s (b ∷ bs) = seen-numbers (seen_with s b) bs ∙ or_assoc s.numbers_bad (are_numbers_bad b) (any_bad are_numbers_bad bs)

-- a row of two records, one behind the other
module _ (bad : BlockAddr → BlockAddr → Bool) (hit : Seen → Bool)
    (step : (s : Seen) (b : BlockAddr) → hit (seen_with s b) ≡ (hit s || breaks_behind bad s.last b)) where
  seen-pairs : (s : Seen) (a : BlockAddr) (bs : List BlockAddr) → s.last ≡ Some a → hit (seen_all s bs) ≡ (hit s || pair_bad bad (a ∷ bs))
  unfolding seen_all seen_with pair_bad
  seen-pairs s a [] e = sym (or-false (hit s))
  seen-pairs s a (b ∷ bs) e =
      let here = step s b ∙ ap (λ (l : Option BlockAddr). hit s || breaks_behind bad l b) e in
      seen-pairs (seen_with s b) b bs refl ∙ ap (λ (t : Bool). t || pair_bad bad (b ∷ bs)) here
      ∙ or_assoc (hit s) (bad a b) (pair_bad bad (b ∷ bs))

  seen-from-none : (bs : List BlockAddr) → hit none_seen ≡ false → hit (seen_all none_seen bs) ≡ pair_bad bad bs
  unfolding seen_all seen_with pair_bad
  seen-from-none [] e = e
  seen-from-none (b ∷ bs) e =
      seen-pairs (seen_with none_seen b) b bs refl
      ∙ ap (λ (t : Bool). t || pair_bad bad (b ∷ bs)) (step none_seen b ∙ or-false (hit none_seen) ∙ e)

-- ---- one record after the other

seen-behind : (s : Seen) (bs : List BlockAddr) (b : BlockAddr) → seen_all s (bs ++ (b ∷ [])) ≡ seen_with (seen_all s bs) b
unfolding seen_all
seen-behind s [] b = refl
seen-behind s (a ∷ bs) b = seen-behind (seen_with s a) bs b

pub seen_next : (bs : List BlockAddr) (i : ℕ) → i < length bs
    → seen_with (seen_all none_seen (take i bs)) (block_of bs i) ≡ seen_all none_seen (take (i + 1) bs)
seen_next bs i h =
    sym (seen-behind none_seen (take i bs) (block_of bs i))
    ∙ ap (seen_all none_seen) (sym (take-suc bs i no_block h) ∙ ap (λ (k : ℕ). take k bs) (sym (add-one i)))

fold-from : (bs : List BlockAddr) (f : ℕ → BlockAddr) (s : Seen) (a : ℕ) → ((i : ℕ) → i < length bs → f (a + i) ≡ block_of bs i)
    → fold (λ (t : Seen) (i : ℕ). seen_with t (f i)) s (range_with_len a (length bs)) ≡ seen_all s bs
unfolding seen_all
fold-from [] f s a h = refl
fold-from (b ∷ bs) f s a h =
    let first : f a ≡ b = rw (add-zero a) at (h 0 (omega arith)) in
    let next : (i : ℕ) → i < length bs → f (a + 1 + i) ≡ block_of bs i = λ i l. ap f (omega arith) ∙ h (suc i) (omega arith) in
    ap (λ (c : BlockAddr). fold (λ (t : Seen) (i : ℕ). seen_with t (f i)) (seen_with s c) (range_with_len (a + 1) (length bs))) first
    ∙ fold-from bs f (seen_with s b) (a + 1) next

pub fold-seen : (bs : List BlockAddr)
    → fold (λ (t : Seen) (i : ℕ). seen_with t (block_of bs i)) none_seen (range_with_len 0 (length bs)) ≡ seen_all none_seen bs
fold-seen bs = fold-from bs (block_of bs) none_seen 0 (λ i h. ap (block_of bs) (zero-add i))

-- none of four numbers
pub no_number : (a b c d : Bool) → ◌≡◌ {A = ℕ} (cond a 3 (cond b 4 (cond c 5 (cond d 7 0)))) 0 → (a ≡ false) × (b ≡ false) ×
    (c ≡ false) × (d ≡ false)
no_number true b c d e = absurd (let z : ⊥ = omega arith in z)
no_number false true c d e = absurd (let z : ⊥ = omega arith in z)
no_number false false true d e = absurd (let z : ⊥ = omega arith in z)
no_number false false false true e = absurd (let z : ⊥ = omega arith in z)
no_number false false false false e = (refl, refl, refl, refl)

-- a row that was hit stays hit
pub seen-before : (s : Seen) (b : BlockAddr) (n : ℕ) → seen_number (seen_with s b) n ≡ 0 → seen_number s n ≡ 0
unfolding seen_number seen_with
seen-before s b n e =
    let joins = breaks_behind is_join_bad s.last b in
    let ordinals = breaks_behind is_ordinal_bad s.last b in
    let none = no_number (s.numbers_bad || are_numbers_bad b) (s.join_bad || joins) (s.ordinal_bad || ordinals) (ltb 65536 n) e in
    rw (
      (or_parts s.numbers_bad (are_numbers_bad b) none.0).0,
      (or_parts s.join_bad joins none.1).0,
      (or_parts s.ordinal_bad ordinals none.2).0,
      none.3,
    ) refl

-- ---- all of them

pub seen_no : (bs : List BlockAddr) → seen_number (seen_all none_seen bs) (length bs) ≡ block_list_no bs
unfolding seen_number block_list_no seen_with
seen_no bs =
    rw (
      seen-numbers none_seen bs,
      seen-from-none is_join_bad (λ s. s.join_bad) (λ s b. refl) bs refl,
      seen-from-none is_ordinal_bad (λ s. s.ordinal_bad) (λ s b. refl) bs refl,
    ) refl

-- the first of n records hit no row
pub seen_few : (s : Seen) (n : ℕ) → seen_number s n ≡ 0 → n ≤ 65536
unfolding seen_number
seen_few s n e = ltb-false 65536 n (no_number s.numbers_bad s.join_bad s.ordinal_bad (ltb 65536 n) e).3

pub seen_none : (bs : List BlockAddr) (n : ℕ) → length bs ≤ n → seen_number (seen_all none_seen bs) n ≡ 0 → block_list_no bs ≡ 0
unfolding seen_number
seen_none bs n h e =
    let s = seen_all none_seen bs in
    let none = no_number s.numbers_bad s.join_bad s.ordinal_bad (ltb 65536 n) e in
    let few : ltb 65536 (length bs) ≡ false = le-ltb 65536 (length bs) (omega (arith, seen_few s n e)) in
    sym (seen_no bs) ∙ rw (none.0, none.1, none.2, few) refl
