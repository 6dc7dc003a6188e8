-- Records that hit no row are legal blocks, and no more than a store has.
use mathlib.Core.Path.{◌≡◌, sym}
use mathlib.Core.Bool.{Bool, false}
use mathlib.Core.List.{List, [], ◌∷◌}
use Prim.Native.Nat.{ℕ, zero, suc, ◌≤◌, ◌<◌}
use native.Mathlib.Omega.{arith}
use lib.Dec.{ltb}
use lib.ListN.{length, take}
use lib.Seq.{get_or-take, length-take-le}
use borrow.Author.Tests.{ltb-false}
use Rattle.std.proofs.lemmas.Bool.{or_parts}
use Rattle.group.specs.declared.BlockAddr.{BlockAddr}
use Rattle.group.specs.Blocks.{no_block, block_of}
use Rattle.group.specs.Legal.{Legal}
use Rattle.group.specs.Rows.{are_numbers_bad, is_join_bad, is_ordinal_bad}
use Rattle.group.proofs.Legal.{numbers-ok, follows}
use Rattle.group.proofs.Blocks.{legal-same}
use Rattle.store_slice.specs.Slice.{any_bad, pair_bad, block_list_no}
use Rattle.store_slice.proofs.Scan.{no_number}

any-kept : (bad : BlockAddr → Bool) (bs : List BlockAddr) (i : ℕ) → i < length bs → any_bad bad bs ≡ false → bad (block_of bs i) ≡ false
unfolding any_bad
any-kept bad [] i h e = absurd (let z : ⊥ = omega arith in z)
any-kept bad (b ∷ bs) zero h e = (or_parts (bad b) (any_bad bad bs) e).0
any-kept bad (b ∷ bs) (suc i) h e = any-kept bad bs i (omega arith) (or_parts (bad b) (any_bad bad bs) e).1

pair-kept : (bad : BlockAddr → BlockAddr → Bool) (bs : List BlockAddr) (i : ℕ) → suc i < length bs → pair_bad bad bs ≡ false →
    bad (block_of bs i) (block_of bs (suc i)) ≡ false
unfolding pair_bad
pair-kept bad [] i h e = absurd (let z : ⊥ = omega arith in z)
pair-kept bad (b ∷ []) i h e = absurd (let z : ⊥ = omega arith in z)
pair-kept bad (b ∷ c ∷ bs) zero h e = (or_parts (bad b c) (pair_bad bad (c ∷ bs)) e).0
pair-kept bad (b ∷ c ∷ bs) (suc i) h e = pair-kept bad (c ∷ bs) i (omega arith) (or_parts (bad b c) (pair_bad bad (c ∷ bs)) e).1

module _ (bs : List BlockAddr) (none : block_list_no bs ≡ 0) where
  rows : (any_bad are_numbers_bad bs ≡ false) × (pair_bad is_join_bad bs ≡ false) × (pair_bad is_ordinal_bad bs ≡ false) ×
      (ltb 65536 (length bs) ≡ false)
  unfolding block_list_no
  rows = no_number (any_bad are_numbers_bad bs) (pair_bad is_join_bad bs) (pair_bad is_ordinal_bad bs) (ltb 65536 (length bs)) none

  pub records-few : length bs ≤ 65536
  records-few = ltb-false 65536 (length bs) rows.3

  pub records-legal : Legal (block_of bs) (length bs)
  records-legal = record {
    numbers = λ i h. numbers-ok (block_of bs i) (any-kept are_numbers_bad bs i h rows.0);
    follows = λ i h. follows (block_of bs i) (block_of bs (suc i)) (pair-kept is_join_bad bs i h rows.1) (pair-kept is_ordinal_bad bs i h
        rows.2);
  }

-- the first m of a list
pub first-legal : (bs : List BlockAddr) (m : ℕ) → m ≤ length bs → block_list_no (take m bs) ≡ 0 → Legal (block_of bs) m
first-legal bs m h none =
    legal-same (λ i l. sym (get_or-take m bs i no_block l)) (rw (length-take-le m bs h) at (records-legal (take m bs) none))
