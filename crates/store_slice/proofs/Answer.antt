-- What a list's store answers and leaves: for a version that no index has, for records that hit a row, and for others by the room (row 9).
use mathlib.Core.Path.{◌≡◌, refl, sym, ◌∙◌}
use mathlib.Core.Bool.{cond}
use mathlib.Core.List.{List}
use Prim.Native.Nat.{ℕ, zero, suc, ◌≤◌, ◌<◌}
use native.Mathlib.Omega.{arith}
use lib.Dec.{ltb}
use lib.ListN.{length}
use lib.Seq.{sets}
use borrow.Author.Tests.{lt-ltb, le-ltb}
use Rattle.layout.specs.Versions.{version_no, group_len_of}
use Rattle.layout.proofs.GroupLengths.{version-hit, version-kept}
use Rattle.slope.specs.Slope.{best_slope}
use Rattle.group.specs.declared.BlockAddr.{BlockAddr}
use Rattle.store.specs.Store.{store_bytes}
use Rattle.store_slice.specs.Slice.{block_list_no, slice_no_by, stored_step, out_step, slice_stored_by, slice_out_by}
use Rattle.store_slice.specs.Slice.{slice_stored, slice_out}

module _ (L : ℕ) (bs : List BlockAddr) (out : List ℕ) where
  module _ (none : block_list_no bs ≡ 0) where
    abbrev bytes : List ℕ
    bytes = store_bytes best_slope L bs

    only-nine : slice_no_by L bs (length out) ≡ cond (ltb (length out) (length bytes)) 9 0
    unfolding slice_no_by
    only-nine = rw none refl

    pub short-answer : length out < length bytes → (record { no = 9; len = 0 } ≡ slice_stored_by L bs out) × (out ≡ slice_out_by L bs out)
    unfolding stored_step out_step
    short-answer h =
        let nine : slice_no_by L bs (length out) ≡ 9 = only-nine ∙ rw (lt-ltb (length out) (length bytes) h) refl in
        (rw nine refl, rw nine refl)

    pub whole-answer : length bytes ≤ length out
        → (record { no = 0; len = length bytes } ≡ slice_stored_by L bs out) × (sets out 0 bytes ≡ slice_out_by L bs out)
    unfolding stored_step out_step
    whole-answer h =
        let none-hit : slice_no_by L bs (length out) ≡ 0 = only-nine ∙ rw (le-ltb (length out) (length bytes) h) refl in
        (rw none-hit refl, rw none-hit refl)

  -- records that hit a row
  hit-no : (room k : ℕ) → block_list_no bs ≡ suc k → slice_no_by L bs room ≡ suc k
  unfolding slice_no_by
  hit-no room k e = rw e refl

  pub stored_refused : (no : ℕ) → block_list_no bs ≡ no → 0 < no
      → (record { no = no; len = 0 } ≡ slice_stored_by L bs out) × (out ≡ slice_out_by L bs out)
  unfolding stored_step out_step
  stored_refused zero e hit = absurd (let z : ⊥ = omega arith in z)
  stored_refused (suc k) e hit = (rw (hit-no (length out) k e) refl, rw (hit-no (length out) k e) refl)

-- the test of the version comes first
module _ (version : ℕ) (bs : List BlockAddr) (out : List ℕ) where
  pub version_refused : (number : ℕ) → number ≡ version_no version → 0 < number
      → (record { no = number; len = 0 } ≡ slice_stored version bs out) × (out ≡ slice_out version bs out)
  unfolding slice_stored slice_out
  version_refused number e hit = let bad = version-hit version number e hit in (rw (bad.0, bad.1) refl, rw bad.1 refl)

  pub version_taken : 0 ≡ version_no version → (slice_stored_by (group_len_of version) bs out ≡ slice_stored version bs out)
      × (slice_out_by (group_len_of version) bs out ≡ slice_out version bs out)
  unfolding slice_stored slice_out
  version_taken e = let good = version-kept version (sym e) in (rw good refl, rw good refl)
