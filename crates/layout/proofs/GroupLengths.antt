-- Row 30, and the two lengths of a group.
use Prim.Native.Nat.{ℕ, ◌≤◌, ◌<◌}
use mathlib.Core.Path.{◌≡◌, refl, ◌∙◌}
use mathlib.Core.Bool.{Bool, true, false, cond}
use mathlib.Core.Logic.{◌⊎◌, inl, inr}
use native.Mathlib.Omega.{arith}
use lib.Dec.{eqb}
use borrow.Table.Steps.{cases}
use Rattle.layout.specs.Layout.{store_block_len, store_block_len_v4, max_group_len}
use Rattle.layout.specs.Versions.{version_bad, version_no, group_len_of}

-- a version passes or gets 30
pub version-good : (version : ℕ) → version_bad version ≡ false → version_no version ≡ 0
unfolding version_no
version-good version e = rw e

pub version-refused : (version : ℕ) → version_bad version ≡ true → version_no version ≡ 30
unfolding version_no
version-refused version e = rw e

pub version-kept : (version : ℕ) → version_no version ≡ 0 → version_bad version ≡ false
unfolding version_no
version-kept version e = cases (version_bad version) (λ t. absurd (let z : ⊥ = omega (arith, rw t at e) in z)) (λ t. t)

pub version-most : (version : ℕ) → version_no version ≤ 30
unfolding version_no
version-most version = cases (version_bad version) (λ t. rw t (omega arith)) (λ t. rw t (omega arith))

-- a refused one gets 30
pub version-hit : (version number : ℕ) → number ≡ version_no version → 0 < number → (number ≡ 30) × (version_bad version ≡ true)
version-hit version number e hit =
    let bad = cases (version_bad version) (λ t. t) (λ t. absurd (let z : ⊥ = omega (arith, version-good version t) in z)) in
    (e ∙ version-refused version bad, bad)

-- a group has 128 or 256 blocks
two-lengths : (t : Bool) → (cond t store_block_len store_block_len_v4 ≡ store_block_len)
    ⊎ (cond t store_block_len store_block_len_v4 ≡ store_block_len_v4)
two-lengths true = inl refl
two-lengths false = inr refl

pub group-len-either : (version : ℕ) → (group_len_of version ≡ store_block_len) ⊎ (group_len_of version ≡ store_block_len_v4)
unfolding group_len_of
group-len-either version = two-lengths (eqb version 3)

pub group-len-some : (version : ℕ) → 1 ≤ group_len_of version
unfolding group_len_of
group-len-some version = cases (eqb version 3) (λ t. rw t (omega arith)) (λ t. rw t (omega arith))

pub group-len-most : (version : ℕ) → group_len_of version ≤ max_group_len
unfolding group_len_of
group-len-most version = cases (eqb version 3) (λ t. rw t (omega arith)) (λ t. rw t (omega arith))
