-- The blocks of an area as a list, and what legal blocks keep: starts and ordinals rise from the first block on.
use Prim.Native.Nat.{ℕ, zero, suc, ◌+◌, ◌-◌, ◌*◌, ◌≤◌, ◌<◌}
use mathlib.Core.Path.{◌≡◌, refl, ap, ◌∙◌}
use mathlib.Core.List.{List, ◌∷◌}
use native.Mathlib.Nat.{add-zero, mul-suc, mul-le-mul, mul-le-mul_left, le_refl}
use native.Mathlib.Omega.{arith}
use lib.ListN.{length, get_or}
use Rattle.group.specs.Blocks.{block_of, block_at, blocks_at}
use Rattle.group.specs.Legal.{Legal}
use Rattle.group.specs.Facts.{GroupArea}
use Rattle.group.specs.declared.BlockAddr.{BlockAddr}

pub length-blocks_at : (area : List ℕ) (stride i count : ℕ) → length (blocks_at area stride i count) ≡ count
unfolding blocks_at
length-blocks_at area stride i zero = refl
length-blocks_at area stride i (suc count) = ap suc (length-blocks_at area stride (suc i) count)

pub blocks_at-at : (area : List ℕ) (stride i count j : ℕ) → j < count
    → block_of (blocks_at area stride i count) j ≡ block_at area stride (i + j)
unfolding blocks_at
blocks_at-at area stride i zero j h = elim h [ ]
blocks_at-at area stride i (suc count) zero h = rw add-zero
blocks_at-at area stride i (suc count) (suc j) h =
    blocks_at-at area stride (suc i) count j (omega arith) ∙ ap (block_at area stride) (omega arith)

-- ---- legal blocks

module _ {block : ℕ → BlockAddr} {n : ℕ} (legal : Legal block n) where
  pub starts-rise : (j : ℕ) → j < n → (block 0).start ≤ (block j).start
  starts-rise zero h = le_refl _
  starts-rise (suc j) h =
      omega (arith, starts-rise j (omega arith), legal.numbers j (omega arith), legal.follows j h)

  pub ends-rise : (j : ℕ) → j < n → (block 0).start ≤ (block j).end
  ends-rise j h = omega (arith, starts-rise j h, legal.numbers j h)

  pub ordinals-rise : (j : ℕ) → j < n → (block 0).first_ordinal ≤ (block j).first_ordinal
  ordinals-rise zero h = le_refl _
  ordinals-rise (suc j) h = omega (arith, ordinals-rise j (omega arith), legal.follows j h)

-- the same blocks, given otherwise
pub legal-same : {f g : ℕ → BlockAddr} {n : ℕ} → ((i : ℕ) → i < n → g i ≡ f i) → Legal f n → Legal g n
legal-same e legal = record {
  numbers = λ i h. rw (e i h) (legal.numbers i h);
  follows = λ i h. rw (e i (omega arith), e (suc i) h) (legal.follows i h);
}

-- ---- a group of an area

module _ {area : List ℕ} {stride first count : ℕ} (group : GroupArea area stride first count) where
  pub length-group : suc (length (blocks_at area stride (first + 1) (count - 1))) ≡ count
  length-group = omega (arith, length-blocks_at area stride (first + 1) (count - 1))

  -- block j of the list is block j of the group
  pub group_at : (j : ℕ) → j < count
      → block_of (block_at area stride first ∷ blocks_at area stride (first + 1) (count - 1)) j ≡ block_at area stride (first + j)
  group_at zero h = rw add-zero
  group_at (suc j) h =
      blocks_at-at area stride (first + 1) (count - 1) j (omega arith) ∙ ap (block_at area stride) (omega arith)

  pub group-legal : Legal (block_of (block_at area stride first ∷ blocks_at area stride (first + 1) (count - 1)))
      (suc (length (blocks_at area stride (first + 1) (count - 1))))
  group-legal = rw length-group (legal-same group_at group.legal)

  pub group-inside : (j : ℕ) → j < count → stride * (first + j) + stride ≤ length area
  group-inside j h =
      let m = mul-le-mul_left {m = suc (first + j)} {n = first + count} stride (omega arith) in
      omega (arith, mul-suc stride (first + j))

  pub group-within : first + count ≤ length area
  group-within = omega (
    arith,
    mul-le-mul {n₁ = 1} {m₁ = first + count} {n₂ = stride} {m₂ = first + count} (omega arith) (le_refl _),
  )

  pub group-start-le : (j : ℕ) → j < count → get_or area (stride * first) 0 ≤ get_or area (stride * (first + j)) 0
  group-start-le j h = rw add-zero at (starts-rise group.legal j h)

  pub group-end-le : (j : ℕ) → j < count → get_or area (stride * first) 0 ≤ get_or area (stride * (first + j) + 1) 0
  group-end-le j h = rw add-zero at (ends-rise group.legal j h)

  pub group-ordinal-le : (j : ℕ) → j < count → get_or area (stride * first + 2) 0 ≤ get_or area (stride * (first + j) + 2) 0
  group-ordinal-le j h = rw add-zero at (ordinals-rise group.legal j h)
