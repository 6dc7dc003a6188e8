-- Blocks given by their number, as a list: how many they are, and each of them.
use Prim.Native.Nat.{ℕ, zero, suc, ◌+◌, ◌<◌}
use mathlib.Core.Path.{◌≡◌, refl, ap, ◌∙◌}
use mathlib.Core.List.{◌∷◌}
use native.Mathlib.Nat.{add-zero}
use native.Mathlib.Omega.{arith}
use lib.ListN.{length}
use Rattle.group.specs.declared.BlockAddr.{BlockAddr}
use Rattle.group.specs.Blocks.{block_of}
use Rattle.store_canonical.specs.Canonical.{blocks_from}

pub length-blocks_from : (block : ℕ → BlockAddr) (i count : ℕ) → length (blocks_from block i count) ≡ count
unfolding blocks_from
length-blocks_from block i zero = refl
length-blocks_from block i (suc count) = ap suc (length-blocks_from block (suc i) count)

pub blocks_from-at : (block : ℕ → BlockAddr) (i count j : ℕ) → j < count → block_of (blocks_from block i count) j ≡ block (i + j)
unfolding blocks_from
blocks_from-at block i zero j h = elim h [ ]
blocks_from-at block i (suc count) zero h = rw add-zero
blocks_from-at block i (suc count) (suc j) h = blocks_from-at block (suc i) count j (omega arith) ∙ ap block (omega arith)

-- the first block and those after it
pub blocks_from-all : (block : ℕ → BlockAddr) (count j : ℕ) → j < suc count → block_of (block 0 ∷ blocks_from block 1 count) j ≡ block j
blocks_from-all block count zero h = refl
blocks_from-all block count (suc j) h = blocks_from-at block 1 count j (omega arith) ∙ ap block (omega arith)
