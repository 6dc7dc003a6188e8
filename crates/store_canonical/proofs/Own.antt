-- The blocks read in a group, put into an area one after the other.
use Prim.Native.Nat.{ℕ, ◌+◌, ◌*◌, ◌≤◌, ◌<◌}
use mathlib.Core.Path.{◌≡◌, sym, ap, ◌∙◌}
use mathlib.Core.List.{List}
use native.Mathlib.Numerals.{add-one}
use native.Mathlib.Omega.{arith}
use lib.ListN.{length, take}
use lib.Seq.{take_all}
use Rattle.serialize.specs.Digits.{le_val}
use Rattle.group.specs.declared.BlockAddr.{BlockAddr}
use Rattle.group.specs.declared.BlockAddrBlockMetadata.{BlockAddrBlockMetadata}
use Rattle.group.specs.Blocks.{blocks_at, with_block}
use Rattle.group.specs.Read.{range_read, ordinal_read, block_read}
use Rattle.group.proofs.Records.{held_more}
use Rattle.store_canonical.specs.Canonical.{blocks_from}
use Rattle.store_canonical.proofs.Blocks.{length-blocks_from, blocks_from-at}

-- the group's blocks
abbrev pub own : BlockAddrBlockMetadata → List ℕ → List BlockAddr
own m bytes = blocks_from (block_read m (le_val bytes)) 0 (m.block_len + 1)

-- the three numbers that a turn puts are the next block's
block-is : (m : BlockAddrBlockMetadata) (N i start end ordinal : ℕ) → start ≡ range_read m N i → end ≡ range_read m N (i + 1) →
    ordinal ≡ ordinal_read m N i
    → ◌≡◌ {A = BlockAddr} (record { start = start; end = end; first_ordinal = ordinal }) (block_read m N i)
unfolding block_read
block-is m N i start end ordinal s e o = rw (s, e, o, add-one i)

-- one block more
pub own-turn : (m : BlockAddrBlockMetadata) (bytes area : List ℕ) (i start end ordinal : ℕ) → i < m.block_len + 1 →
    3 * (m.block_len + 1) ≤ length area
    → blocks_at area 3 0 i ≡ take i (own m bytes)
    → start ≡ range_read m (le_val bytes) i → end ≡ range_read m (le_val bytes) (i + 1) → ordinal ≡ ordinal_read m (le_val bytes) i
    → blocks_at (with_block area (3 * i) (record { start = start; end = end; first_ordinal = ordinal })) 3 0 (i + 1) ≡ take (i + 1) (own m
    bytes)
own-turn m bytes area i start end ordinal more room holds s e o =
    held_more area (own m bytes) 0 i (omega arith) (omega (arith, length-blocks_from (block_read m (le_val bytes)) 0 (m.block_len + 1)))
    holds _
    (block-is m (le_val bytes) i start end ordinal s e o
    ∙ sym (blocks_from-at (block_read m (le_val bytes)) 0 (m.block_len + 1) (0 + i) (omega arith) ∙ ap (block_read m (le_val bytes))
    (omega arith)))

-- all of them
pub own-all : (m : BlockAddrBlockMetadata) (bytes area : List ℕ) (i : ℕ) → i ≡ m.block_len + 1 → blocks_at area 3 0 i ≡ take i (own m bytes)
    → blocks_at area 3 0 (m.block_len + 1) ≡ own m bytes
own-all m bytes area i e holds =
    ap (blocks_at area 3 0) (sym e) ∙ holds ∙ take_all i (own m bytes) (omega (
      arith,
      length-blocks_from (block_read m (le_val bytes)) 0
          (m.block_len + 1),
    ))
