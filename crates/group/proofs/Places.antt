-- Where a group's bits end: at bit 112 × (L - 1) + 56 at most, for a group of at most L blocks that keeps row 15; a number of 16 bits
-- holds it.
use mathlib.Core.Path.{◌≡◌, refl}
use mathlib.Core.Bool.{false}
use Prim.Native.Nat.{ℕ, ◌+◌, ◌-◌, ◌*◌, ◌^◌, ◌≤◌, ◌<◌}
use native.Mathlib.Nat.{mul-le-mul}
use native.Mathlib.Omega.{arith}
use Rattle.layout.specs.Layout.{max_group_len, store_block_len, store_block_len_v4}
use Rattle.bitpacker.specs.Fields.{group_bits}
use Rattle.group.specs.Read.{group_bad}
use Rattle.group.specs.declared.BlockAddrBlockMetadata.{BlockAddrBlockMetadata}
use Rattle.group.proofs.Reading.{group-ok}

-- fields of at most 56 bits, n + 1 of them ranges and n ordinals
pub bits-end : (r o n L : ℕ) → r ≤ 56 → o ≤ 56 → n < L → group_bits r o n ≤ 112 * (L - 1) + 56
bits-end r o n L hr ho h =
    let product : (r + o) * n ≤ 112 * (L - 1) = mul-le-mul {n₂ = 112} (omega arith) (omega arith) in
    omega arith

-- the bits of a group that keeps row 15
pub group-end : (m : BlockAddrBlockMetadata) (count len L : ℕ) → group_bad m count len ≡ false → count ≤ L
    → group_bits m.range_start_nbits m.first_ordinal_nbits m.block_len ≤ 112 * (L - 1) + 56
group-end m count len L kept few =
    let k = group-ok m count len kept in
    bits-end m.range_start_nbits m.first_ordinal_nbits m.block_len L k.range-high k.ordinal-high (let e = k.blocks in omega arith)

-- its uses: groups of an index of version 3, and of version 4
pub group-end-128 : (m : BlockAddrBlockMetadata) (count len : ℕ) → group_bad m count len ≡ false → count ≤ store_block_len
    → group_bits m.range_start_nbits m.first_ordinal_nbits m.block_len ≤ 14280
group-end-128 m count len kept few = group-end m count len store_block_len kept few

pub group-end-256 : (m : BlockAddrBlockMetadata) (count len : ℕ) → group_bad m count len ≡ false → count ≤ store_block_len_v4
    → group_bits m.range_start_nbits m.first_ordinal_nbits m.block_len ≤ 28616
group-end-256 m count len kept few = group-end m count len store_block_len_v4 kept few

-- no group of up to 256 blocks ends at a bit that 16 bits can't count
pub end-in-16-bits : (L : ℕ) → L ≤ max_group_len → 112 * (L - 1) + 56 < 2 ^ 16
end-in-16-bits L h = let p : 2 ^ 16 ≡ 65536 = refl in omega arith
