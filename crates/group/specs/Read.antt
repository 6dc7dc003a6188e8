-- A group read (document 01, "Opening and lookups", rows 15 and 16): its rule, and the values in its bits.
use Rattle.std.specs.Prelude.{ℕ, zero, suc, ◌+◌, ◌-◌, ◌*◌, ◌/◌, ◌%◌, ◌^◌, Bool, not, ◌||◌, cond, eqb, ltb, leb}
use Rattle.bitpacker.specs.Bits.{bytes_of}
use Rattle.bitpacker.specs.Fields.{range_bit, ordinal_bit, group_bits}
use Rattle.group.specs.Legal.{limit}
use Rattle.group.specs.declared.BlockAddr.{BlockAddr}
use Rattle.group.specs.declared.BlockAddrBlockMetadata.{BlockAddrBlockMetadata}

-- a width outside 1..56
unfoldable pub width_bad : ℕ → Bool
width_bad w = ltb w 1 || ltb 56 w

-- row 15 (SPECIFICATION 13.15) for a group that should have `count` blocks, in a store with `len` address bytes
unfoldable pub group_bad : BlockAddrBlockMetadata → ℕ → ℕ → Bool
group_bad m count len =
    width_bad m.first_ordinal_nbits || width_bad m.range_start_nbits
    || not (eqb (m.block_len + 1) count)
    || ltb len (m.offset + bytes_of (group_bits m.range_start_nbits m.first_ordinal_nbits m.block_len))

-- row 16 for a group's first values: one is outside the range
abbrev pub first_values_bad : BlockAddrBlockMetadata → Bool
first_values_bad m = leb limit m.range_start || leb limit m.first_ordinal

-- the value of a field (SPECIFICATION 8.4); one below 0 stands as the limit, which is out of range too
unfoldable pub value_read : ℕ → ℕ → ℕ → ℕ → ℕ → ℕ
value_read first field slope i width =
    cond (ltb (first + field + slope * i) (2 ^ (width - 1))) limit (first + field + slope * i - 2 ^ (width - 1))

-- start i of the group whose bits spell N, for i up to the last block's; the one behind it is the last end
unfoldable pub range_read : BlockAddrBlockMetadata → ℕ → ℕ → ℕ
range_read m N zero = m.range_start
range_read m N (suc j) =
    value_read m.range_start (N / 2 ^ range_bit m.range_start_nbits m.first_ordinal_nbits j % 2 ^ m.range_start_nbits)
    m.range_start_slope (suc j) m.range_start_nbits

-- ordinal i of the group
unfoldable pub ordinal_read : BlockAddrBlockMetadata → ℕ → ℕ → ℕ
ordinal_read m N zero = m.first_ordinal
ordinal_read m N (suc j) =
    value_read m.first_ordinal (N / 2 ^ ordinal_bit m.range_start_nbits m.first_ordinal_nbits j % 2 ^ m.first_ordinal_nbits)
    m.first_ordinal_slope (suc j) m.first_ordinal_nbits

-- block i of the group
unfoldable pub block_read : BlockAddrBlockMetadata → ℕ → ℕ → BlockAddr
block_read m N i = record {
  start = range_read m N i;
  end = range_read m N (suc i);
  first_ordinal = ordinal_read m N i;
}
