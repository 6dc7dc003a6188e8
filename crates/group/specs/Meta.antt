-- The group record, `BlockAddrBlockMetadata` (SPECIFICATION 3.1): three numbers of 8 bytes, two of 4, two of 1 and one of 2.
-- The ordinal's width stands before the range's.
use Rattle.std.specs.Prelude.{ℕ, ◌+◌, List, ◌++◌}
use Rattle.serialize.specs.Digits.{le_bytes, number_at}
use Rattle.group.specs.declared.BlockAddrBlockMetadata.{BlockAddrBlockMetadata}

-- the 36 bytes of a group record
unfoldable pub meta_bytes : BlockAddrBlockMetadata → List ℕ
meta_bytes m =
    le_bytes 8 m.offset ++ le_bytes 8 m.range_start ++ le_bytes 8 m.first_ordinal
    ++ le_bytes 4 m.range_start_slope ++ le_bytes 4 m.first_ordinal_slope
    ++ le_bytes 1 m.first_ordinal_nbits ++ le_bytes 1 m.range_start_nbits ++ le_bytes 2 m.block_len

-- the group record that stands at `at`
unfoldable pub metadata_at : List ℕ → ℕ → BlockAddrBlockMetadata
metadata_at bytes at = record {
  offset = number_at bytes at 8;
  range_start = number_at bytes (at + 8) 8;
  first_ordinal = number_at bytes (at + 16) 8;
  range_start_slope = number_at bytes (at + 24) 4;
  first_ordinal_slope = number_at bytes (at + 28) 4;
  first_ordinal_nbits = number_at bytes (at + 32) 1;
  range_start_nbits = number_at bytes (at + 33) 1;
  block_len = number_at bytes (at + 34) 2;
}
