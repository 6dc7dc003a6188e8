-- The blocks of a group of an area: its first, those behind it and all of them, and its record.
use Rattle.std.specs.Prelude.{ℕ, ◌+◌, ◌-◌, List}
use Rattle.slope.specs.declared.Slope.{Slope}
use Rattle.group.specs.Blocks.{block_at, blocks_at}
use Rattle.group.specs.declared.BlockAddr.{BlockAddr}
use Rattle.group.specs.declared.BlockAddrBlockMetadata.{BlockAddrBlockMetadata}
use Rattle.group_write.specs.declared.AreaGroup.{AreaGroup}

abbrev pub first_of : AreaGroup → BlockAddr
first_of g = block_at g.area.now g.stride g.first

abbrev pub rest_of : AreaGroup → List BlockAddr
rest_of g = blocks_at g.area.now g.stride (g.first + 1) (g.count - 1)

-- all of them
abbrev pub blocks_of : AreaGroup → List BlockAddr
blocks_of g = blocks_at g.area.now g.stride g.first g.count

-- the record with these slopes and widths
abbrev pub record_of : AreaGroup → Slope → Slope → ℕ → BlockAddrBlockMetadata
record_of g range ordinal offset = record {
  offset = offset;
  range_start = (first_of g).start;
  first_ordinal = (first_of g).first_ordinal;
  range_start_slope = range.slope;
  first_ordinal_slope = ordinal.slope;
  first_ordinal_nbits = ordinal.nbits;
  range_start_nbits = range.nbits;
  block_len = g.count - 1;
}
