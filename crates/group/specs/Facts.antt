-- What the functions that write and read a group ask: blocks that keep the rules, fields that fit their widths, a group that keeps row 15.
use Rattle.std.specs.Prelude.{ℕ, suc, ◌+◌, ◌-◌, ◌*◌, ◌^◌, ◌≤◌, ◌<◌, ◌≡◌, List, length, get_or}
use Rattle.layout.specs.Layout.{max_group_len}
use Rattle.bitpacker.specs.Bits.{bytes_of}
use Rattle.bitpacker.specs.Fields.{group_bits}
use Rattle.slope.specs.Slope.{stored_of}
use Rattle.group.specs.Blocks.{block_at}
use Rattle.group.specs.Legal.{limit, Legal}
use Rattle.group.specs.Write.{range_values, ordinal_values}
use Rattle.group.specs.declared.BlockAddr.{BlockAddr}
use Rattle.group.specs.declared.BlockAddrBlockMetadata.{BlockAddrBlockMetadata}

-- `count` blocks of the area from block `first` on: one at least, 256 at most, all inside the area, and legal
pub record GroupArea (area : List ℕ) (stride first count : ℕ) : Type 0 where
  pub some : 1 ≤ count
  pub few : count ≤ max_group_len
  pub wide : 3 ≤ stride
  pub inside : stride * (first + count) ≤ length area
  pub legal : Legal (λ i. block_at area stride (first + i)) count

-- a width of 1 to 56 that takes what is stored of each value
pub record Takes (slope width : ℕ) (values : List ℕ) : Type 0 where
  pub low : 1 ≤ width
  pub high : width ≤ 56
  pub shifted : (j : ℕ) → j < length values → slope * suc j ≤ get_or values j 0 + 2 ^ (width - 1)
  pub fits : (j : ℕ) → j < length values → stored_of slope width (suc j) (get_or values j 0) < 2 ^ width

-- a record that fits the group of b and the blocks bs behind it, however its slopes were chosen
pub record Fitting (m : BlockAddrBlockMetadata) (b : BlockAddr) (bs : List BlockAddr) : Type 0 where
  pub start : m.range_start ≡ b.start
  pub ordinal : m.first_ordinal ≡ b.first_ordinal
  pub blocks : m.block_len ≡ length bs
  pub ranges : Takes m.range_start_slope m.range_start_nbits (range_values b.start b bs)
  pub ordinals : Takes m.first_ordinal_slope m.first_ordinal_nbits (ordinal_values b.first_ordinal bs)

-- a group of at most 256 blocks that keeps row 15, with its first values in range, whose bits are in `len` bytes
pub record Readable (m : BlockAddrBlockMetadata) (len : ℕ) : Type 0 where
  pub range-low : 1 ≤ m.range_start_nbits
  pub range-high : m.range_start_nbits ≤ 56
  pub ordinal-low : 1 ≤ m.first_ordinal_nbits
  pub ordinal-high : m.first_ordinal_nbits ≤ 56
  pub few : m.block_len < max_group_len
  pub inside : bytes_of (group_bits m.range_start_nbits m.first_ordinal_nbits m.block_len) ≤ len
  pub start_small : m.range_start < limit
  pub ordinal-small : m.first_ordinal < limit
