-- A field of a written group needs 56 bits at most, and one block needs them.
use Prim.Native.Nat.{ℕ, ◌-◌, ◌≤◌, ◌<◌, ◌^◌}
use mathlib.Core.Path.{◌≡◌, refl}
use mathlib.Core.List.{List, []}
use lib.ListN.{length, get_or}
use lib.Count.{count_leading_zeros}
use Rattle.bitpacker.specs.Bits.{num_bits_of}
use Rattle.slope.specs.Slope.{
  best_slope,
  slope_between,
  lowest,
  highest,
  points_from,
  width_of,
  max_derivation,
  derivation,
}
use Rattle.group.specs.declared.BlockAddr.{BlockAddr}
use Rattle.group.specs.declared.BlockAddrBlockMetadata.{BlockAddrBlockMetadata}
use Rattle.group.specs.Legal.{limit}
use Rattle.group.specs.Write.{range_values, meta_of}
use Rattle.group.proofs.Written.{takes}

-- values below the limit, with any slope of 32 bits, in a group of at most 256 blocks
pub width-most : (s : ℕ) (vs : List ℕ) → s < 2 ^ 32 → length vs ≤ 256 → ((j : ℕ) → j < length vs → get_or vs j 0 < limit)
    → width_of s vs ≤ 56
width-most s vs slope few small = (takes s vs slope few small).high

-- the block from 0 to the highest number below the limit
abbrev pub widest_block : BlockAddr
widest_block = record { start = 0; end = limit - 1; first_ordinal = 0 }

pub widest-slope : (meta_of best_slope 0 widest_block []).range_start_slope ≡ 4294967295
unfolding limit meta_of range_values best_slope slope_between lowest highest points_from
widest-slope = refl

pub widest-width : (meta_of best_slope 0 widest_block []).range_start_nbits ≡ 56
unfolding limit meta_of range_values best_slope slope_between lowest highest points_from
    width_of max_derivation derivation num_bits_of count_leading_zeros
widest-width = refl
