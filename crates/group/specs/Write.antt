-- A group's bits (document 01, "Slopes and bits"), from its record and its blocks.
use Rattle.std.specs.Prelude.{ℕ, suc, ◌+◌, ◌-◌, ◌*◌, List, [], ◌∷◌, length}
use Rattle.serialize.specs.Digits.{le_bytes}
use Rattle.bitpacker.specs.Bits.{bytes_of}
use Rattle.bitpacker.specs.Fields.{group_val, group_bits}
use Rattle.slope.specs.Slope.{width_of, stored_of}
use Rattle.group.specs.declared.BlockAddr.{BlockAddr}
use Rattle.group.specs.declared.BlockAddrBlockMetadata.{BlockAddrBlockMetadata}

-- range points: starts of the blocks behind b, then the last end, relative to the base
unfoldable pub range_values : ℕ → BlockAddr → List BlockAddr → List ℕ
range_values base b [] = (b.end - base) ∷ []
range_values base b (c ∷ cs) = (c.start - base) ∷ range_values base c cs

-- ordinal points: ordinals of the blocks behind the first, relative to the base
unfoldable pub ordinal_values : ℕ → List BlockAddr → List ℕ
ordinal_values base [] = []
ordinal_values base (c ∷ cs) = (c.first_ordinal - base) ∷ ordinal_values base cs

-- what is stored of values, which are those of the points from i on
unfoldable pub fields : ℕ → ℕ → ℕ → List ℕ → List ℕ
fields slope width i [] = []
fields slope width i (v ∷ vs) = stored_of slope width i v ∷ fields slope width (suc i) vs

-- the record of the group of b and the blocks bs behind it, whose bits stand at `offset`; `choose` gives a slope for values
unfoldable pub meta_of : (List ℕ → ℕ) → ℕ → BlockAddr → List BlockAddr → BlockAddrBlockMetadata
meta_of choose offset b bs = record {
  offset = offset;
  range_start = b.start;
  first_ordinal = b.first_ordinal;
  range_start_slope = choose (range_values b.start b bs);
  first_ordinal_slope = choose (ordinal_values b.first_ordinal bs);
  first_ordinal_nbits = width_of (choose (ordinal_values b.first_ordinal bs)) (ordinal_values b.first_ordinal bs);
  range_start_nbits = width_of (choose (range_values b.start b bs)) (range_values b.start b bs);
  block_len = length bs;
}

-- what is kept of a record from planning to writing: each slope with its width, as one number; the range's, then the ordinals'
unfoldable pub plan_of : BlockAddrBlockMetadata → List ℕ
plan_of m = (256 * m.range_start_slope + m.range_start_nbits) ∷ (256 * m.first_ordinal_slope + m.first_ordinal_nbits) ∷ []

-- the group's fields as one number (SPECIFICATION 6.9)
unfoldable pub group_number : BlockAddrBlockMetadata → BlockAddr → List BlockAddr → ℕ
group_number m b bs =
    group_val m.range_start_nbits m.first_ordinal_nbits
    (fields m.range_start_slope m.range_start_nbits 1 (range_values b.start b bs))
    (fields m.first_ordinal_slope m.first_ordinal_nbits 1 (ordinal_values b.first_ordinal bs))

-- its bytes, the last one filled with zeros
unfoldable pub addr_bytes : BlockAddrBlockMetadata → BlockAddr → List BlockAddr → List ℕ
addr_bytes m b bs = le_bytes (bytes_of (group_bits m.range_start_nbits m.first_ordinal_nbits (length bs))) (group_number m b bs)
