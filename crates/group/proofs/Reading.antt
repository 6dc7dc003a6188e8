-- Laws of a group read: row 15 as plain facts, and a value in range as a sum.
use mathlib.Core.Path.{◌≡◌, refl, ap₂}
use mathlib.Core.Bool.{false, ◌||◌}
use Prim.Native.Nat.{zero, ℕ, suc, ◌+◌, ◌-◌, ◌*◌, ◌/◌, ◌%◌, ◌^◌, ◌≤◌, ◌<◌}
use native.Mathlib.Nat.{mod-lt, lt_of_lt_of_le, lt_of_not-le, le_of_suc-le-suc}
use native.Mathlib.Numerals.{sub-one}
use native.Mathlib.Omega.{arith}
use borrow.Author.Tests.{ltb-false, eqb-true, not-false, le-ltb, lt-ltb, eq-eqb}
use lib.Dec.{ltb}
use lib.Pow.{pow_pos, pow_mono}
use Rattle.std.proofs.lemmas.Bool.{or_parts}
use Rattle.layout.specs.Layout.{max_group_len}
use Rattle.bitpacker.specs.Bits.{bytes_of}
use Rattle.bitpacker.specs.Fields.{range_bit, ordinal_bit, group_bits}
use Rattle.group.specs.Legal.{limit}
use Rattle.group.specs.Read.{width_bad, group_bad, value_read, range_read, ordinal_read}
use Rattle.group.specs.Facts.{Readable}
use Rattle.group.specs.declared.BlockAddrBlockMetadata.{BlockAddrBlockMetadata}

-- ---- row 15

pub width-ok : (w : ℕ) → width_bad w ≡ false → (1 ≤ w) × (w ≤ 56)
unfolding width_bad
width-ok w e = let t = or_parts (ltb w 1) (ltb 56 w) e in (ltb-false w 1 t.0, ltb-false 56 w t.1)

pub width-not-bad : (w : ℕ) → 1 ≤ w → w ≤ 56 → width_bad w ≡ false
unfolding width_bad
width-not-bad w l h = ap₂ ◌||◌ (le-ltb w 1 l) (le-ltb 56 w h)

-- what row 15 asks of a group that is to have `count` blocks, in a store with `len` address bytes
pub record GroupOk (m : BlockAddrBlockMetadata) (count len : ℕ) : Type 0 where
  pub ordinal-low : 1 ≤ m.first_ordinal_nbits
  pub ordinal-high : m.first_ordinal_nbits ≤ 56
  pub range-low : 1 ≤ m.range_start_nbits
  pub range-high : m.range_start_nbits ≤ 56
  pub blocks : m.block_len + 1 ≡ count
  pub inside : m.offset + bytes_of (group_bits m.range_start_nbits m.first_ordinal_nbits m.block_len) ≤ len

module _ (m : BlockAddrBlockMetadata) (count len : ℕ) where
  pub group-ok : group_bad m count len ≡ false → GroupOk m count len
  unfolding group_bad
  group-ok e =
      let inside = or_parts _ _ e in
      let blocks = or_parts _ _ inside.0 in
      let widths = or_parts _ _ blocks.0 in
      let o = width-ok m.first_ordinal_nbits widths.0 in
      let r = width-ok m.range_start_nbits widths.1 in
      record {
        ordinal-low = o.0;
        ordinal-high = o.1;
        range-low = r.0;
        range-high = r.1;
        blocks = eqb-true (m.block_len + 1) count (not-false _ blocks.1);
        inside = ltb-false len _ inside.1;
      }

  pub group-not-bad : GroupOk m count len → group_bad m count len ≡ false
  unfolding group_bad
  group-not-bad k =
      rw (
        width-not-bad m.first_ordinal_nbits k.ordinal-low k.ordinal-high,
        width-not-bad m.range_start_nbits k.range-low k.range-high,
        eq-eqb (m.block_len + 1) count k.blocks,
        le-ltb len _ k.inside,
      )

  pub readable : GroupOk m count len → count ≤ max_group_len → m.range_start < limit → m.first_ordinal < limit → Readable m (len - m.offset)
  readable k few s o = record {
    range-low = k.range-low;
    range-high = k.range-high;
    ordinal-low = k.ordinal-low;
    ordinal-high = k.ordinal-high;
    few = let e = k.blocks in omega arith;
    inside = let h = k.inside in omega arith;
    start_small = s;
    ordinal-small = o;
  }

-- ---- values

pub field_lt : (N at w : ℕ) → w ≤ 56 → N / 2 ^ at % 2 ^ w < 2 ^ 56
field_lt N at w h = lt_of_lt_of_le (mod-lt (N / 2 ^ at) (pow_pos w)) (pow_mono h)

module _ (first field slope i width : ℕ) where
  -- a sum below 0 stands as the limit
  pub value-below : first + field + slope * i < 2 ^ (width - 1) → value_read first field slope i width ≡ limit
  unfolding value_read
  value-below h = simp (lt-ltb (first + field + slope * i) (2 ^ (width - 1)) h)

  pub value-above : 2 ^ (width - 1) ≤ first + field + slope * i
      → value_read first field slope i width ≡ first + field + slope * i - 2 ^ (width - 1)
  unfolding value_read
  value-above h = simp (le-ltb (first + field + slope * i) (2 ^ (width - 1)) h)

  -- a value read in range is the whole-number sum
  pub value_in : value_read first field slope i width < limit
      → first + field + slope * i ≡ value_read first field slope i width + 2 ^ (width - 1)
  value_in h =
      let above : 2 ^ (width - 1) ≤ first + field + slope * i =
      le_of_suc-le-suc (lt_of_not-le (λ (g : first + field + slope * i < 2 ^ (width - 1)). let e = value-below g in omega arith)) in
      omega (arith, value-above above)

  -- and a sum that isn't below 0 is the value
  pub value-is : (v : ℕ) → first + field + slope * i ≡ v + 2 ^ (width - 1) → value_read first field slope i width ≡ v
  value-is v e = let above : 2 ^ (width - 1) ≤ first + field + slope * i = omega arith in omega (arith, value-above above)

-- the value behind the first, at i instead of suc j
pub range_read-suc : (m : BlockAddrBlockMetadata) (N i : ℕ) → 0 < i
    → range_read m N i
    ≡ value_read m.range_start (N / 2 ^ range_bit m.range_start_nbits m.first_ordinal_nbits (i - 1) % 2 ^ m.range_start_nbits)
    m.range_start_slope i m.range_start_nbits
unfolding range_read
range_read-suc m N zero h = elim h [ ]
range_read-suc m N (suc j) h = rw (sub-one (suc j)) refl

pub ordinal_read-suc : (m : BlockAddrBlockMetadata) (N i : ℕ) → 0 < i
    → ordinal_read m N i
    ≡ value_read m.first_ordinal (N / 2 ^ ordinal_bit m.range_start_nbits m.first_ordinal_nbits (i - 1) % 2 ^ m.first_ordinal_nbits)
    m.first_ordinal_slope i m.first_ordinal_nbits
unfolding ordinal_read
ordinal_read-suc m N zero h = elim h [ ]
ordinal_read-suc m N (suc j) h = rw (sub-one (suc j)) refl
