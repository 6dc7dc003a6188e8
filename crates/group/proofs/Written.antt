-- A group's points and fields by their places, that a record with slopes of 32 bits fits legal blocks, and how many bytes they take.
use Prim.Native.Nat.{ℕ, zero, suc, ◌+◌, ◌-◌, ◌^◌, ◌≤◌, ◌<◌}
use mathlib.Core.Path.{◌≡◌, refl, ap, ◌∙◌}
use mathlib.Core.List.{List, [], ◌∷◌}
use mathlib.Core.Logic.{⊎_elim}
use native.Mathlib.Nat.{add-zero, add-suc, suc-add, eq-or-lt_of_le, le_of_suc-le-suc, lt_of_lt_of_le}
use native.Mathlib.Omega.{arith}
use native.Mathlib.Numerals.{one-add}
use lib.ListN.{length, get_or}
use lib.Pow.{pow_pos}
use Rattle.serialize.specs.Digits.{DigitsBelow}
use Rattle.serialize.proofs.Digits.{length-digits_of}
use Rattle.bitpacker.specs.Bits.{bytes_of}
use Rattle.bitpacker.specs.Fields.{group_bits}
use Rattle.slope.specs.Slope.{stored_of, width_of}
use Rattle.slope.proofs.Widths.{StoredFits, stored-fits, width-pos, width-le, max_derivation-below}
use Rattle.group.specs.Blocks.{block_of}
use Rattle.group.specs.Legal.{Legal, limit}
use Rattle.group.specs.Write.{range_values, ordinal_values, fields, meta_of, group_number, addr_bytes}
use Rattle.group.specs.Facts.{Takes, Fitting}
use Rattle.group.specs.declared.BlockAddr.{BlockAddr}
use Rattle.group.specs.declared.BlockAddrBlockMetadata.{BlockAddrBlockMetadata}
use Rattle.group.proofs.Limit.{limit-high}
use Rattle.group.proofs.Metadata.{MetaFits}

-- ---- points

pub length-range_values : (base : ℕ) (b : BlockAddr) (bs : List BlockAddr) → length (range_values base b bs) ≡ suc (length bs)
unfolding range_values
length-range_values base b [] = refl
length-range_values base b (c ∷ cs) = ap suc (length-range_values base c cs)

pub length-ordinal_values : (base : ℕ) (bs : List BlockAddr) → length (ordinal_values base bs) ≡ length bs
unfolding ordinal_values
length-ordinal_values base [] = refl
length-ordinal_values base (c ∷ cs) = ap suc (length-ordinal_values base cs)

-- the point of each block behind the first is its start, and the last one is the last end
pub range-start-at : (base : ℕ) (b : BlockAddr) (bs : List BlockAddr) (j : ℕ) → j < length bs
    → get_or (range_values base b bs) j 0 ≡ (block_of bs j).start - base
unfolding range_values
range-start-at base b [] j h = elim h [ ]
range-start-at base b (c ∷ cs) zero h = refl
range-start-at base b (c ∷ cs) (suc j) h = range-start-at base c cs j (omega arith)

pub range-last-at : (base : ℕ) (b : BlockAddr) (bs : List BlockAddr)
    → get_or (range_values base b bs) (length bs) 0 ≡ (block_of (b ∷ bs) (length bs)).end - base
unfolding range_values
range-last-at base b [] = refl
range-last-at base b (c ∷ cs) = range-last-at base c cs

pub ordinal-at : (base : ℕ) (bs : List BlockAddr) (j : ℕ) → j < length bs
    → get_or (ordinal_values base bs) j 0 ≡ (block_of bs j).first_ordinal - base
unfolding ordinal_values
ordinal-at base [] j h = elim h [ ]
ordinal-at base (c ∷ cs) zero h = refl
ordinal-at base (c ∷ cs) (suc j) h = ordinal-at base cs j (omega arith)

-- ---- fields

pub length_fields : (slope width i : ℕ) (vs : List ℕ) → length (fields slope width i vs) ≡ length vs
unfolding fields
length_fields slope width i [] = refl
length_fields slope width i (v ∷ vs) = ap suc (length_fields slope width (suc i) vs)

fields-at-from : (slope width i : ℕ) (vs : List ℕ) (j : ℕ) → j < length vs
    → get_or (fields slope width i vs) j 0 ≡ stored_of slope width (i + j) (get_or vs j 0)
unfolding fields
fields-at-from slope width i [] j h = elim h [ ]
fields-at-from slope width i (v ∷ vs) zero h = rw add-zero
fields-at-from slope width i (v ∷ vs) (suc j) h =
    rw (add-suc i j, ← (suc-add i j)) (fields-at-from slope width (suc i) vs j (omega arith))

pub fields_at : (slope width : ℕ) (vs : List ℕ) (j : ℕ) → j < length vs
    → get_or (fields slope width 1 vs) j 0 ≡ stored_of slope width (suc j) (get_or vs j 0)
fields_at slope width vs j h = rw one-add at (fields-at-from slope width 1 vs j h)

-- ---- a record that fits

-- the width that is worked out takes what is stored of up to 256 values below the limit, with any slope of 32 bits
pub takes : (s : ℕ) (vs : List ℕ) → s < 2 ^ 32 → length vs ≤ 256 → ((j : ℕ) → j < length vs → get_or vs j 0 < limit)
    → Takes s (width_of s vs) vs
takes s vs slope few small =
    let below : (j : ℕ) → j < length vs → get_or vs j 0 < 2 ^ 55 = λ j h. lt_of_lt_of_le (small j h) limit-high in
    let near = max_derivation-below s 55 vs slope few below (omega arith) in
    let fit : (j : ℕ) → j < length vs → StoredFits s (width_of s vs) (suc j) (get_or vs j 0) = λ j h. stored-fits s vs j (omega arith) h in
    record {
      low = width-pos s vs;
      high = width-le s 55 vs slope few below (omega arith) (omega arith);
      shifted = λ j h. (fit j h).above;
      fits = λ j h. (fit j h).below;
    }

-- a list whose elements are below 2 ^ k, also behind its end
below_all : (k : ℕ) (l : List ℕ) → ((j : ℕ) → j < length l → get_or l j 0 < 2 ^ k) → DigitsBelow k l
below_all k [] h i = pow_pos k
below_all k (x ∷ xs) h zero = h 0 (omega arith)
below_all k (x ∷ xs) h (suc i) = below_all k xs (λ j l. h (suc j) (omega arith)) i

-- what is stored of such values are digits of that width
pub takes-below : (s w : ℕ) (vs : List ℕ) → Takes s w vs → DigitsBelow w (fields s w 1 vs)
takes-below s w vs t = below_all w (fields s w 1 vs) (λ j h.
    let l : j < length vs = rw (length_fields s w 1 vs) at h in
    rw (fields_at s w vs j l) (t.fits j l))

module _ (b : BlockAddr) (bs : List BlockAddr) (legal : Legal (block_of (b ∷ bs)) (suc (length bs))) where
  -- blocks touch, so that every range point is an end
  pub range-end-at : (base j : ℕ) → j < suc (length bs) → get_or (range_values base b bs) j 0 ≡ (block_of (b ∷ bs) j).end - base
  range-end-at base j h =
      ⊎_elim (λ l. rw l (range-last-at base b bs))
      (λ l. range-start-at base b bs j l ∙ ap (λ (x : ℕ). x - base) (legal.follows j (omega arith)).touches)
      (eq-or-lt_of_le (le_of_suc-le-suc h))

  pub range_small : (base j : ℕ) → j < length (range_values base b bs) → get_or (range_values base b bs) j 0 < limit
  range_small base j h =
      let l : j < suc (length bs) = rw (length-range_values base b bs) at h in
      rw (range-end-at base j l) (omega (arith, legal.numbers j l))

  pub ordinal-small : (base j : ℕ) → j < length (ordinal_values base bs) → get_or (ordinal_values base bs) j 0 < limit
  ordinal-small base j h =
      let l : j < length bs = rw (length-ordinal_values base bs) at h in
      rw (ordinal-at base bs j l) (omega (arith, legal.numbers (suc j) (omega arith)))

  -- every point's stored value lies in 0..2^width - 1, and no width is above 56
  pub fits : (choose : List ℕ → ℕ) (offset : ℕ) → ((vs : List ℕ) → choose vs < 2 ^ 32) → length bs < 256
      → Fitting (meta_of choose offset b bs) b bs
  unfolding meta_of
  fits choose offset slopes few = record {
    start = refl;
    ordinal = refl;
    blocks = refl;
    ranges =
        takes (choose (range_values b.start b bs)) (range_values b.start b bs) (slopes (range_values b.start b bs))
        (omega (arith, length-range_values b.start b bs)) (range_small b.start);
    ordinals =
        takes (choose (ordinal_values b.first_ordinal bs)) (ordinal_values b.first_ordinal bs) (slopes (ordinal_values b.first_ordinal bs))
        (omega (arith, length-ordinal_values b.first_ordinal bs)) (ordinal-small b.first_ordinal);
  }

  -- and every number of the record fits its bytes
  pub meta-fits : (choose : List ℕ → ℕ) (offset : ℕ) → offset < 2 ^ 64 → ((vs : List ℕ) → choose vs < 2 ^ 32) → length bs < 256
      → MetaFits (meta_of choose offset b bs)
  unfolding meta_of
  meta-fits choose offset small slopes few =
      let fit = fits choose offset slopes few in
      let first = legal.numbers 0 (omega arith) in
      let s = limit-high in
      record {
        offset = small;
        range-start = omega (arith, first.ordered, first.end-small);
        first-ordinal = omega (arith, first.ordinal-small);
        range-start-slope = slopes _;
        first-ordinal-slope = slopes _;
        first-ordinal-nbits = omega (arith, fit.ordinals.high);
        range-start-nbits = omega (arith, fit.ranges.high);
        block-len = omega arith;
      }

pub length-addr_bytes : (m : BlockAddrBlockMetadata) (b : BlockAddr) (bs : List BlockAddr)
    → length (addr_bytes m b bs) ≡ bytes_of (group_bits m.range_start_nbits m.first_ordinal_nbits (length bs))
unfolding addr_bytes
length-addr_bytes m b bs =
    length-digits_of 8 (bytes_of (group_bits m.range_start_nbits m.first_ordinal_nbits (length bs))) (group_number m b bs)
