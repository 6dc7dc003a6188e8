-- A group's bits are those that its fields make anew, but for the padding of the last byte.
use Prim.Native.Nat.{ℕ, zero, suc, ◌+◌, ◌-◌, ◌*◌, ◌/◌, ◌%◌, ◌^◌, ◌≤◌, ◌<◌, suc-le-suc}
use mathlib.Core.Path.{◌≡◌, refl, sym, ap, ◌∙◌}
use mathlib.Core.List.{List, ◌∷◌}
use native.Mathlib.Nat.{add_comm, zero-add, zero-mul, mod-one, mod-lt, le_refl, le-mul_of_pos_right, lt_of_lt_of_le}
use native.Mathlib.Numerals.{add-one}
use native.Mathlib.Omega.{arith}
use lib.ListN.{length, take, get_or}
use lib.Pow.{pow_pos, pow_mono, mod-pow-add}
use lib.Seq.{take_all}
use Rattle.serialize.specs.Digits.{le_val, le_bytes, DigitsBelow}
use Rattle.serialize.proofs.Digits.{of_digits-take, of_digits-digits_of-lt}
use Rattle.serialize.proofs.Numbers.{number-bytes}
use Rattle.bitpacker.specs.Bits.{bytes_of}
use Rattle.bitpacker.specs.Fields.{group_val, range_bit, ordinal_bit, group_bits}
use Rattle.bitpacker.proofs.Fields.{group-none, group-range, group-ordinal, group-bits-none, group-bits-ordinal}
use Rattle.slope.specs.Slope.{stored_of}
use Rattle.group.specs.declared.BlockAddrBlockMetadata.{BlockAddrBlockMetadata}
use Rattle.group.specs.Blocks.{block_of}
use Rattle.group.specs.Legal.{limit, Legal}
use Rattle.group.specs.Write.{range_values, ordinal_values, fields, group_number, addr_bytes}
use Rattle.group.specs.Read.{value_read, range_read, ordinal_read, block_read}
use Rattle.group.specs.Facts.{Readable}
use Rattle.group.proofs.Blocks.{legal-same, ends-rise, ordinals-rise}
use Rattle.group.proofs.Reading.{value_in}
use Rattle.group.proofs.Written.{
  length-range_values,
  length-ordinal_values,
  length_fields,
  fields_at,
  range-end-at,
  ordinal-at,
  length-addr_bytes,
}
use Rattle.store_canonical.specs.Canonical.{group_first, group_rest, padding_of}
use Rattle.store_canonical.proofs.Blocks.{length-blocks_from, blocks_from-all}

-- ---- fields that are read in N make N's low bits

module _ (r o k N : ℕ) (rs os : List ℕ) (hr : (j : ℕ) → j ≤ k → get_or rs j 0 ≡ N / 2 ^ range_bit r o j % 2 ^ r)
    (ho : (j : ℕ) → j < k → get_or os j 0 ≡ N / 2 ^ ordinal_bit r o j % 2 ^ o) where
  -- range i more
  half_is : (i : ℕ) → i ≤ k → group_val r o (take i rs) (take i os) ≡ N % 2 ^ range_bit r o i
      → group_val r o (take (suc i) rs) (take i os) ≡ N % 2 ^ ordinal_bit r o i
  half_is i h e =
      sym (group-range r o i rs (take i os))
      ∙ rw (hr i h, e) (sym (mod-pow-add N r (range_bit r o i)) ∙ ap (λ (n : ℕ). N % 2 ^ n) (add_comm r (range_bit r o i)))

  pairs_is : (i : ℕ) → i ≤ k → group_val r o (take i rs) (take i os) ≡ N % 2 ^ range_bit r o i
  pairs_is zero h = group-none r o ∙ rw (group-bits-none r o) (sym (mod-one N))
  pairs_is (suc i) h =
      sym (group-ordinal r o i (take (suc i) rs) os)
      ∙ rw (ho i h, half_is i (omega arith) (pairs_is i (omega arith)))
      (sym (mod-pow-add N o (ordinal_bit r o i)) ∙ ap (λ (n : ℕ). N % 2 ^ n) (add_comm o (ordinal_bit r o i) ∙ group-bits-ordinal r o i))

  pub group-is : length rs ≡ suc k → length os ≡ k → group_val r o rs os ≡ N % 2 ^ group_bits r o k
  group-is lr lo = rw (take_all (suc k) rs (omega arith), take_all k os (omega arith)) at (half_is k (le_refl k) (pairs_is k (le_refl k)))

-- ---- the bytes of W bits, of which the last is filled with zeros, stand in front exactly if the padding there is 0

module _ (W : ℕ) (l : List ℕ) (bytes : DigitsBelow 8 l) (inside : bytes_of W ≤ length l) where
  front-value : le_val (take (bytes_of W) l) ≡ (le_val l / 2 ^ W % 2 ^ (8 * bytes_of W - W)) * 2 ^ W + le_val l % 2 ^ W
  front-value =
      let e : 8 * bytes_of W ≡ 8 * bytes_of W - W + W = omega arith in
      of_digits-take 8 (bytes_of W) l bytes ∙ ap (λ (n : ℕ). le_val l % 2 ^ n) e ∙ mod-pow-add (le_val l) (8 * bytes_of W - W) W

  front-exact : le_val l / 2 ^ W % 2 ^ (8 * bytes_of W - W) ≡ 0 → take (bytes_of W) l ≡ le_bytes (bytes_of W) (le_val l % 2 ^ W)
  front-exact z =
      let v : le_val (take (bytes_of W) l) ≡ le_val l % 2 ^ W = front-value ∙ rw (z, zero-mul (2 ^ W), zero-add (le_val l % 2 ^ W)) refl in
      sym (number-bytes l 0 (bytes_of W) (omega arith) bytes) ∙ ap (le_bytes (bytes_of W)) v

  front-padding : take (bytes_of W) l ≡ le_bytes (bytes_of W) (le_val l % 2 ^ W) → le_val l / 2 ^ W % 2 ^ (8 * bytes_of W - W) ≡ 0
  front-padding e =
      let small : le_val l % 2 ^ W < 2 ^ (8 * bytes_of W) = lt_of_lt_of_le (mod-lt (le_val l) (pow_pos W)) (pow_mono (omega arith)) in
      let v : le_val (take (bytes_of W) l) ≡ le_val l % 2 ^ W = ap le_val e ∙ of_digits-digits_of-lt 8 (bytes_of W) (le_val l % 2 ^ W)
      small in
      omega (arith, front-value, le-mul_of_pos_right (le_val l / 2 ^ W % 2 ^ (8 * bytes_of W - W)) (pow_pos W))

-- ---- a value that is read stands for its field

-- what is stored of a value read in range, not below the first, is the field that it was read in
stored_is : (first field slope i width : ℕ) → value_read first field slope i width < limit → first ≤ value_read first field slope i width
    → stored_of slope width i (value_read first field slope i width - first) ≡ field
unfolding stored_of
stored_is first field slope i width small above = let e = value_in first field slope i width small in omega arith

module _ (m : BlockAddrBlockMetadata) (l : List ℕ) (bytes : DigitsBelow 8 l) (readable : Readable m (length l))
    (legal : Legal (block_read m (le_val l)) (m.block_len + 1)) where
  rest-length : length (group_rest m l) ≡ m.block_len
  rest-length = length-blocks_from (block_read m (le_val l)) 1 m.block_len

  rest_at : (j : ℕ) → j ≤ m.block_len → block_of (group_first m l ∷ group_rest m l) j ≡ block_read m (le_val l) j
  rest_at j h = blocks_from-all (block_read m (le_val l)) m.block_len j (suc-le-suc h)

  rest-legal : Legal (block_of (group_first m l ∷ group_rest m l)) (suc (length (group_rest m l)))
  rest-legal = legal-same (λ j h. rest_at j (omega (arith, rest-length))) (rw (rest-length, ← (add-one m.block_len)) legal)

  -- the fields that the writer makes are those that stand there
  ranges-is : (j : ℕ) → j ≤ m.block_len
      → get_or (fields m.range_start_slope m.range_start_nbits 1 (range_values (group_first m l).start (group_first m l) (group_rest m
      l))) j 0
      ≡ le_val l / 2 ^ range_bit m.range_start_nbits m.first_ordinal_nbits j % 2 ^ m.range_start_nbits
  unfolding block_read range_read
  ranges-is j h =
      let b = group_first m l in
      let bs = group_rest m l in
      let n = rest-length in
      fields_at m.range_start_slope m.range_start_nbits (range_values b.start b bs) j (omega (arith, length-range_values b.start b bs))
      ∙ rw (range-end-at b bs rest-legal b.start j (omega arith), rest_at j h)
      (stored_is m.range_start _ m.range_start_slope (suc j) m.range_start_nbits
      (legal.numbers j (omega arith)).end-small (ends-rise legal j (omega arith)))

  ordinals-is : (j : ℕ) → j < m.block_len
      → get_or (fields m.first_ordinal_slope m.first_ordinal_nbits 1 (ordinal_values (group_first m l).first_ordinal (group_rest m l))) j 0
      ≡ le_val l / 2 ^ ordinal_bit m.range_start_nbits m.first_ordinal_nbits j % 2 ^ m.first_ordinal_nbits
  unfolding block_read ordinal_read
  ordinals-is j h =
      let b = group_first m l in
      let bs = group_rest m l in
      let n = rest-length in
      fields_at m.first_ordinal_slope m.first_ordinal_nbits (ordinal_values b.first_ordinal bs) j
      (omega (arith, length-ordinal_values b.first_ordinal bs))
      ∙ rw (ordinal-at b.first_ordinal bs j (omega arith), rest_at (suc j) h)
      (stored_is m.first_ordinal _ m.first_ordinal_slope (suc j) m.first_ordinal_nbits
      (legal.numbers (suc j) (omega arith)).ordinal-small (ordinals-rise legal (suc j) (omega arith)))

  number_is : group_number m (group_first m l) (group_rest m l)
      ≡ le_val l % 2 ^ group_bits m.range_start_nbits m.first_ordinal_nbits m.block_len
  unfolding group_number
  number_is =
      let b = group_first m l in
      let bs = group_rest m l in
      group-is m.range_start_nbits m.first_ordinal_nbits m.block_len (le_val l) _ _ ranges-is ordinals-is
      (length_fields _ _ 1 (range_values b.start b bs) ∙ length-range_values b.start b bs ∙ ap suc rest-length)
      (length_fields _ _ 1 (ordinal_values b.first_ordinal bs) ∙ length-ordinal_values b.first_ordinal bs ∙ rest-length)

  bytes-is : addr_bytes m (group_first m l) (group_rest m l)
      ≡ le_bytes (bytes_of (group_bits m.range_start_nbits m.first_ordinal_nbits m.block_len))
      (le_val l % 2 ^ group_bits m.range_start_nbits m.first_ordinal_nbits m.block_len)
  unfolding addr_bytes
  bytes-is = rw (rest-length, number_is)

  bytes-length : length (addr_bytes m (group_first m l) (group_rest m l))
      ≡ bytes_of (group_bits m.range_start_nbits m.first_ordinal_nbits m.block_len)
  bytes-length = length-addr_bytes m (group_first m l) (group_rest m l) ∙ rw rest-length

  -- with no padding, the bytes that the writer makes stand in front
  pub bits-exact : padding_of m l ≡ 0
      → take (length (addr_bytes m (group_first m l) (group_rest m l))) l ≡ addr_bytes m (group_first m l) (group_rest m l)
  bits-exact z = rw (bytes-length, bytes-is) (front-exact _ l bytes readable.inside z)

  -- and where they stand, there is none
  pub padding-zero : take (length (addr_bytes m (group_first m l) (group_rest m l))) l ≡ addr_bytes m (group_first m l) (group_rest m l)
      → padding_of m l ≡ 0
  padding-zero e = front-padding _ l bytes readable.inside (rw (bytes-length, bytes-is) at e)
