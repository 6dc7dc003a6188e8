-- Of both fields read at once the low part is the range's and the rest the ordinal's.
use Rattle.std.proofs.Common.{◌≡◌, ℕ, ◌+◌, ◌-◌, ◌*◌, ◌/◌, ◌%◌, ◌^◌, ◌≤◌, ◌<◌, ◌∙◌, ap, arith, bit_and}
use Rattle.std.proofs.lemmas.Nat.{one_shl}
use native.Mathlib.Nat.{add_comm}
use lib.Bits.{and_mask}
use lib.Pow.{pow_pos, shr-shr, field}
use Rattle.serialize.specs.Digits.{le_val}
use Rattle.serialize.proofs.Digits.{mod-mod-le}
use Rattle.bitpacker.specs.Fields.{range_bit, ordinal_bit}
use Rattle.group.proofs.Reading.{field_lt, range_read-suc, ordinal_read-suc}
use Rattle.group_read.proofs.Group.block_start.Goals as goal

-- the two parts of both fields
module _ (N r o j bit both : ℕ) (few : r ≤ 56) (at : bit ≡ range_bit r o j) (read : both ≡ N / 2 ^ bit % 2 ^ (r + o)) where
  e : both ≡ N / 2 ^ range_bit r o j % 2 ^ (r + o)
  e = rw at at read

  range-part : bit_and both (1 * 2 ^ r % 2 ^ 64 - 1) ≡ N / 2 ^ range_bit r o j % 2 ^ r
  range-part =
      ap (λ (m : ℕ). bit_and both (m - 1)) (one_shl r 64 (omega arith))
      ∙ and_mask both r
      ∙ ap (λ (x : ℕ). x % 2 ^ r) e
      ∙ mod-mod-le (N / 2 ^ range_bit r o j) r (r + o) (omega arith)

  ordinal-part : both / 2 ^ r ≡ N / 2 ^ ordinal_bit r o j % 2 ^ o
  ordinal-part =
      ap (λ (x : ℕ). x / 2 ^ r) e
      ∙ ap (λ (w : ℕ). N / 2 ^ range_bit r o j % 2 ^ w / 2 ^ r) (add_comm r o)
      ∙ field (N / 2 ^ range_bit r o j) o r
      ∙ ap (λ (x : ℕ). x % 2 ^ o) (shr-shr N (range_bit r o j) r)

  range_small : bit_and both (1 * 2 ^ r % 2 ^ 64 - 1) < 2 ^ 56
  range_small = rw range-part (field_lt N (range_bit r o j) r few)

  ordinal-small : o ≤ 56 → both / 2 ^ r < 2 ^ 56
  ordinal-small h = rw ordinal-part (field_lt N (ordinal_bit r o j) o h)

pub overflow_sub-range : goal.overflow_sub-range
overflow_sub-range c = let w = c.widths-widths.result in rw (one_shl w.range 64 (omega (arith, w.fit.0))) (pow_pos w.range)

pub value-requires : goal.value-requires
value-requires c = (range_small _ _ _ _ _ _ c.widths-widths.result.fit.0 c.range_bit-bit.ensures c.extract_bits-both.ensures, omega arith)

pub value-requires-2 : goal.value-requires-2
value-requires-2 c =
    let w = c.widths-widths.result in
    (ordinal-small _ _ _ _ _ _ w.fit.0 c.range_bit-bit.ensures c.extract_bits-both.ensures w.fit.1, omega arith)

pub returns : goal.returns
returns c =
    let g = c.args.self.now in
    let N = le_val g.«data».now in
    let few = c.widths-widths.result.fit.0 in
    let range = range-part _ _ _ _ _ _ few c.range_bit-bit.ensures c.extract_bits-both.ensures in
    let ordinal = ordinal-part _ _ _ _ _ _ few c.range_bit-bit.ensures c.extract_bits-both.ensures in
    let start = range_read-suc g.meta N c.args.i (omega arith) in
    let first = ordinal_read-suc g.meta N c.args.i (omega arith) in
    ((cc), (cc))
