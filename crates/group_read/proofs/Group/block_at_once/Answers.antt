-- Of the three fields read at once the low part is the start's, the middle the ordinal's and the rest the end's.
use Rattle.std.proofs.Common.{◌≡◌, ℕ, suc, ◌+◌, ◌-◌, ◌*◌, ◌/◌, ◌%◌, ◌^◌, ◌≤◌, ◌<◌, ◌∙◌, ap, arith, bit_and}
use Rattle.std.proofs.lemmas.Nat.{one_shl, shr_le, and_le_l}
use native.Mathlib.Nat.{lt_of_le_of_lt, mul-suc}
use lib.Bits.{and_mask}
use lib.Pow.{shr-shr, field}
use Rattle.serialize.specs.Digits.{le_val}
use Rattle.serialize.proofs.Digits.{mod-mod-le}
use Rattle.bitpacker.specs.Fields.{range_bit, ordinal_bit}
use Rattle.group.specs.Read.{range_read, ordinal_read, block_read}
use Rattle.group.proofs.Reading.{field_lt, range_read-suc, ordinal_read-suc}
use Rattle.group_read.proofs.Group.block_at_once.Goals as goal

-- the three parts
module _ (N r o j bit all : ℕ) (few : 2 * r + o ≤ 56) (at : bit ≡ range_bit r o j) (read : all ≡ N / 2 ^ bit % 2 ^ (2 * r + o)) where
  e : all ≡ N / 2 ^ range_bit r o j % 2 ^ (2 * r + o)
  e = rw at at read

  mask : (x w : ℕ) → w ≤ 56 → bit_and x (1 * 2 ^ w % 2 ^ 64 - 1) ≡ x % 2 ^ w
  mask x w h = ap (λ (m : ℕ). bit_and x (m - 1)) (one_shl w 64 (omega arith)) ∙ and_mask x w

  -- what is left behind the k low bits of all three, of which `low` are the others'
  rest : (k low : ℕ) → 2 * r + o ≡ low + k → all / 2 ^ k ≡ N / 2 ^ (range_bit r o j + k) % 2 ^ low
  rest k low h =
      ap (λ (x : ℕ). x / 2 ^ k) e
      ∙ ap (λ (w : ℕ). N / 2 ^ range_bit r o j % 2 ^ w / 2 ^ k) h
      ∙ field (N / 2 ^ range_bit r o j) low k
      ∙ ap (λ (x : ℕ). x % 2 ^ low) (shr-shr N (range_bit r o j) k)

  range-part : bit_and all (1 * 2 ^ r % 2 ^ 64 - 1) ≡ N / 2 ^ range_bit r o j % 2 ^ r
  range-part = mask all r (omega arith) ∙ ap (λ (x : ℕ). x % 2 ^ r) e ∙ mod-mod-le (N / 2 ^ range_bit r o j) r (2 * r + o) (omega arith)

  ordinal-part : bit_and (all / 2 ^ r) (1 * 2 ^ o % 2 ^ 64 - 1) ≡ N / 2 ^ ordinal_bit r o j % 2 ^ o
  ordinal-part =
      mask (all / 2 ^ r) o (omega arith)
      ∙ ap (λ (x : ℕ). x % 2 ^ o) (rest r (r + o) (omega arith))
      ∙ mod-mod-le (N / 2 ^ ordinal_bit r o j) o (r + o) (omega arith)

  next-part : all / 2 ^ (r + o) ≡ N / 2 ^ range_bit r o (j + 1) % 2 ^ r
  next-part =
      rest (r + o) r (omega arith)
      ∙ ap (λ (b : ℕ). N / 2 ^ b % 2 ^ r) (let m = mul-suc (r + o) j in omega arith)

all-small : (N bit w all : ℕ) → w ≤ 56 → all ≡ N / 2 ^ bit % 2 ^ w → all < 2 ^ 56
all-small N bit w all h e = rw e (field_lt N bit w h)

pub value-requires-2 : goal.value-requires-2
value-requires-2 c =
    (lt_of_le_of_lt (shr_le _ _) (all-small _ _ _ _ (omega arith) c.extract_bits-all.ensures), omega arith)

pub value-requires-3 : goal.value-requires-3
value-requires-3 c =
    let ordinal = lt_of_le_of_lt (shr_le _ _) (all-small _ _ _ _ (omega arith) c.extract_bits-all.ensures) in
    (lt_of_le_of_lt (and_le_l _ _) ordinal, omega arith)

pub returns : goal.returns
unfolding block_read
returns c =
    let g = c.args.self.now in
    let N = le_val g.«data».now in
    let i = c.args.i in
    let w = c.widths-widths.result in
    let few : 2 * w.range + w.ordinal ≤ 56 = omega arith in
    let at = c.range_bit-bit.ensures in
    let read = c.extract_bits-all.ensures in
    let range = range-part _ _ _ _ _ _ few at read in
    let ordinal = ordinal-part _ _ _ _ _ _ few at read in
    let next = next-part _ _ _ _ _ _ few at read in
    let start = range_read-suc g.meta N i (omega arith) in
    let first = ordinal_read-suc g.meta N i (omega arith) in
    let end = range_read-suc g.meta N (suc i) (omega arith) in
    let same : i - 1 + 1 ≡ suc i - 1 = omega arith in
    let behind : i + 1 ≡ suc i = omega arith in
    let s : c.value.result ≡ range_read g.meta N i = cc in
    let n : c.value-2.result ≡ range_read g.meta N (suc i) = cc in
    let o : c.value-3.result ≡ ordinal_read g.meta N i = cc in
    cc
