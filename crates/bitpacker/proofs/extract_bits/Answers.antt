-- `bitpacker::extract_bits` meets its contract, at every width to 56 and every bit offset: eight bytes from the field's first byte on
-- hold the field.
use mathlib.Core.Path.{◌≡◌, ap, ◌∙◌}
use mathlib.Core.List.{List}
use Prim.Native.Nat.{ℕ, ◌+◌, ◌-◌, ◌*◌, ◌/◌, ◌%◌, ◌^◌, ◌≤◌}
use native.Mathlib.Omega.{arith}
use lib.Bits.{bit_and, and_mask}
use lib.ListN.{take, drop}
use lib.Pow.{pow_pos, shr-shr}
use Rattle.std.proofs.lemmas.Nat.{one_shl}
use Rattle.serialize.specs.Digits.{le_val, DigitsBelow}
use Rattle.serialize.proofs.Digits.{of_digits-take, of_digits-drop, below-drop, sub-field}
use Rattle.bitpacker.proofs.extract_bits.Goals as goal

-- `(x >> (addr % 8)) & ((1 << n) - 1)`, where x is the eight bytes from byte addr / 8 on
extracted : (s : List ℕ) (addr n : ℕ) → DigitsBelow 8 s → n ≤ 56
    → bit_and (le_val (take 8 (drop (addr / 8) s)) / 2 ^ (addr % 8)) (1 * 2 ^ n % 2 ^ 64 - 1) ≡ le_val s / 2 ^ addr % 2 ^ n
extracted s addr n h l =
    let x = le_val (take 8 (drop (addr / 8) s)) in
    let e : 8 * (addr / 8) + addr % 8 ≡ addr = omega arith in
    ap (λ (m : ℕ). bit_and (x / 2 ^ (addr % 8)) (m - 1)) (one_shl n 64 (omega arith))
    ∙ and_mask (x / 2 ^ (addr % 8)) n
    ∙ ap (λ (m : ℕ). m / 2 ^ (addr % 8) % 2 ^ n) (of_digits-take 8 8 (drop (addr / 8) s) (below-drop 8 (addr / 8) s h))
    ∙ sub-field (le_val (drop (addr / 8) s)) (addr % 8) n 64 (omega arith)
    ∙ ap (λ (m : ℕ). m / 2 ^ (addr % 8) % 2 ^ n) (of_digits-drop 8 (addr / 8) s h)
    ∙ ap (λ (m : ℕ). m % 2 ^ n) (shr-shr (le_val s) (8 * (addr / 8)) (addr % 8))
    ∙ ap (λ (m : ℕ). le_val s / 2 ^ m % 2 ^ n) e

pub overflow_sub-result : goal.overflow_sub-result
overflow_sub-result c = rw (one_shl c.args.num_bits 64 (omega arith)) (pow_pos c.args.num_bits)

pub returns : goal.returns
returns c =
    let a = c.args in
    rw (c.load-unshifted.ensures, c.from.ensures)
    (extracted a.«data».now a.addr_bits a.num_bits (λ k. (c.type_inv.data k).fits) (omega arith))
