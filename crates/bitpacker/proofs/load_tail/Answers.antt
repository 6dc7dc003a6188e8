-- `bitpacker::load_tail` meets its contract: the four lowest bytes and those after them are all of them.
use mathlib.Core.Path.{◌≡◌, ap, ◌∙◌}
use mathlib.Core.List.{List}
use Prim.Native.Nat.{ℕ, ◌+◌, ◌-◌, ◌*◌, ◌/◌, ◌%◌, ◌^◌, ◌≤◌}
use native.Mathlib.Omega.{arith}
use lib.ListN.{length, take, drop, length-drop}
use lib.Seq.{take_all}
use Rattle.serialize.specs.Digits.{le_val, DigitsBelow}
use Rattle.serialize.proofs.Digits.{of_digits-take, of_digits-drop}
use Rattle.bitpacker.proofs.load_tail.Goals as goal

-- a number by its four lowest bytes and the others
split : (l : List ℕ) (k : ℕ) → DigitsBelow 8 l → length (drop 4 l) ≤ k
    → le_val (take 4 l) + 4294967296 * le_val (take k (drop 4 l)) ≡ le_val l
split l k h e =
    let low : le_val (take 4 l) ≡ le_val l % 2 ^ 32 = of_digits-take 8 4 l h in
    let high : le_val (take k (drop 4 l)) ≡ le_val l / 2 ^ 32 = ap le_val (take_all k (drop 4 l) e) ∙ of_digits-drop 8 4 l h in
    omega (arith, low, high)

pub returns : goal.returns
returns c =
    let l = c.args.rest.now in
    rw (c.deserialize_le-low.ensures.value, c.load_few-2.ensures.value)
    (split l (length l - 4) (λ k. (c.type_inv.rest k).fits) (simp length-drop (omega arith)))
