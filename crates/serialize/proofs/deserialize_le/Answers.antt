-- One byte more at each turn; below the turns' bound, since the bytes are digits.
use Rattle.std.proofs.Common.{◌≡◌, ◌+◌, ◌<◌, ◌∙◌, refl, lit<, arith, get_or, drop}
use Rattle.serialize.specs.Digits.{of_digits, DigitsBelow}
use Rattle.serialize.proofs.Digits.{of_digits-take-lt, below-drop}
use Rattle.serialize.proofs.Turns.{part-length, part-byte, or-next-byte}
use Rattle.serialize.proofs.deserialize_le.Goals as goal

pub loop-i-init : goal.loop-i-init
unfolding of_digits
loop-i-init c = record { value = refl; bound = lit< tt }

pub loop-i-preserved : goal.loop-i-preserved
loop-i-preserved c =
    let s = c.args.bytes.now in
    let at = c.args.at in
    let i = c.loop-i.i in
    let below : DigitsBelow 8 s = λ k. (c.type_inv.bytes k).fits in
    let inside : i < c.args.width = omega (arith, c.loop-i-test.true, part-length s at c.args.width c.requires.1) in
    let byte : c.from.result ≡ get_or s (at + i) 0 = c.from.ensures ∙ part-byte s at c.args.width i inside in
    let turn = or-next-byte s at i c.loop-i.value below (omega arith) c.loop-i.invariant.value in
    let bound = of_digits-take-lt 8 (i + 1) (drop at s) (below-drop 8 at s below) in
    rw byte (record { value = turn; bound = rw turn bound })

pub returns : goal.returns
returns c =
    let all : c.loop-i.i ≡ c.args.width =
    omega (arith, c.loop-i.auto.i-end, c.loop-i-test.false, part-length c.args.bytes.now c.args.at c.args.width c.requires.1) in
    let read = rw all at c.loop-i.invariant in
    record { value = read.value; upper_bound = read.bound }
