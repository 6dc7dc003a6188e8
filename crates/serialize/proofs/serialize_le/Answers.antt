-- Each turn stores the lowest byte of what is left; behind the last turn nothing is left.
use Rattle.std.proofs.Common.{◌≡◌, ◌<◌, ◌+◌, ◌-◌, ◌∙◌, sym, ap, arith}
use Rattle.std.proofs.lemmas.List.Edits.{sets}
use borrow.Rule.Slice.PartMut.{put_mid}
use lib.Bits.{and_mask}
use Rattle.serialize.specs.Digits.{digits_of, le_bytes}
use Rattle.serialize.proofs.Digits.{length-digits_of}
use Rattle.serialize.proofs.Stores.{sets_within}
use Rattle.serialize.proofs.Turns.{part-length, store-next-byte}
use Rattle.serialize.proofs.serialize_le.Goals as goal

pub loop-byte-preserved : goal.loop-byte-preserved
loop-byte-preserved c =
    let here = c.loop-byte in
    let inside : here.byte-index < c.args.width =
    omega (arith, c.loop-byte-test.true, part-length c.args.out.now c.args.at c.args.width c.requires) in
    let left = c.args.width - here.byte-index in
    let rest = c.args.width - (here.byte-index + 1) in
    rw (and_mask here.rest 8) (here.invariant ∙ store-next-byte here.byte-items here.byte-index left rest here.rest (omega arith))

pub returns : goal.returns
unfolding digits_of
returns c =
    let here = c.loop-byte in
    let w = c.args.width in
    let whole = part-length c.args.out.now c.args.at w c.requires in
    let done : w - here.byte-index ≡ 0 = omega (arith, c.loop-byte-test.false, whole) in
    let stored = here.invariant ∙ ap (λ n. sets here.byte-items here.byte-index (le_bytes n here.rest)) done in
    ap (put_mid c.args.at (c.args.at + w - c.args.at) c.args.out.now) (sym stored)
    ∙ sets_within c.args.out.now (le_bytes w c.args.value) c.args.at (c.args.at + w - c.args.at) (omega arith)
    (omega (arith, length-digits_of 8 w c.args.value))
