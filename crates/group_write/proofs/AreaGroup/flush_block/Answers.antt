-- Each turn of the loop stores a range and an ordinal, and behind it the last range is stored and all is flushed.
use Rattle.std.proofs.Common.{arith}
use Rattle.group_write.proofs.Flush.{before-none, written-on, range-asked, ordinal-asked, both-fit, turn-done, last-asked, last-room}
use Rattle.group_write.proofs.Flush.{flush-room, flush-done}
use Rattle.group_write.proofs.AreaGroup.flush_block.Goals as goal

pub loop-i-init : goal.loop-i-init
loop-i-init c = before-none c.args.self.now c.ranges-ranges.result c.ordinals-ordinals.result _ c.new-packer.ensures

pub stored-range-requires : goal.stored-range-requires
stored-range-requires c =
    let r = c.ranges-ranges in
    let o = c.ordinals-ordinals in
    range-asked c.args.self.now _ r.result o.result _ c.requires r.ensures o.ensures
    _ c.loop-i-test.true c.block-block.ensures c.loop-i.invariant

pub stored-ordinal-requires : goal.stored-ordinal-requires
stored-ordinal-requires c =
    let r = c.ranges-ranges in
    let o = c.ordinals-ordinals in
    ordinal-asked c.args.self.now _ r.result o.result _ c.requires r.ensures o.ensures
    _ c.loop-i-test.true c.block-block.ensures c.loop-i.invariant

-- What the two writes of a turn ask holds in whatever order they come, so that the order is up to the loop's invariant.
pub write-packer-requires : goal.write-packer-requires
write-packer-requires c =
    let r = c.ranges-ranges in
    let o = c.ordinals-ordinals in
    let fit = both-fit c.args.self.now _ r.result o.result _ c.requires r.ensures o.ensures
    _ c.loop-i-test.true c.block-block.ensures c.loop-i.invariant c.stored-range.ensures c.stored-ordinal.ensures in (
      c.loop-i.invariant.2.waiting,
      omega (arith, fit.range-few, fit.ordinal-few),
      omega (arith, fit.range-small, fit.ordinal-small),
      omega (arith, fit.room),
    )

pub write-packer-requires-in-loop-i : goal.write-packer-requires-in-loop-i
write-packer-requires-in-loop-i c =
    let r = c.ranges-ranges in
    let o = c.ordinals-ordinals in
    let fit = both-fit c.args.self.now _ r.result o.result _ c.requires r.ensures o.ensures
    _ c.loop-i-test.true c.block-block.ensures c.loop-i.invariant c.stored-range.ensures c.stored-ordinal.ensures in
    let on = written-on _ _ c.loop-i.invariant.2 c.write-packer.ensures (omega (arith, fit.range-small, fit.ordinal-small)) in (
      on.0,
      omega (arith, fit.range-few, fit.ordinal-few),
      omega (arith, fit.range-small, fit.ordinal-small),
      omega (arith, fit.room, on.1, on.2),
    )

pub loop-i-preserved : goal.loop-i-preserved
loop-i-preserved c =
    let r = c.ranges-ranges in
    let o = c.ordinals-ordinals in
    turn-done c.args.self.now _ r.result o.result _ c.requires r.ensures o.ensures
    _ c.loop-i-test.true c.block-block.ensures c.loop-i.invariant
    c.stored-range.ensures c.stored-ordinal.ensures c.write-packer.ensures c.write-packer-in-loop-i.ensures

pub stored-range-requires-2 : goal.stored-range-requires-2
stored-range-requires-2 c =
    let r = c.ranges-ranges in
    let o = c.ordinals-ordinals in
    last-asked c.args.self.now _ r.result o.result _ c.requires r.ensures o.ensures
    _ c.loop-i-test.false c.block-last.ensures c.loop-i.invariant

pub write-packer-requires-2 : goal.write-packer-requires-2
write-packer-requires-2 c =
    let r = c.ranges-ranges in
    let o = c.ordinals-ordinals in
    last-room c.args.self.now _ r.result o.result _ c.requires r.ensures o.ensures
    _ c.loop-i-test.false c.block-last.ensures c.loop-i.invariant
    c.stored-range-2.ensures

pub flush-requires : goal.flush-requires
flush-requires c =
    let r = c.ranges-ranges in
    let o = c.ordinals-ordinals in
    flush-room c.args.self.now _ r.result o.result _ c.requires r.ensures o.ensures
    _ c.loop-i-test.false c.block-last.ensures c.loop-i.invariant
    c.stored-range-2.ensures c.write-packer-2.ensures

pub returns : goal.returns
returns c =
    let r = c.ranges-ranges in
    let o = c.ordinals-ordinals in
    flush-done c.args.self.now _ r.result o.result _ c.requires r.ensures o.ensures
    _ c.loop-i-test.false c.block-last.ensures c.loop-i.invariant
    c.stored-range-2.ensures c.write-packer-2.ensures c.flush.ensures
