-- After i turns the packer took the first i pairs.
use Rattle.std.proofs.Common.{arith}
use Rattle.bitpacker.proofs.Packed.{packed-room-flush}
use Rattle.leaf_vectors.proofs.Groups.{small_of, pairs-none, pairs-all, range-room, range-wrote, ordinal-room, ordinal-wrote, group-flushed}
use Rattle.leaf_vectors.proofs.pack.Widths.pack_group.Goals as goal

pub loop-i-init : goal.loop-i-init
loop-i-init c =
    let small = small_of c.requires.digits_below in
    pairs-none small c.args.out.now c.new-packer.ensures

pub write-requires : goal.write-requires
write-requires c =
    let small = small_of c.requires.digits_below in
    range-room small c.loop-i.i c.loop-i.invariant c.args.count (omega arith) c.args.self.few.0 c.requires.room

pub write-packer-requires : goal.write-packer-requires
write-packer-requires c =
    let small = small_of c.requires.digits_below in
    let half = range-wrote small c.loop-i.i c.loop-i.invariant c.write.ensures in
    ordinal-room small c.loop-i.i half c.args.count c.loop-i-test.true c.args.self.few.1 c.requires.room

pub loop-i-preserved : goal.loop-i-preserved
loop-i-preserved c =
    let small = small_of c.requires.digits_below in
    let half = range-wrote small c.loop-i.i c.loop-i.invariant c.write.ensures in
    ordinal-wrote small c.loop-i.i half c.write-packer.ensures

pub write-requires-2 : goal.write-requires-2
write-requires-2 c =
    let small = small_of c.requires.digits_below in
    let all = pairs-all _ _ _ _ _ _ _ c.args.count c.loop-i.invariant (omega arith) in
    range-room small c.args.count all c.args.count (omega arith) c.args.self.few.0 c.requires.room

pub flush-requires : goal.flush-requires
flush-requires c =
    let small = small_of c.requires.digits_below in
    let all = pairs-all _ _ _ _ _ _ _ c.args.count c.loop-i.invariant (omega arith) in
    packed-room-flush (range-wrote small c.args.count all c.write-2.ensures) c.requires.room

pub returns : goal.returns
returns c =
    let small = small_of c.requires.digits_below in
    let all = pairs-all _ _ _ _ _ _ _ c.args.count c.loop-i.invariant (omega arith) in
    group-flushed small c.args.count (range-wrote small c.args.count all c.write-2.ensures) c.requires.len c.flush.ensures
