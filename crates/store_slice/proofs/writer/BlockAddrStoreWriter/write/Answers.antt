-- `BlockAddrStoreWriter::write` meets its contract: row 9, or the header and then group after group.
use Rattle.std.proofs.Common.{length, ◌∙◌, arith}
use Rattle.store.specs.Store.{group_count}
use Rattle.store_slice.proofs.Answer.{short-answer, whole-answer}
use Rattle.store_slice.proofs.Kept.{records-few}
use Rattle.store_slice.proofs.Rounds.{groups-are, groups-few, held, few-bits, planned-length, rest-all, rest-none, rest-next}
use Rattle.store_slice.proofs.Rounds.{standing, write-room}
use Rattle.store_slice.proofs.writer.BlockAddrStoreWriter.write.Goals as goal

pub group_count-groups-requires : goal.group_count-groups-requires
group_count-groups-requires g c =
    let few = records-few (g.R.Records.blocks c.args.self.now.records.now) c.requires.0 in
    (omega (arith, c.grouping.ensures.0), rw c.grouping.ensures.1 c.args.self.now.len)

pub overflow_mul-metas : goal.overflow_mul-metas
overflow_mul-metas g c =
    let bs = g.R.Records.blocks c.args.self.now.records.now in
    let few = groups-few c.args.self.now.len bs c.grouping.ensures c.group_count-groups.ensures c.requires.0 in
    omega arith

pub overflow_add-len : goal.overflow_add-len
overflow_add-len g c =
    let bs = g.R.Records.blocks c.args.self.now.records.now in
    let few = groups-few c.args.self.now.len bs c.grouping.ensures c.group_count-groups.ensures c.requires.0 in
    omega arith

pub overflow_add-len-2 : goal.overflow_add-len-2
overflow_add-len-2 g c =
    let bs = g.R.Records.blocks c.args.self.now.records.now in
    let groups = groups-are c.args.self.now.len bs c.grouping.ensures c.group_count-groups.ensures in
    let few = groups-few c.args.self.now.len bs c.grouping.ensures c.group_count-groups.ensures c.requires.0 in
    omega (arith, c.requires.2, few-bits c.args.self.now.len bs c.requires.0 (group_count c.args.self.now.group_len (length bs)))

pub returns-then-out-len-clause-stored : goal.returns-then-out-len-clause-stored
returns-then-out-len-clause-stored g c =
    let bs = g.R.Records.blocks c.args.self.now.records.now in
    let size = planned-length c.args.self.now.len bs c.grouping.ensures c.group_count-groups.ensures c.requires.2 in
    (short-answer c.args.self.now.group_len bs c.args.out.now c.requires.0 (omega (arith, size, c.if-out-len.true))).0

pub returns-then-out-len-clause-bytes : goal.returns-then-out-len-clause-bytes
returns-then-out-len-clause-bytes g c =
    let bs = g.R.Records.blocks c.args.self.now.records.now in
    let size = planned-length c.args.self.now.len bs c.grouping.ensures c.group_count-groups.ensures c.requires.2 in
    (short-answer c.args.self.now.group_len bs c.args.out.now c.requires.0 (omega (arith, size, c.if-out-len.true))).1

pub loop-g-init : goal.loop-g-init
loop-g-init g c =
    let head = rw (c.group_count-groups.ensures, c.grouping.ensures.1, c.grouping.ensures.0) at c.serialize_u64.ensures in
    rest-all c.args.self.now.len (g.R.Records.blocks c.args.self.now.records.now) c.args.out.now c.serialize_u64.new.out head

pub new-place-requires : goal.new-place-requires
new-place-requires g c =
    let bs = g.R.Records.blocks c.args.self.now.records.now in
    let groups = groups-are c.args.self.now.len bs c.grouping.ensures c.group_count-groups.ensures in
    let size = planned-length c.args.self.now.len bs c.grouping.ensures c.group_count-groups.ensures c.requires.2 in
    let now = held c.args.self.now.len c.requires.0 c.grouping.ensures c.group_count-groups.ensures c.loop-g-test.true
    c.hold_group-group.ensures in
    (c.loop-g-test.true, omega (arith, groups, write-room now (omega (arith, size, c.if-out-len.false)) c.loop-g.invariant))

pub write_group-offset-requires : goal.write_group-offset-requires
write_group-offset-requires g c =
    let bs = g.R.Records.blocks c.args.self.now.records.now in
    let groups = groups-are c.args.self.now.len bs c.grouping.ensures c.group_count-groups.ensures in
    let size = planned-length c.args.self.now.len bs c.grouping.ensures c.group_count-groups.ensures c.requires.2 in
    let now = held c.args.self.now.len c.requires.0 c.grouping.ensures c.group_count-groups.ensures c.loop-g-test.true
    c.hold_group-group.ensures in
    rw (c.new-place.ensures.1, groups) (
      standing now c.args.kept.now c.requires.3,
      write-room now (omega (
        arith,
        size,
        c.if-out-len.false,
      )) c.loop-g.invariant,
    )

pub overflow_add-offset : goal.overflow_add-offset
overflow_add-offset g c =
    let bs = g.R.Records.blocks c.args.self.now.records.now in
    let size = planned-length c.args.self.now.len bs c.grouping.ensures c.group_count-groups.ensures c.requires.2 in
    let now = held c.args.self.now.len c.requires.0 c.grouping.ensures c.group_count-groups.ensures c.loop-g-test.true
    c.hold_group-group.ensures in
    let room = write-room now (omega (arith, size, c.if-out-len.false)) c.loop-g.invariant in
    omega (arith, room, c.write_group-offset.ensures.0)

pub loop-g-preserved : goal.loop-g-preserved
loop-g-preserved g c =
    let bs = g.R.Records.blocks c.args.self.now.records.now in
    let groups = groups-are c.args.self.now.len bs c.grouping.ensures c.group_count-groups.ensures in
    let size = planned-length c.args.self.now.len bs c.grouping.ensures c.group_count-groups.ensures c.requires.2 in
    let now = held c.args.self.now.len c.requires.0 c.grouping.ensures c.group_count-groups.ensures c.loop-g-test.true
    c.hold_group-group.ensures in
    let place = c.new-place.ensures in
    rest-next now (omega (arith, size, c.if-out-len.false)) c.loop-g.invariant _ _ (rw (
      place.0,
      place.1,
      place.2,
      groups,
    ) at c.write_group-offset.ensures)

pub returns-clause-stored : goal.returns-clause-stored
returns-clause-stored g c =
    let bs = g.R.Records.blocks c.args.self.now.records.now in
    let size = planned-length c.args.self.now.len bs c.grouping.ensures c.group_count-groups.ensures c.requires.2 in
    rw size (whole-answer c.args.self.now.group_len bs c.args.out.now c.requires.0 (omega (arith, size, c.if-out-len.false))).0

pub returns-clause-bytes : goal.returns-clause-bytes
returns-clause-bytes g c =
    let bs = g.R.Records.blocks c.args.self.now.records.now in
    let groups = groups-are c.args.self.now.len bs c.grouping.ensures c.group_count-groups.ensures in
    let size = planned-length c.args.self.now.len bs c.grouping.ensures c.group_count-groups.ensures c.requires.2 in
    rest-none c.args.self.now.len bs (omega (arith, groups, c.loop-g-test.false)) c.loop-g.invariant
    ∙ (whole-answer c.args.self.now.group_len bs c.args.out.now c.requires.0 (omega (arith, size, c.if-out-len.false))).1
