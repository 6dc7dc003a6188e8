-- `BlockAddrStoreWriter::plan` meets its contract: a list that hits no row has legal groups, and room for their plans.
use Rattle.std.proofs.Common.{length, arith}
use Rattle.store.proofs.Groups.{group-count-le}
use Rattle.store_slice.proofs.Kept.{records-few}
use Rattle.store_slice.proofs.Rounds.{held, more-bits, planned-none, planned-next}
use Rattle.store_slice.proofs.writer.BlockAddrStoreWriter.plan.Goals as goal

pub group_count-groups-requires : goal.group_count-groups-requires
group_count-groups-requires g c =
    let few = records-few (g.R.Records.blocks c.args.self.now.records.now) c.requires.0 in
    (omega (arith, c.grouping.ensures.0), rw c.grouping.ensures.1 c.args.self.now.len)

pub loop-g-init : goal.loop-g-init
loop-g-init g c = planned-none c.args.self.now.group_len (g.R.Records.blocks c.args.self.now.records.now) c.args.kept.now

pub plan_group-bits-requires : goal.plan_group-bits-requires
plan_group-bits-requires g c =
    let plans = c.requires.1.plans (records-few (g.R.Records.blocks c.args.self.now.records.now) c.requires.0) in
    let there = rw (c.group_count-groups.ensures, c.grouping.ensures.1, c.grouping.ensures.0) at c.loop-g-test.true in
    omega arith

pub overflow_add-bits : goal.overflow_add-bits
overflow_add-bits g c =
    let bs = g.R.Records.blocks c.args.self.now.records.now in
    let now = held c.args.self.now.len c.requires.0 c.grouping.ensures c.group_count-groups.ensures c.loop-g-test.true
    c.hold_group-group.ensures in
    omega (
      arith,
      more-bits now c.loop-g.invariant _ c.plan_group-bits.ensures.0,
      group-count-le c.args.self.now.len.some (length bs),
      records-few bs c.requires.0,
    )

pub loop-g-preserved : goal.loop-g-preserved
loop-g-preserved g c =
    let plans = c.requires.1.plans (records-few (g.R.Records.blocks c.args.self.now.records.now) c.requires.0) in
    let now =
    held c.args.self.now.len c.requires.0 c.grouping.ensures c.group_count-groups.ensures c.loop-g-test.true c.hold_group-group.ensures in
    planned-next now (omega arith) c.loop-g.invariant _ _ c.plan_group-bits.ensures
