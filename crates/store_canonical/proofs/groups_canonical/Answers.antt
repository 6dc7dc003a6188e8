-- A group that isn't the writer's is met, or one more is, and behind the last one no byte may be left.
use Rattle.std.proofs.Common.{◌≡◌, arith}
use Rattle.store.specs.Store.{group_count}
use Rattle.store_canonical.proofs.Groups.{given, lends, fits, group-refused, group-passed, all-passed}
use Rattle.store_canonical.proofs.groups_canonical.Goals as goal

pub group_of-group-requires : goal.group_of-group-requires
group_of-group-requires g c =
    lends c.args.store.now c.requires.0 c.requires.1 (omega arith) c.bytes-metas.ensures c.group_count-g-end.ensures c.loop-g-test.true
    c.deserialize-meta.ensures

pub group_canonical-requires : goal.group_canonical-requires
group_canonical-requires g c =
    fits c.args.store.now c.requires.0 c.requires.1 (omega arith) c.bytes-metas.ensures c.group_count-g-end.ensures c.loop-g-test.true
    c.deserialize-meta.ensures
    c.group_of-group.ensures (omega (arith, c.requires.2, c.loop-g.auto))

pub returns-then-not-group_canonical : goal.returns-then-not-group_canonical
returns-then-not-group_canonical g c =
    group-refused c.args.store.now c.requires.0 c.requires.1 (omega arith) c.bytes-metas.ensures c.group_count-g-end.ensures
    c.loop-g-test.true
    c.deserialize-meta.ensures
    c.group_of-group.ensures c.loop-g.invariant c.group_canonical.ensures c.if-not-group_canonical.true

pub loop-g-preserved : goal.loop-g-preserved
loop-g-preserved g c =
    group-passed c.args.store.now c.requires.0 c.requires.1 (omega arith) c.bytes-metas.ensures c.group_count-g-end.ensures
    c.loop-g-test.true
    c.deserialize-meta.ensures
    c.group_of-group.ensures c.loop-g.invariant c.group_canonical.ensures c.if-not-group_canonical.false c.addr_len-offset.ensures

pub returns : goal.returns
returns g c =
    let is : c.loop-g.g ≡ group_count c.args.store.now.group_len c.args.store.now.n = omega (arith, c.group_count-g-end.ensures) in
    all-passed c.args.store.now (given c.args.store.now c.requires.0 c.requires.1 (omega arith) c.bytes-metas.ensures) is c.loop-g.invariant
