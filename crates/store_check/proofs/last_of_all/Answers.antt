-- Each group is refused, or passed with the blocks before it.
use Rattle.std.proofs.Common.{◌≤◌, arith}
use Rattle.store.specs.Store.{group_count}
use Rattle.store_check.proofs.Groups.{all-passed, first-values-refused, lends, blocks-refused, blocks-passed}
use Rattle.store_check.proofs.last_of_all.Goals as goal

pub returns-then-first_bad : goal.returns-then-first_bad
returns-then-first_bad c =
    first-values-refused c.args.store.now c.group_count-g-end.ensures c.loop-g-test.true c.deserialize-meta.ensures c.requires
    c.loop-g.before c.loop-g.invariant c.first_bad.ensures c.if-first_bad.true

pub group_of-group-requires : goal.group_of-group-requires
group_of-group-requires c =
    lends c.args.store.now c.group_count-g-end.ensures c.loop-g-test.true c.deserialize-meta.ensures c.requires
    c.loop-g.before c.loop-g.invariant c.first_bad.ensures c.if-first_bad.false

pub returns-in_default : goal.returns-in_default
returns-in_default c =
    blocks-refused c.args.store.now c.group_count-g-end.ensures c.loop-g-test.true c.deserialize-meta.ensures c.requires
    c.group_of-group.ensures c.last_block.ensures c.in_default.is

pub loop-g-preserved : goal.loop-g-preserved
loop-g-preserved c =
    blocks-passed c.args.store.now c.group_count-g-end.ensures c.loop-g-test.true c.deserialize-meta.ensures c.requires
    c.loop-g.before c.loop-g.invariant c.first_bad.ensures c.if-first_bad.false c.group_of-group.ensures c.last_block.ensures c.in-Some.is

pub returns : goal.returns
returns c =
    let s = c.args.store.now in
    let end : group_count s.group_len s.n ≤ c.loop-g.g = rw c.group_count-g-end.ensures at c.loop-g-test.false in
    all-passed s c.loop-g.before c.loop-g.g c.loop-g.invariant (omega arith)
