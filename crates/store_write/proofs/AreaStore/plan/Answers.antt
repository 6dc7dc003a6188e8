-- A group's plan and its bytes are put behind those before it.
use Rattle.std.proofs.Common.{◌≡◌, ◌<◌, ◌≤◌, arith}
use Rattle.store.proofs.Groups.{group-count-le}
use Rattle.store_write.proofs.Turns.{groups_of, planned-less, planned-turn, planned-all, planned-small}
use Rattle.store_write.proofs.AreaStore.plan.Goals as goal

pub overflow_add-len : goal.overflow_add-len
overflow_add-len c =
    let s = c.args.self.now in
    let groups : c.group_count-groups.result ≡ groups_of s = cc in
    let there : c.loop-g.g < groups_of s = rw groups at c.loop-g-test.true in
    omega (arith, planned-less s _ there c.loop-g.invariant c.group.ensures c.plan_group-len.ensures.0)

pub loop-g-preserved : goal.loop-g-preserved
loop-g-preserved c =
    let s = c.args.self.now in
    let groups : c.group_count-groups.result ≡ groups_of s = cc in
    let there : c.loop-g.g < groups_of s = rw groups at c.loop-g-test.true in
    planned-turn s _ there c.loop-g.invariant c.group.ensures c.plan_group-len.ensures.0 c.plan_group-len.ensures.1

pub overflow_add-result-2 : goal.overflow_add-result-2
overflow_add-result-2 c =
    let s = c.args.self.now in
    let groups : c.group_count-groups.result ≡ groups_of s = cc in
    let end : groups_of s ≤ c.loop-g.g = rw groups at c.loop-g-test.false in
    omega (arith, planned-small s c.loop-g.invariant end, group-count-le s.ok.1.some s.n, s.ok.0.few)

pub returns : goal.returns
returns c =
    let s = c.args.self.now in
    let groups : c.group_count-groups.result ≡ groups_of s = cc in
    let end : groups_of s ≤ c.loop-g.g = rw groups at c.loop-g-test.false in
    let is : c.loop-g.g ≡ c.group_count-groups.result = omega arith in
    rw is at (planned-all s c.loop-g.invariant end)
