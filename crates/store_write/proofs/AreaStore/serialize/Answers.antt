-- A group's record and its bits are written behind those before it.
use Rattle.std.proofs.Common.{◌≡◌, ◌<◌, ◌≤◌, arith}
use Rattle.slope.specs.Slope.{best_slope}
use Rattle.store.proofs.Stored.{length-store-area}
use Rattle.store_write.proofs.Turns.{groups_of, written-less, written-stands, written-room, written-turn, written-small, written-all}
use Rattle.store_write.proofs.AreaStore.serialize.Goals as goal

pub serialize_u64-requires : goal.serialize_u64-requires
serialize_u64-requires c =
    let s = c.args.self.now in
    omega (arith, c.requires.1, length-store-area best_slope s.ok.1.some s.area.now s.stride 0 s.n)

pub new-place-requires : goal.new-place-requires
new-place-requires c = (c.loop-g-test.true, omega (arith, written-small c.args.self.now _ _ c.loop-g.invariant))

pub write_group-len-requires : goal.write_group-len-requires
write_group-len-requires c =
    let s = c.args.self.now in
    let groups : c.group_count-groups.result ≡ groups_of s = cc in
    let there : c.loop-g.g < groups_of s = rw groups at c.loop-g-test.true in
    let written = c.loop-g.invariant in (
      written-stands s _ _ there written c.group.ensures,
      rw c.new-place.ensures.1 (written-room s _ _ there written c.group.ensures (omega (arith, c.requires.1))),
    )

pub overflow_add-offset : goal.overflow_add-offset
overflow_add-offset c =
    let s = c.args.self.now in
    let groups : c.group_count-groups.result ≡ groups_of s = cc in
    let there : c.loop-g.g < groups_of s = rw groups at c.loop-g-test.true in
    omega (arith, written-less s _ _ there c.loop-g.invariant c.group.ensures c.write_group-len.ensures.0)

pub loop-g-preserved : goal.loop-g-preserved
loop-g-preserved c =
    let s = c.args.self.now in
    let groups : c.group_count-groups.result ≡ groups_of s = cc in
    let there : c.loop-g.g < groups_of s = rw groups at c.loop-g-test.true in
    let place = c.new-place.ensures in
    written-turn s _ _ there c.loop-g.invariant c.group.ensures c.write_group-len.ensures.0
    (rw (place.0, place.1, place.2) at c.write_group-len.ensures.1)

pub overflow_add-result : goal.overflow_add-result
overflow_add-result c = omega (arith, written-small c.args.self.now _ _ c.loop-g.invariant)

pub overflow_add-result-2 : goal.overflow_add-result-2
overflow_add-result-2 c = omega (arith, written-small c.args.self.now _ _ c.loop-g.invariant)

pub returns-clause-value : goal.returns-clause-value
returns-clause-value c =
    let s = c.args.self.now in
    let groups : c.group_count-groups.result ≡ groups_of s = cc in
    let end : groups_of s ≤ c.loop-g.g = rw groups at c.loop-g-test.false in
    (written-all s _ _ groups c.serialize_u64.ensures c.loop-g.invariant end).0

pub returns-clause-out_after : goal.returns-clause-out_after
returns-clause-out_after c =
    let s = c.args.self.now in
    let groups : c.group_count-groups.result ≡ groups_of s = cc in
    let end : groups_of s ≤ c.loop-g.g = rw groups at c.loop-g-test.false in
    (written-all s _ _ groups c.serialize_u64.ensures c.loop-g.invariant end).1
