-- The state behind shared bytes leads nowhere, or it is the base of the walk.
use Rattle.std.proofs.Common.{◌≤◌, arith}
use Rattle.keys.specs.Order.{common_prefix_len}
use Rattle.keys.proofs.Order.{common_prefix_len-left}
use Rattle.automaton.proofs.Strings.{bytes_of}
use Rattle.listing_follow.proofs.Following.{trail-state, trail-next, trail-dead}
use Rattle.listing.proofs.match_block.Goals as goal

pub returns-then-shares_dead-clause-turned : goal.returns-then-shares_dead-clause-turned
returns-then-shares_dead-clause-turned c =
    let a = c.args in
    let d = c.shares_dead.ensures c.if-shares_dead.true in
    record { right = d.1; along = trail-next _ a.start_key.now a.end_key.now c.requires.1 d.0 }

pub follow-requires : goal.follow-requires
follow-requires c =
    let z = c.requires.1 in
    (z.followed, z.few, omega (arith, common_prefix_len-left c.args.start_key.now c.args.end_key.now))

pub is_dead-requires : goal.is_dead-requires
is_dead-requires c =
    let z = c.follow.ensures.0 in (
      z.few,
      trail-state z c.args.prepared.now.table.well_formed (bytes_of c.args.start_key.now (λ i. omega (arith, c.type_inv.start_key i))),
    )

pub returns-then-is_dead-clause-turned : goal.returns-then-is_dead-clause-turned
returns-then-is_dead-clause-turned c =
    let a = c.args in
    let p = a.prepared.now in
    let z = c.follow.ensures.0 in
    let h : c.follow.new.self.known ≤ common_prefix_len a.start_key.now a.end_key.now = omega (arith, c.follow.ensures.1) in
    let bytes = bytes_of a.start_key.now (λ i. omega (arith, c.type_inv.start_key i)) in
    record {
      right = trail-dead p.table.bytes.now a.start_key.now a.end_key.now z h p.reach p.table.well_formed
          c.requires.0.found bytes c.if-is_dead.ensures;
      along = trail-next _ a.start_key.now a.end_key.now z h;
    }

pub state_behind-base-requires : goal.state_behind-base-requires
state_behind-base-requires c =
    (c.follow.ensures.0.followed, c.follow.ensures.0.few, omega (arith, common_prefix_len-left c.args.start_key.now c.args.end_key.now))

pub returns-clause-turned : goal.returns-clause-turned
returns-clause-turned c =
    let a = c.args in
    let h : c.follow.new.self.known ≤ common_prefix_len a.start_key.now a.end_key.now = omega (arith, c.follow.ensures.1) in
    record { right = c.can_block_match_from.ensures.exactly; along = trail-next _ a.start_key.now a.end_key.now c.follow.ensures.0 h }
