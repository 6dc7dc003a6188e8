-- A test that is true says that the dead state stands behind shared bytes.
use Rattle.std.proofs.Common.{sym, ◌∙◌, arith}
use Rattle.automaton.proofs.Strings.{bytes_of}
use Rattle.listing_follow.proofs.Following.{front-common, trail-state, trail-dead}
use Rattle.listing.proofs.shares_dead.Goals as goal

pub is_dead-requires : goal.is_dead-requires
is_dead-requires c =
    let z = c.requires.1 in (
      z.few,
      trail-state z c.args.prepared.now.table.well_formed (bytes_of c.args.start_key.now (λ i. omega (arith, c.type_inv.start_key i))),
    )

pub returns-then-is_dead : goal.returns-then-is_dead
returns-then-is_dead c =
    let a = c.args in
    let p = a.prepared.now in
    let z = c.requires.1 in
    let bytes = bytes_of a.start_key.now (λ i. omega (arith, c.type_inv.start_key i)) in
    λ e.
    let h = front-common a.trail.now.known a.start_key.now a.end_key.now z.within (sym c.starts_with.ensures.value ∙ e) in (
      h,
      trail-dead p.table.bytes.now a.start_key.now a.end_key.now z h p.reach p.table.well_formed
          c.requires.0.found bytes c.if-is_dead.ensures,
    )
