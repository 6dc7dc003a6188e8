-- The state is there, or a run over the key gives it.
use Rattle.std.proofs.Common.{arith}
use Rattle.automaton.proofs.Strings.{bytes_of}
use Rattle.listing_follow.proofs.Following.{followed-state}
use Rattle.listing_follow.proofs.Trail.state_behind.Goals as goal

pub returns-then-n-self : goal.returns-then-n-self
returns-then-n-self c =
    let a = c.args in
    let trail = a.self.now in
    let followed = c.requires.0 in
    let bytes = bytes_of a.key.now (λ i. omega (arith, c.type_inv.key i)) in
    rw c.from.ensures (
      followed.each a.n (omega arith),
      followed-state a.table.bytes.now a.key.now trail.states trail.known a.n followed a.table.well_formed bytes (omega arith),
    )
