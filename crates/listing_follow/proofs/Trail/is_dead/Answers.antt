-- The test of the state's bit, turned round.
use Rattle.std.proofs.Common.{get_or, arith}
use Rattle.automaton.proofs.Exact.{exactly-not}
use Rattle.automaton.proofs.Word.{bit-off}
use Rattle.listing_follow.proofs.Trail.is_dead.Goals as goal

pub returns : goal.returns
returns c =
    let trail = c.args.self.now in
    exactly-not c.can_match.result (rw c.from.ensures at c.can_match.ensures)
    (bit-off c.args.prepared.now.reach (get_or trail.states trail.known 0)) (λ z one. omega arith)
