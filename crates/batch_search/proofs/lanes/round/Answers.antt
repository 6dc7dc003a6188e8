-- The search whose turn it was has taken it.
use Rattle.std.proofs.Common.{arith}
use Rattle.batch_search.proofs.Turns.{lanes_next}
use Rattle.batch_search.proofs.lanes.round.Goals as goal

pub loop-i-preserved : goal.loop-i-preserved
loop-i-preserved c =
    lanes_next _ _ _ _ c.args.len c.loop-i.i c.turn.result c.loop-i.lanes c.loop-i.invariant (omega (
      arith,
      c.args.list.now.ok.few,
    )) (rw c.nth.ensures at c.turn.ensures)
