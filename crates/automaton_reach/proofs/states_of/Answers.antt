-- No bit at first, and that of one byte more with each turn.
use Rattle.std.proofs.Common.{arith}
use Rattle.automaton.proofs.Built.{holds-none, holds_more}
use Rattle.automaton_reach.proofs.states_of.Goals as goal

pub loop-state-init : goal.loop-state-init
loop-state-init c = holds-none _

pub loop-state-preserved : goal.loop-state-preserved
loop-state-preserved c = holds_more c.loop-state.invariant (c.requires c.loop-state.state-index (omega arith))
