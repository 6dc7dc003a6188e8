-- One state more is marked with each turn, and at the end none is left.
use Rattle.std.proofs.Common.{arith}
use Rattle.automaton.proofs.SetBits.{passed-all}
use Rattle.automaton.proofs.Predecessors.{marked_more}
use Rattle.automaton_reach.proofs.mark.Goals as goal

pub loop-s-preserved : goal.loop-s-preserved
loop-s-preserved c =
    let took = c.in-Some.ensures.steps in
    marked_more c.loop-s.invariant c.in-Some.s took.set (omega arith) (omega arith) _ took.rest

pub returns-clause-by_index : goal.returns-clause-by_index
returns-clause-by_index c = passed-all c.loop-s.invariant.put c.in-None.ensures.steps.0
