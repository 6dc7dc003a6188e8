-- One state more with each turn, and at the end none is left.
use Rattle.std.proofs.Common.{arith}
use Rattle.automaton.proofs.SetBits.{passed-all}
use Rattle.example_distance.proofs.Levels.{put-more}
use Rattle.example_distance.proofs.write_level.Goals as goal

pub loop-s-preserved : goal.loop-s-preserved
loop-s-preserved c =
    let took = c.in-Some.ensures.steps in
    put-more c.loop-s.invariant c.in-Some.s (omega arith) took.set _ took.rest

pub returns-clause-by_index : goal.returns-clause-by_index
returns-clause-by_index c = λ s h. passed-all c.loop-s.invariant.put c.in-None.ensures.steps.0 s
