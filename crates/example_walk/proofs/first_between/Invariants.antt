-- The loop keeps: the best string is the first between the edges at the place, and both keys' fronts lead to the states.
use Rattle.example_walk.proofs.Begin.{Walking}
use Rattle.example_walk.proofs.first_between.Given as goal

abbrev pub invariant-loop-place : goal.invariant-loop-place
invariant-loop-place l = Walking l.measured.table.bytes.now l.measured.distances l.start_key l.end_key l.place l.low l.high l.walk
