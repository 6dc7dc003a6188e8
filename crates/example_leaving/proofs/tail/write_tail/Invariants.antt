-- The loop keeps: the string written so far and the first one from the state reached are the first of all, and as long as the state is far.
use Rattle.example_leaving.proofs.Tails.{Sofar}
use Rattle.example_leaving.proofs.tail.write_tail.Given as goal

abbrev pub invariant-loop-place : goal.invariant-loop-place
invariant-loop-place l =
    Sofar l.measured.table.bytes.now l.measured.distances l.initial.place-items l.place-items l.state l.s l.place-index
