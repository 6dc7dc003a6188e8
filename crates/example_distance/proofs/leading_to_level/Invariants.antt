-- The loop keeps: bit k tells whether the successors of k and the level have a state in common.
use Rattle.std.proofs.Common.{get_or}
use Rattle.automaton.proofs.Built.{Filled}
use Rattle.example_distance.proofs.Levels.{common}
use Rattle.example_distance.proofs.leading_to_level.Given as goal

abbrev pub invariant-loop-p : goal.invariant-loop-p
invariant-loop-p l = Filled (λ k. common (get_or l.successors k 0) l.level) l.p l.word
