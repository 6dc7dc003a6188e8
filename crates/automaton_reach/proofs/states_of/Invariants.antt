-- The loop keeps: the bits of the word are the bytes passed.
use Rattle.std.proofs.Common.{get_or}
use Rattle.automaton.proofs.Built.{Holds}
use Rattle.automaton_reach.proofs.states_of.Given as goal

abbrev pub invariant-loop-state : goal.invariant-loop-state
invariant-loop-state l = Holds (λ k. get_or l.eight k 0) l.state-index l.word
