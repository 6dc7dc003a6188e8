-- The loop keeps: of the states passed the words have bit p, and the others are as they were.
use Rattle.automaton.proofs.Predecessors.{Marked}
use Rattle.automaton_reach.proofs.mark.Given as goal

abbrev pub invariant-loop-s : goal.invariant-loop-s
invariant-loop-s l = Marked l.p l.states l.s-iterator.left l.initial.words l.words
