-- The loops keep: the bits of the word are bytes of the row, those passed and those of the last eight that were looked at among them.
use Rattle.std.proofs.Common.{◌+◌, ◌*◌}
use Rattle.automaton.proofs.Eights.{Held}
use Rattle.automaton_reach.proofs.next_states.Given as goal

abbrev pub invariant-loop-quarter : goal.invariant-loop-quarter
invariant-loop-quarter l = Held l.fn.row (64 * l.quarter-index) l.last l.word

abbrev pub invariant-loop-bytes : goal.invariant-loop-bytes
invariant-loop-bytes l = Held l.fn.row (64 * l.quarter-index + 8 * l.bytes-index) l.last l.word
