-- The loop keeps: the words of the states below p are right.
use Rattle.std.proofs.Common.{ℕ, ◌≡◌, ◌<◌, length, get_or}
use Rattle.automaton.specs.Table.{next}
use Rattle.automaton.proofs.Built.{Holds}
use Rattle.automaton_reach.proofs.successors.Given as goal

abbrev pub invariant-loop-p : goal.invariant-loop-p
invariant-loop-p l = (length l.words ≡ 64) × ((k : ℕ) → k < l.p → Holds (next l.table.bytes.now k) 256 (get_or l.words k 0))
