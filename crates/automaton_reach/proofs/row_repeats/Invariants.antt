-- The loop keeps: the words of the quarters passed equal `last`.
use Rattle.std.proofs.Common.{◌≡◌, ℕ, ◌*◌, ◌<◌}
use Rattle.serialize.specs.Digits.{number_at}
use Rattle.automaton_reach.proofs.row_repeats.Given as goal

abbrev pub invariant-loop-quarter : goal.invariant-loop-quarter
invariant-loop-quarter l = (k : ℕ) → k < 8 * l.quarter-index → number_at l.row (8 * k) 8 ≡ l.last
