-- There is a tally for each row, and each turn leaves less text.
use Rattle.std.proofs.Common.{◌≡◌, length, vec_len}
use Rattle.vectors.proofs.driver.compare.Given as goal

abbrev pub invariant-loop-line : goal.invariant-loop-line
invariant-loop-line g l = goal.F-IsAlwaysCallable g l.same × (vec_len l.tallies.rows ≡ vec_len l.initial.tallies.rows)

abbrev pub decreases-loop-line : goal.decreases-loop-line
decreases-loop-line g l = length l.rest
