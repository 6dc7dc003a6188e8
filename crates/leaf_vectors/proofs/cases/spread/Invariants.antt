-- The cells filled so far are a column.
use Rattle.std.proofs.Common.{ℕ, ◌+◌, ◌*◌, ◌<◌}
use Rattle.slope.specs.Column.{ValueOk}
use Rattle.leaf_vectors.proofs.cases.spread.Given as goal

abbrev pub invariant-loop-j : goal.invariant-loop-j
invariant-loop-j l = (k : ℕ) → k < l.j → ValueOk l.area 1000003 (2 + 3 * k)
