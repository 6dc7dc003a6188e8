-- The lowest and the highest of the points before place j are kept.
use Rattle.slope.specs.ExtremesOf.{ExtremesOf}
use Rattle.slope.proofs.Column.uncut_extremes.Given as goal

abbrev pub invariant-loop-j : goal.invariant-loop-j
invariant-loop-j l = ExtremesOf l.self l.low l.high l.j
