-- The lowest and the highest point before place j of a column of the code.
use Rattle.std.specs.Prelude.{ℕ}
use Rattle.slope.specs.Extremes.{ExtremesAt}
use Rattle.slope.specs.declared.Column as code
use Rattle.slope.specs.declared.Point as code_point

abbrev pub ExtremesOf : code.Column → code_point.Point → code_point.Point → ℕ → Type 0
ExtremesOf c low high j = ExtremesAt c.area.now c.at c.stride c.base c.count low high j
