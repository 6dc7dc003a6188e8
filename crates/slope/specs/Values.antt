-- The values of a column of the code.
use Rattle.std.specs.Prelude.{ℕ, List}
use Rattle.slope.specs.Column.{column}
use Rattle.slope.specs.declared.Column as code

abbrev pub values : code.Column → List ℕ
values c = column c.area.now c.at c.stride c.base c.count
