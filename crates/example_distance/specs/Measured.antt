-- A table with its distances.
use Rattle.example_distance.specs.declared.Measured.{Measured}
use Rattle.example_distance.specs.Distance.{Distances}

-- they are right
abbrev pub IsMeasured : Measured → Type 0
IsMeasured m = Distances m.table.bytes.now m.distances
