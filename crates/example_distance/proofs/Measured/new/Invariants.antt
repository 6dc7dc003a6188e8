-- The loop keeps the levels: `Levels`. The measure is what the distance lacks of 64.
use Rattle.std.proofs.Common.{◌-◌}
use Rattle.example_distance.proofs.Levels.{Levels}
use Rattle.example_distance.proofs.Measured.new.Given as goal

abbrev pub invariant-loop-level : goal.invariant-loop-level
invariant-loop-level l = Levels l.table.bytes.now l.distances l.found l.level l.distance

abbrev pub decreases-loop-level : goal.decreases-loop-level
decreases-loop-level l = 64 - l.distance
