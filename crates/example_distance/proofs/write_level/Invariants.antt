-- The loop keeps: of the states passed those of the level have the distance, and the others what they had.
use Rattle.example_distance.proofs.Levels.{PutTo}
use Rattle.example_distance.proofs.write_level.Given as goal

abbrev pub invariant-loop-s : goal.invariant-loop-s
invariant-loop-s l = PutTo l.level l.s-iterator.left l.distance l.initial.distances l.distances
