-- The groups passed keep row 16.
use Rattle.store_check.proofs.Groups.{Before}
use Rattle.store_check.proofs.last_of_all.Given as goal

abbrev pub invariant-loop-g : goal.invariant-loop-g
invariant-loop-g l = Before l.store l.before l.g
