-- The store is the writer's exactly when what is left after the groups passed is.
use Rattle.store_canonical.proofs.Groups.{Passed}
use Rattle.store_canonical.proofs.groups_canonical.Given as goal

abbrev pub invariant-loop-g : goal.invariant-loop-g
invariant-loop-g g l = Passed l.store l.g l.offset
