-- The groups before group g are planned.
use Rattle.store_write.proofs.Turns.{Planned}
use Rattle.store_write.proofs.AreaStore.plan.Given as goal

abbrev pub invariant-loop-g : goal.invariant-loop-g
invariant-loop-g l = Planned l.self l.initial.kept l.kept l.len l.g
