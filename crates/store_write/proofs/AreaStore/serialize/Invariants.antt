-- The groups before group g are written.
use Rattle.std.proofs.Common.{◌+◌, ◌*◌}
use Rattle.store_write.proofs.Turns.{Written}
use Rattle.store_write.proofs.AreaStore.serialize.Given as goal

abbrev pub invariant-loop-g : goal.invariant-loop-g
invariant-loop-g l = Written l.self l.kept l.initial.out (8 + 36 * l.groups) l.out l.offset l.g
