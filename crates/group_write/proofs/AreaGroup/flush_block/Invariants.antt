-- The packer took the fields of the blocks before block i.
use Rattle.group_write.proofs.Flush.{Before}
use Rattle.group_write.proofs.AreaGroup.flush_block.Given as goal

abbrev pub invariant-loop-i : goal.invariant-loop-i
invariant-loop-i l = Before l.self l.ranges l.ordinals l.initial.out l.out l.packer l.i
