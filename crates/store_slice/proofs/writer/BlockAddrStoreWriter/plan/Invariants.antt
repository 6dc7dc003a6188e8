-- The groups so far are planned.
use Rattle.store_slice.proofs.Rounds.{Planned}
use Rattle.store_slice.proofs.writer.BlockAddrStoreWriter.plan.Given as goal

abbrev pub invariant-loop-g : goal.invariant-loop-g
invariant-loop-g g l = Planned l.self.group_len (g.R.Records.blocks l.self.records.now) l.kept l.bits l.g
