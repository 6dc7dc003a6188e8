-- The rest is left to write.
use Rattle.store_slice.proofs.Rounds.{Rest}
use Rattle.store_slice.proofs.writer.BlockAddrStoreWriter.write.Given as goal

abbrev pub invariant-loop-g : goal.invariant-loop-g
invariant-loop-g g l = Rest l.self.group_len (g.R.Records.blocks l.self.records.now) l.fn.out l.out l.offset l.g
