-- The window holds the records so far.
use Rattle.std.proofs.Common.{◌≡◌, ◌*◌, take, drop}
use Rattle.group.specs.Blocks.{blocks_at}
use Rattle.store_slice.proofs.writer.BlockAddrStoreWriter.hold_group.Given as goal

abbrev pub invariant-loop-k : goal.invariant-loop-k
invariant-loop-k g l = blocks_at l.window 3 0 l.k ≡ take l.k (drop (l.self.group_len * l.g) (g.R.Records.blocks l.self.records.now))
