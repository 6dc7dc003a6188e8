-- `BlockAddrStoreWriter::hold_group` meets its contract: each record is put behind those that the window holds.
use Rattle.std.proofs.Common.{◌≡◌, ◌*◌, refl, arith}
use Rattle.group.specs.Blocks.{blocks_at}
use Rattle.group.proofs.Records.{held_more}
use Rattle.store_slice.proofs.Rounds.{window-area}
use Rattle.store_slice.proofs.writer.BlockAddrStoreWriter.hold_group.Goals as goal

pub loop-k-init : goal.loop-k-init
unfolding blocks_at
loop-k-init g c = refl

pub loop-k-preserved : goal.loop-k-preserved
loop-k-preserved g c =
    let counted = rw (c.grouping.ensures.1, c.grouping.ensures.0) at c.blocks_in-count.ensures in
    rw c.put_block.ensures
    (held_more c.loop-k.window (g.R.Records.blocks c.args.self.now.records.now) (c.args.self.now.group_len * c.args.g) c.loop-k.k
    (omega (arith, counted)) (omega (arith, counted)) c.loop-k.invariant _ c.block.ensures)

pub invariant_of-result : goal.invariant_of-result
invariant_of-result g c =
    let counted = rw (c.grouping.ensures.1, c.grouping.ensures.0) at c.blocks_in-count.ensures in
    let all : c.loop-k.k ≡ c.blocks_in-count.result = omega arith in
    record {
      ok = window-area c.args.self.now.len (g.R.Records.blocks c.args.self.now.records.now) c.requires.0 c.requires.1 c.loop-k.window
          counted (omega (arith, c.requires.2)) (rw all at c.loop-k.invariant);
    }
