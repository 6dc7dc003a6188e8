-- One block more, and all of them.
use Rattle.std.proofs.Common.{arith}
use Rattle.store_canonical.proofs.Own.{own-turn, own-all}
use Rattle.store_canonical.proofs.read_group.Goals as goal

pub loop-i-preserved : goal.loop-i-preserved
loop-i-preserved c =
    let g = c.args.group.now in
    let inv = c.loop-i.invariant in (
      c.range_start.ensures,
      rw c.put_block.ensures
          (own-turn g.meta g.«data».now c.loop-i.area c.loop-i.i c.loop-i.start c.range_start.result c.first_ordinal.result (omega arith)
          (omega arith) inv.1
          inv.0 c.range_start.ensures c.first_ordinal.ensures),
    )

pub returns : goal.returns
returns c = let g = c.args.group.now in own-all g.meta g.«data».now c.loop-i.area c.loop-i.i (omega arith) c.loop-i.invariant.1
