-- What was planned stands in the area that writing reads, and the part is as long as the store.
use Rattle.std.proofs.Common.{rules, arith, ◌-◌, drop, length}
use lib.ListN.{length-take, length-drop}
use Rattle.store.proofs.Plans.{plans-stand}
use Rattle.store_vectors.proofs.stores.write.Goals as goal

pub serialize-written-requires : goal.serialize-written-requires
serialize-written-requires c = (
  plans-stand _ (search rules) c.args.blocks.now.area.now c.args.blocks.now.stride c.args.blocks.now.n _ _ c.requires.0
      c.plan-len.ensures.1,
  omega (
    arith,
    c.plan-len.ensures.0,
    c.if-len-out.false,
    length-take (length c.args.out.now - 16) (drop 16 c.args.out.now),
    length-drop 16 c.args.out.now,
  ),
)
