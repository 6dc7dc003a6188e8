-- The numbers after the common prefix are in the keys' order.
use Rattle.std.proofs.Common.{arith}
use Rattle.batch_search.proofs.Picked.{not-below-is}
use Rattle.batch_search.proofs.lanes.not_below.Goals as goal

pub returns : goal.returns
returns c = (
  omega (arith, c.byte_from_1.ensures.1, c.byte_from_1-2.ensures.1),
  not-below-is c.args.at.now c.args.key.now c.byte_from_1.result c.byte_from_1-2.result c.args.shared
      c.byte_from_1.ensures.0 c.byte_from_1-2.ensures.0 c.byte_from_1.ensures.1 c.byte_from_1-2.ensures.1,
)
