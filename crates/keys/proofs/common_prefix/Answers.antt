-- The common prefix isn't longer than the first key.
use Rattle.std.proofs.Common.{length-take, arith}
use Rattle.keys.proofs.Order.{common_prefix_len-left}
use Rattle.keys.proofs.common_prefix.Goals as goal

pub slice_bounds-result-end : goal.slice_bounds-result-end
slice_bounds-result-end c = simp length-take (omega (arith, common_prefix_len-left c.args.left.now c.args.right.now))
