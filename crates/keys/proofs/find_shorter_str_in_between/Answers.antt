-- What is in common isn't longer than the key.
use Rattle.std.proofs.Common.{arith}
use Rattle.keys.proofs.Order.{common_prefix_len-left}
use Rattle.keys.proofs.find_shorter_str_in_between.Goals as goal

pub shorter_str_behind-requires : goal.shorter_str_behind-requires
shorter_str_behind-requires c = omega (arith, common_prefix_len-left c.args.left.now c.args.right.now)
