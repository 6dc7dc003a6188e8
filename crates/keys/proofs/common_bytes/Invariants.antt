-- The bytes passed are in common.
use Rattle.std.proofs.Common.{◌≤◌}
use Rattle.keys.specs.Order.{common_prefix_len}
use Rattle.keys.proofs.common_bytes.Given as goal

abbrev pub invariant-loop-i : goal.invariant-loop-i
invariant-loop-i l = l.i ≤ common_prefix_len l.left l.right
