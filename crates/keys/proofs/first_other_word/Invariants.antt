-- The words passed are in common, if the first `from` bytes are.
use Rattle.std.proofs.Common.{◌-◌, ◌≤◌}
use Rattle.keys.specs.Order.{common_prefix_len}
use Rattle.keys.proofs.first_other_word.Given as goal

abbrev pub invariant-loop-at : goal.invariant-loop-at
invariant-loop-at l = l.from ≤ common_prefix_len l.left l.right → l.at ≤ common_prefix_len l.left l.right

abbrev pub decreases-loop-at : goal.decreases-loop-at
decreases-loop-at l = l.last - l.at
