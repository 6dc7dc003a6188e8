-- The state behind the common prefix comes from a run over it.
use Rattle.std.proofs.Common.{arith}
use lib.ListN.{length-take}
use Rattle.keys.proofs.Order.{common_prefix_len-left}
use Rattle.pruning_match.proofs.can_block_match_automaton_with_start.Goals as goal

pub slice_bounds-accept_prefix-end : goal.slice_bounds-accept_prefix-end
slice_bounds-accept_prefix-end c = simp length-take (omega (arith, common_prefix_len-left c.args.start_key.now c.args.end_key.now))
