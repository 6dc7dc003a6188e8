-- The common prefix ends within the word found.
use Rattle.std.proofs.Common.{arith}
use Rattle.keys.proofs.Words.{common_prefix_len-behind}
use Rattle.keys.proofs.common_prefix_len_from.Goals as goal

pub returns : goal.returns
returns c h =
    let word = c.first_other_word-at in
    let passed = word.ensures.upper_bound_2 h in
    let found = word.ensures.right_bound h in
    omega (arith, common_prefix_len-behind word.result c.args.left.now c.args.right.now passed)
