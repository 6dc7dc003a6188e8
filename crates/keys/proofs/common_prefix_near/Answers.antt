-- The word's common bytes follow those in common; in the last word, or where they don't fill it, they are the last.
use Rattle.std.proofs.Common.{arith}
use mathlib.Core.Logic.{⊎_elim}
use Rattle.keys.proofs.Order.{common_prefix_len-left, common_prefix_len-right}
use Rattle.keys.proofs.Words.{common_prefix_len-behind}
use Rattle.keys.proofs.common_prefix_near.Goals as goal

-- the word is the last, or fewer than 8 of its bytes are in common
pub returns-then-near-lt8 : goal.returns-then-near-lt8
returns-then-near-lt8 c h =
    let behind = common_prefix_len-behind c.min-at.result c.args.left.now c.args.right.now (omega arith) in
    let left = common_prefix_len-left c.args.left.now c.args.right.now in
    let right = common_prefix_len-right c.args.left.now c.args.right.now in
    ⊎_elim (λ last. omega arith) (λ near. omega arith) c.if-near-lt8.either

pub returns-else-near-lt8 : goal.returns-else-near-lt8
returns-else-near-lt8 c h = omega (arith, common_prefix_len-behind c.min-at.result c.args.left.now c.args.right.now (omega arith))
