-- The two words read are those of the keys.
use Rattle.std.proofs.Common.{ℕ}
use Rattle.keys.proofs.Words.{word_count}
use Rattle.keys.proofs.common_of_word.Goals as goal

pub returns : goal.returns
returns c =
    let left = λ (i : ℕ). (c.type_inv.left i).fits in
    let right = λ (i : ℕ). (c.type_inv.right i).fits in
    rw (c.deserialize_u64.ensures, c.deserialize_u64-2.ensures)
    (word_count c.args.left.now c.args.right.now left right c.args.at c.requires.0 c.requires.1)
