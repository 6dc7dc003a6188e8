-- A word that doesn't differ is in common; one that does has the end of what is in common.
use Rattle.std.proofs.Common.{ℕ, sym, ◌∙◌, arith}
use Rattle.keys.proofs.Order.{common_prefix_len-left, common_prefix_len-right}
use Rattle.keys.proofs.Words.{same_word, other_word}
use Rattle.keys.proofs.first_other_word.Goals as goal

pub returns-then-deserialize_u64-clause-right_bound : goal.returns-then-deserialize_u64-clause-right_bound
returns-then-deserialize_u64-clause-right_bound c h =
    let at = c.loop-at.at in
    let left = λ (i : ℕ). (c.type_inv.left i).fits in
    let right = λ (i : ℕ). (c.type_inv.right i).fits in
    let passed = c.loop-at.invariant h in
    omega (
      arith,
      other_word c.args.left.now c.args.right.now left right at (omega arith) (omega arith) passed
          (λ q. c.if-deserialize_u64.true (c.deserialize_u64.ensures ∙ q ∙ sym c.deserialize_u64-in-loop-at.ensures)),
    )

pub loop-at-preserved : goal.loop-at-preserved
loop-at-preserved c h =
    let at = c.loop-at.at in
    let left = λ (i : ℕ). (c.type_inv.left i).fits in
    let right = λ (i : ℕ). (c.type_inv.right i).fits in
    let same = sym c.deserialize_u64.ensures ∙ c.if-deserialize_u64.false ∙ c.deserialize_u64-in-loop-at.ensures in
    let passed = c.loop-at.invariant h in
    omega (arith, same_word c.args.left.now c.args.right.now left right at (omega arith) (omega arith) passed same)

pub returns-clause-right_bound : goal.returns-clause-right_bound
returns-clause-right_bound c h =
    omega (arith, common_prefix_len-left c.args.left.now c.args.right.now, common_prefix_len-right c.args.left.now c.args.right.now)
