-- Its tests are the definition's, in its order.
use Rattle.std.proofs.Common.{true≢false, sym, ◌∙◌}
use borrow.Author.Tests.{eq-eqb, ltb-true, ltb-false}
use Rattle.key_list.proofs.Pairs.{list-odd, list-long, list-pairs}
use Rattle.key_list.proofs.key_list_bad.Goals as goal
use Rattle.key_list.proofs.key_list_bad.Goals.{then-pairs-eq1, else-pairs-eq1}

pub returns-then-pairs-limit : goal.returns-then-pairs-limit
returns-then-pairs-limit c = elim c.if-pairs-eq1.branch [
  | then-pairs-eq1 w ↦ c.if-pairs-limit.true ∙ sym (list-odd _ _ _ w.if-pairs-eq1.true)
  | else-pairs-eq1 w ↦
      c.if-pairs-limit.true
      ∙ sym (list-long _ _ _ (λ h. w.if-pairs-eq1.false h) (ltb-true _ _ (sym w.value-is ∙ c.if-pairs-limit.true)))
]

pub returns-else-pairs-limit : goal.returns-else-pairs-limit
returns-else-pairs-limit c = elim c.if-pairs-eq1.branch [
  | then-pairs-eq1 w ↦
      absurd (true≢false (sym (w.value-is ∙ eq-eqb _ 1 w.if-pairs-eq1.true) ∙ c.if-pairs-limit.false))
  | else-pairs-eq1 w ↦
      c.pairs_bad.ensures
      ∙ sym (list-pairs _ _ _ (λ h. w.if-pairs-eq1.false h) (ltb-false _ _ (sym w.value-is ∙ c.if-pairs-limit.false)))
]
