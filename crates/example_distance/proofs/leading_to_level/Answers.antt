-- One bit more with each turn, set where the successors have a state of the level.
use Rattle.std.proofs.Common.{◌≡◌, ℕ, ◌+◌, sym, ap, ◌∙◌, subst, arith, length, get_or, bit_or}
use Rattle.std.proofs.lemmas.Nat.{one_shl}
use Rattle.automaton.proofs.Word.{bit_below, or_set}
use Rattle.automaton.proofs.Built.{Filled, filled_none, filled-clear, filled_zero, filled-one}
use Rattle.example_distance.proofs.Levels.{common, common-up, common-down}
use Rattle.example_distance.proofs.leading_to_level.Goals as goal
use Rattle.example_distance.proofs.leading_to_level.Goals.{then-next-level-ne0, else-next-level-ne0}

pub loop-p-init : goal.loop-p-init
loop-p-init c = filled_none _

pub loop-p-preserved : goal.loop-p-preserved
loop-p-preserved c =
    let l = c.loop-p in
    let a = c.args in
    let f : ℕ → ℕ = λ k. common (get_or a.successors.now k 0) a.level in
    elim c.if-next-level-ne0.branch [
      | then-next-level-ne0 w ↦
          subst (λ (x : ℕ). Filled f (l.p + 1) x)
          (sym (w.word-is ∙ ap (bit_or l.word) (one_shl l.p 64 (omega arith)) ∙ or_set l.word l.p (filled-clear l.invariant)))
          (filled-one l.invariant (omega (arith, w.if-next-level-ne0.true)))
      | else-next-level-ne0 w ↦ subst (λ (x : ℕ). Filled f (l.p + 1) x) (sym w.word-is)
          (filled_zero l.invariant (omega (arith, w.if-next-level-ne0.false)))
    ]

pub returns : goal.returns
returns c =
    let a = c.args in
    let f : ℕ → ℕ = λ k. common (get_or a.successors.now k 0) a.level in
    let e : c.loop-p.p ≡ length a.successors.now = omega arith in
    let i = subst (λ (x : ℕ). Filled f x c.loop-p.word) e c.loop-p.invariant in
    record {
      upper_bound = i.small;
      by_index = λ p s h g₁ g₂. i.at p h ∙ common-down (get_or a.successors.now p 0) a.level s g₁ g₂;
      by_index_2 = λ p g. common-up (get_or a.successors.now p 0) a.level c.ranges.level.fits
          (sym (i.at p (bit_below (length a.successors.now) c.loop-p.word p i.small g)) ∙ g);
    }
