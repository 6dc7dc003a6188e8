-- A test that is hit is a fact that the record lacks, and else the last decides.
use Rattle.std.proofs.Common.{◌≡◌, ◌≤◌, ◌*◌, ℕ, Bool, true, true≢false, ltb, arith, sym, ap, ◌∙◌, rules, tests}
use borrow.Author.Tests.{ltb-false, le-ltb}
use Rattle.index.proofs.Fits.{last-test, unfit-bad}
use Rattle.index_lookup.proofs.grouped.opened_bad.Goals as goal
use Rattle.index_lookup.proofs.grouped.opened_bad.Goals.{then-ends_beyond-via-then-ends_beyond}
use Rattle.index_lookup.proofs.grouped.opened_bad.Goals.{then-ends_beyond-via-else-ends_beyond+then-ends_beyond-2}
use Rattle.index_lookup.proofs.grouped.opened_bad.Goals.{then-ends_beyond-via-else-ends_beyond+else-ends_beyond-2+then-ends_beyond-3}

-- a part that is outside doesn't fit
outside : (len end : ℕ) (t : Bool) → t ≡ ltb len end → t ≡ true → end ≤ len → ⊥
outside len end t e h fits = true≢false (sym h ∙ e ∙ le-ltb len end fits)

pub returns-then-version_bad : goal.returns-then-version_bad
returns-then-version_bad c =
    sym (unfit-bad _ _ _ (λ fits. true≢false (sym c.if-version_bad.true ∙ c.version_bad.ensures ∙ fits.version)))

pub returns-then-not-contains : goal.returns-then-not-contains
returns-then-not-contains c = sym (unfit-bad _ _ _ (λ fits. search (rules, tests, arith, fits)))

pub returns-then-ends_beyond : goal.returns-then-ends_beyond
returns-then-ends_beyond c =
    sym (unfit-bad _ _ _ (λ fits. elim c.then-ends_beyond.branch [
      | then-ends_beyond-via-then-ends_beyond w ↦ outside _ _ _ c.ends_beyond.ensures w.if-ends_beyond.true fits.directory
      | then-ends_beyond-via-else-ends_beyond+then-ends_beyond-2 w ↦
          outside _ _ _ w.ends_beyond-else-ends_beyond.ensures w.if-ends_beyond-2.true fits.metas
      | then-ends_beyond-via-else-ends_beyond+else-ends_beyond-2+then-ends_beyond-3 w ↦
          outside _ _ _ w.ends_beyond-else-ends_beyond-2.ensures w.if-ends_beyond-3.true fits.addrs
    ]))

pub returns : goal.returns
returns c =
    let a = c.args in
    ap (λ (x : ℕ). ltb a.opened.metas_len (36 * x)) c.group_count.ensures
    ∙ sym (last-test a.group_len a.opened a.len (sym c.version_bad.ensures ∙ c.if-version_bad.false)
    (search (rules, tests, arith)) (search (rules, tests, arith))
    (ltb-false _ _ (sym c.ends_beyond.ensures ∙ c.if-ends_beyond.false))
    (ltb-false _ _ (sym c.ends_beyond-else-ends_beyond.ensures ∙ c.if-ends_beyond-2.false))
    (ltb-false _ _ (sym c.ends_beyond-else-ends_beyond-2.ensures ∙ c.if-ends_beyond-3.false)))
