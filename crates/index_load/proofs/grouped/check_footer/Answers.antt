-- Rows 10 and 11, without a sum that wraps.
use Rattle.std.proofs.Common.{arith, sym, ◌∙◌}
use borrow.Author.Tests.{ltb-true, ltb-false}
use Rattle.index.proofs.OpeningRows.{footer-short, footer-none, footer-beyond, footer-good}
use Rattle.index_load.proofs.grouped.check_footer.Goals as goal

pub returns-then-len-lt-FOOTER_LEN-clause-number : goal.returns-then-len-lt-FOOTER_LEN-clause-number
returns-then-len-lt-FOOTER_LEN-clause-number c = footer-short c.args.«data».now (omega arith)

pub returns-then-directory-eq0-clause-number : goal.returns-then-directory-eq0-clause-number
returns-then-directory-eq0-clause-number c = footer-none c.args.«data».now (omega arith) (omega arith)

pub returns-then-ends_beyond-clause-number : goal.returns-then-ends_beyond-clause-number
returns-then-ends_beyond-clause-number c =
    footer-beyond c.args.«data».now (omega arith) (λ e. omega arith)
    (omega (arith, c.deserialize_u64-directory.ensures, ltb-true _ _ (sym c.ends_beyond.ensures ∙ c.if-ends_beyond.true)))

pub returns-clause-number : goal.returns-clause-number
returns-clause-number c =
    let inside = ltb-false _ _ (sym c.ends_beyond.ensures ∙ c.if-ends_beyond.false) in
    sym (footer-good c.args.«data».now (record { some = omega arith; inside = omega (arith, c.deserialize_u64-directory.ensures, inside) }))
