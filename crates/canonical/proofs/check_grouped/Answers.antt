-- A file that doesn't open is refused with opening's row, and the record of one that opens has its own version and number of terms.
use Rattle.std.proofs.Common.{sym}
use Rattle.std.proofs.lemmas.Result.{err_from_is_err_and}
use Rattle.builder.specs.Index.{settings_of}
use Rattle.index.specs.Opening.{least_terms}
use Rattle.index.proofs.Terms.{opens-own, own-good}
use Rattle.canonical.proofs.Opened.{refused-number}
use Rattle.canonical.proofs.check_grouped.Goals as goal

pub returns-in_err-opened : goal.returns-in_err-opened
returns-in_err-opened c =
    let a = c.args in
    let p = err_from_is_err_and c.from_residual.result c.from_residual.ensures.1 in
    rw (p.1, p.2) (refused-number (settings_of a.group_len) a.version a.«data».now c.in_err-opened.field-0.0 (sym c.in_err-opened.ensures))

pub check_store-requires : goal.check_store-requires
check_store-requires c =
    let a = c.args in
    let f = a.«data».now in
    (c.requires, opens-own a.group_len a.version (least_terms a.group_len f) f c.in_ok-opened.opened (sym c.in_ok-opened.ensures))

pub returns : goal.returns
returns c =
    let a = c.args in
    let f = a.«data».now in
    let good = own-good a.group_len a.version (least_terms a.group_len f) f c.in_ok-opened.opened (sym c.in_ok-opened.ensures) in
    rw good c.check_store.ensures
