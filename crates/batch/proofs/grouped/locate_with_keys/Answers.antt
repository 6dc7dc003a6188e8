-- The record's test, the list's, then the searches, and the ids last.
use Rattle.std.proofs.Common.{arith, ◌∙◌, refl}
use borrow.Author.Tests.{lt-ltb, le-ltb}
use Rattle.std.proofs.lemmas.Result.{err_from_is_err_and}
use Rattle.layout.proofs.Numbers.{number_positive}
use Rattle.batch.proofs.Batches.{list-refused, list-passed, list-bad, ids_short, unfit-answer, list-answer, late-answer, taken-answer}
use Rattle.batch.proofs.grouped.locate_with_keys.Goals as goal

pub returns-in_err-index : goal.returns-in_err-index
returns-in_err-index c =
    let p = err_from_is_err_and c.from_residual.result c.from_residual.ensures.1 in
    rw (p.1, p.2, c.in_err-index.ensures.0) (unfit-answer _ _ _ _ _ _ c.requires c.in_err-index.ensures.1)

pub returns-in_err-list : goal.returns-in_err-list
returns-in_err-list c =
    let e = c.in_ok-index.ensures in
    let fits = rw (e.2, e.0, e.1) at c.in_ok-index.index.fits in
    let p = err_from_is_err_and c.from_residual-in_err-list.result c.from_residual-in_err-list.ensures.1 in
    let bad = list-refused _ _ c.in_err-list.ensures.number (number_positive c.in_err-list.field-0.0) in
    rw (p.1, p.2, bad.1) (list-answer _ _ _ _ _ _ c.requires fits (list-bad _ _ _ bad.0))

pub returns-then-ids-len : goal.returns-then-ids-len
returns-then-ids-len c =
    let e = c.in_ok-index.ensures in
    let fits = rw (e.2, e.0, e.1) at c.in_ok-index.index.fits in
    let l = c.in_ok-list.ensures.list in
    let count = rw l.0 at c.len.ensures in
    list-answer _ _ _ _ _ _ c.requires fits (ids_short _ _ _ (list-passed _ c.in_ok-list.ensures.number)
    ∙ lt-ltb _ _ (omega (arith, count)))

pub returns-in_err-find_entries : goal.returns-in_err-find_entries
returns-in_err-find_entries c =
    let e = c.in_ok-index.ensures in
    let fits = rw (e.2, e.0, e.1) at c.in_ok-index.index.fits in
    let l = c.in_ok-list.ensures.list in
    let count = rw l.0 at c.len.ensures in
    let good = ids_short _ _ _ (list-passed _ c.in_ok-list.ensures.number) ∙ le-ltb _ _ (omega (arith, count)) in
    let is = rw (e.0, e.1) at c.directory.ensures in
    let searched = rw (is.0, l.0, l.1) at c.in_err-find_entries.ensures.entries in
    let p = err_from_is_err_and c.from_residual-in_err-find_entries.result c.from_residual-in_err-find_entries.ensures.1 in
    rw (p.1, p.2, c.in_err-find_entries.ensures.number) (late-answer _ _ _ _ _ _ c.requires fits good _ _ is.1 _ searched refl)

pub returns : goal.returns
returns c =
    let e = c.in_ok-index.ensures in
    let fits = rw (e.2, e.0, e.1) at c.in_ok-index.index.fits in
    let l = c.in_ok-list.ensures.list in
    let count = rw l.0 at c.len.ensures in
    let good = ids_short _ _ _ (list-passed _ c.in_ok-list.ensures.number) ∙ le-ltb _ _ (omega (arith, count)) in
    let is = rw (e.0, e.1) at c.directory.ensures in
    let searched = rw (is.0, l.0, l.1) at c.in_ok-find_entries.ensures.entries in
    rw (c.write.ensures, c.len-2.ensures, l.0) (taken-answer _ _ _ _ _ _ c.requires fits good _ _ is.1 _ searched refl)
