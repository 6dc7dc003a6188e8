-- Row 30, rows 10 and 11, rows 12 and 13 of the directory's part, then the store.
use Rattle.std.proofs.Common.{arith, sym, ◌∙◌}
use Rattle.std.proofs.lemmas.Result.{err_from_is_err_and}
use Rattle.layout.proofs.Numbers.{number_positive}
use Rattle.index.proofs.OpeningRows.{footer-ok, length-directory_part, file-footer, file-directory}
use Rattle.index.proofs.Terms.{unknown-refused, least-refused}
use Rattle.index_load.proofs.grouped.load_least.Goals as goal

pub returns-in_err-check_version : goal.returns-in_err-check_version
returns-in_err-check_version c =
    let p = err_from_is_err_and c.from_residual.result c.from_residual.ensures.1 in
    rw (p.1, p.2) (unknown-refused c.args.group_len c.args.version _ c.args.«data».now _ c.in_err-check_version.ensures)

pub returns-in_err-directory_len : goal.returns-in_err-directory_len
returns-in_err-directory_len c =
    let p = err_from_is_err_and c.from_residual-in_err-directory_len.result c.from_residual-in_err-directory_len.ensures.1 in
    let no = c.in_err-directory_len.ensures.number in
    let good = sym c.in_ok-check_version.ensures in
    rw (p.1, p.2) (least-refused c.args.group_len c.args.version c.args.«data».now good _
    (no ∙ file-footer c.args.group_len c.args.«data».now (λ z. let some = number_positive c.in_err-directory_len.field-0.0 in omega arith)))

pub slice_bounds-directory_no-end : goal.slice_bounds-directory_no-end
slice_bounds-directory_no-end c =
    let f = c.args.«data».now in
    rw c.in_ok-directory_len.ensures.value (sym (length-directory_part f (footer-ok f (sym c.in_ok-directory_len.ensures.number))))

pub returns-in_err-directory_no : goal.returns-in_err-directory_no
returns-in_err-directory_no c =
    let p = err_from_is_err_and c.from_residual-in_err-directory_no.result c.from_residual-in_err-directory_no.ensures.1 in
    let no = rw c.in_ok-directory_len.ensures.value at c.in_err-directory_no.ensures in
    let good = sym c.in_ok-check_version.ensures in
    rw (p.1, p.2) (least-refused c.args.group_len c.args.version c.args.«data».now good _
    (no ∙ file-directory c.args.group_len c.args.«data».now (sym c.in_ok-directory_len.ensures.number)
    (λ z. let some = number_positive c.in_err-directory_no.field-0.0 in omega arith)))

pub load_store-requires : goal.load_store-requires
load_store-requires c = (
  c.requires,
  sym c.in_ok-directory_len.ensures.number,
  c.in_ok-directory_len.ensures.value,
  sym (rw c.in_ok-directory_len.ensures.value at c.in_ok-directory_no.ensures),
  sym c.in_ok-check_version.ensures,
)
