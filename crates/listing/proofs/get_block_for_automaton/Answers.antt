-- The rows are tried in their order, and what hits none is marked.
use Rattle.std.proofs.Common.{sym, ◌∙◌, arith}
use Rattle.std.proofs.lemmas.Result.{err_from_is_err_and}
use Rattle.layout.proofs.Numbers.{number_positive}
use Rattle.listing.proofs.ListedOnce.{nothing-listed, all_listed}
use Rattle.listing.proofs.Rows.{record-refused, keys-refused, table-refused, room-refused, none-refused, same-directory, keys-tried}
use Rattle.listing.proofs.get_block_for_automaton.Goals as goal

pub returns-in_err-check : goal.returns-in_err-check
returns-in_err-check c =
    let p = err_from_is_err_and c.from_residual.result c.from_residual.ensures.1 in
    let refusal = c.in_err-check.field-0.0 in
    let (k, bad) = c.in_err-check.ensures in
    rw (p.1, p.2) (record {
      number = k ∙ sym (record-refused _ _ _ _ (rw c.group_len.ensures.0 at bad));
      leaves = nothing-listed _ (number_positive refusal);
    })

pub returns-then-keys_outside : goal.returns-then-keys_outside
returns-then-keys_outside c =
    let a = c.args in
    let (fits, outside) = keys-tried a.opened a.«data».now c.group_len.ensures.0 c.in_ok-check.ensures c.in_ok-check.field-0.fits
    c.directory-directory.ensures c.if-keys_outside.ensures in
    record { number = sym (keys-refused _ _ _ _ fits outside); leaves = nothing-listed _ (omega arith) }

pub returns-in_err-table : goal.returns-in_err-table
returns-in_err-table c =
    let a = c.args in
    let (fits, inside) = keys-tried a.opened a.«data».now c.group_len.ensures.0 c.in_ok-check.ensures c.in_ok-check.field-0.fits
    c.directory-directory.ensures c.if-keys_outside.ensures in
    let p = err_from_is_err_and c.from_residual-in_err-table.result c.from_residual-in_err-table.ensures.1 in
    let n = c.in_err-table.ensures.number in
    let some = number_positive c.in_err-table.field-0.0 in
    rw (p.1, p.2) (record {
      number = n ∙ sym (table-refused _ _ _ _ fits inside (λ z. omega (arith, n)));
      leaves = nothing-listed _ some;
    })

pub returns-then-marks-opened : goal.returns-then-marks-opened
returns-then-marks-opened c =
    let a = c.args in
    let (fits, inside) = keys-tried a.opened a.«data».now c.group_len.ensures.0 c.in_ok-check.ensures c.in_ok-check.field-0.fits
    c.directory-directory.ensures c.if-keys_outside.ensures in
    record {
      number = sym
          (room-refused _ _ _ _ fits inside (sym c.in_ok-table.ensures.number) c.if-marks-opened.true);
      leaves = nothing-listed _
          (omega arith);
    }

pub mark_blocks-requires : goal.mark_blocks-requires
mark_blocks-requires c =
    let directory = same-directory c.args.opened c.args.«data».now c.group_len.ensures.0 c.in_ok-check.ensures
    c.directory-directory.ensures in
    (sym c.if-keys_outside.ensures, omega (arith, directory.1))

pub returns : goal.returns
returns c =
    let a = c.args in
    let directory = same-directory a.opened a.«data».now c.group_len.ensures.0 c.in_ok-check.ensures c.directory-directory.ensures in
    let (fits, inside) = keys-tried a.opened a.«data».now c.group_len.ensures.0 c.in_ok-check.ensures c.in_ok-check.field-0.fits
    c.directory-directory.ensures c.if-keys_outside.ensures in
    record {
      number = sym (none-refused _ _ _ _ fits inside (sym c.in_ok-table.ensures.number) c.if-marks-opened.false);
      leaves = all_listed (rw (c.in_ok-table.ensures.bytes, directory.0, directory.1) at c.mark_blocks.ensures);
    }
