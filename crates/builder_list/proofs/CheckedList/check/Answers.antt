-- `CheckedList::check` meets its contract: the areas show what the builder and the lent slices do.
use Rattle.std.proofs.Common.{◌∙◌}
use Rattle.layout.proofs.Numbers.{number_positive}
use Rattle.builder.proofs.Cased.{passed-number}
use Rattle.builder.proofs.Row8.{list-first}
use Rattle.builder_list.proofs.CheckedList.check.Goals as goal

pub returns-in_err-areas-clause-rows_1_and_8 : goal.returns-in_err-areas-clause-rows_1_and_8
returns-in_err-areas-clause-rows_1_and_8 c =
    let e = c.in_err-areas.field-0.0 in
    passed-number c.from_residual.result e c.from_residual.ensures.1 ∙ list-first _ _ _ _ c.in_err-areas.ensures.row_1 (number_positive e)
