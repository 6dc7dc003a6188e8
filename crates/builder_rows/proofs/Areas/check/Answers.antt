-- `Areas::check` meets its contract: areas that don't hit row 1 are in order.
use Rattle.std.proofs.Common.{sym, ◌∙◌}
use Rattle.builder.proofs.Views.{area-ok}
use Rattle.builder_rows.proofs.Areas.check.Goals as goal

pub invariant_of-result : goal.invariant_of-result
invariant_of-result c = record { in_order = area-ok _ (sym c.area_bad.ensures ∙ c.if-area_bad.false) }
