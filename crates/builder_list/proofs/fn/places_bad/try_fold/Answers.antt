-- The sum of a key's place stays in the key area.
use Rattle.std.proofs.Common.{sym, arith, ◌∙◌}
use Rattle.builder.proofs.Views.{record-ok}
use Rattle.builder_list.proofs.fn.places_bad.try_fold.Goals as goal

pub overflow_add-result : goal.overflow_add-result
overflow_add-result c =
    let within = (record-ok _ _ (sym c.record_bad.ensures ∙ c.if-record_bad.false)).within in
    let here = rw c.place_at-place.ensures at c.if-place-next.false in
    rw c.place_at-place.ensures (omega (arith, within, here))
