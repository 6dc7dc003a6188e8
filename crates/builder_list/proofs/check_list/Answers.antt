-- `check_list` meets its contract: past row 1 the areas are in order.
use Rattle.std.proofs.Common.{sym, ◌∙◌}
use Rattle.builder.proofs.Views.{area-good}
use Rattle.builder.proofs.Row8.{list-places, list-rules, list-none}
use Rattle.builder_list.proofs.check_list.Goals as goal
use Rattle.builder_list.proofs.check_list.Goals.{then-places_bad-via-then-places_bad, then-places_bad-via-else-places_bad+then-rules_bad}

pub returns-then-places_bad : goal.returns-then-places_bad
returns-then-places_bad c =
    elim c.then-places_bad.branch [
      | then-places_bad-via-then-places_bad w ↦
          list-places _ _ _ (area-good _ c.args.areas.now.in_order) (sym c.places_bad.ensures ∙ w.if-places_bad.true)
      | then-places_bad-via-else-places_bad+then-rules_bad w ↦
          list-rules _ _ _ (area-good _ c.args.areas.now.in_order) (sym c.places_bad.ensures ∙ w.if-places_bad.false)
          (sym w.rules_bad.ensures ∙ w.if-rules_bad.true)
    ]

pub returns : goal.returns
returns c =
    list-none _ _ _ (area-good _ c.args.areas.now.in_order) (sym c.places_bad.ensures ∙ c.if-places_bad.false)
    (sym c.rules_bad.ensures ∙ c.if-rules_bad.false)
