-- `rules_bad` meets its contract: every front of the blocks fits the areas.
use Rattle.std.proofs.Common.{◌∙◌, ℕ, ◌+◌, refl, rules, tests, arith}
use Rattle.std.proofs.lemmas.Iterator.{serves_from_Range, YieldsList-from_range}
use Rattle.std.proofs.lemmas.Iterator.Search.{any_from_yields_List}
use Rattle.layout.proofs.Fronts.{any-told}
use Rattle.builder.specs.Finish.{rule_bad}
use Rattle.builder.proofs.Row8.{front-ok, rules-fronts}
use Rattle.builder_list.proofs.rules_bad.Goals as goal

pub any-requires-clause-callable : goal.any-requires-clause-callable
any-requires-clause-callable c =
    let a = c.args.areas.now in
    let front = front-ok a.blocks.now a.keys.now a.builder.n c.requires a.in_order in
    serves_from_Range (λ x q k. search (rules, tests)) (λ x low high.
    let here = front x (omega arith) in
    let next = front (x + 1) (omega arith) in
    search (rules, here, next))

pub returns : goal.returns
returns c =
    let a = c.args.areas.now in
    any_from_yields_List (λ (m : ℕ). rule_bad m a.blocks.now a.keys.now) _ _ c.any.result c.any.ensures.ran
    (YieldsList-from_range 0 a.builder.n a.builder.n refl (omega arith)) (λ x b q k. search (rules, tests))
    ∙ any-told (rules-fronts a.blocks.now a.keys.now) a.builder.n
