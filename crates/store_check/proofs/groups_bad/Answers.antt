-- Some group breaks row 15 where `any` says so.
use Rattle.std.proofs.Common.{refl, ◌∙◌, rules, tests, arith}
use Rattle.std.proofs.lemmas.Iterator.{YieldsList-from_range}
use Rattle.std.proofs.lemmas.Iterator.Search.{any_from_yields_List}
use Rattle.layout.proofs.Fronts.{any-told}
use Rattle.store.proofs.Rows.{group_rule, groups-fronts}
use Rattle.store_check.proofs.groups_bad.Goals as goal

pub returns : goal.returns
returns c =
    let s = c.args.store.now in
    any_from_yields_List (group_rule s.group_len s.metas.now s.addrs.now s.n) _ _ c.any.result c.any.ensures.ran
    (YieldsList-from_range 0 _ _ refl (omega arith)) (λ x b q k. search (rules, tests))
    ∙ any-told (groups-fronts s.group_len s.metas.now s.addrs.now s.n) _
