-- The fold goes over the places that are left, and what it keeps are the extremes of all.
use Rattle.std.proofs.Common.{◌-◌, refl, rules, tests, arith}
use Rattle.std.proofs.lemmas.Iterator.{YieldsList-from_range}
use Rattle.std.proofs.lemmas.Iterator.Consumers.{fold_from_yields_List}
use Rattle.slope.proofs.Cut.{with_point, kept-all}
use Rattle.slope.proofs.Column.cut_extremes.Goals as goal

pub returns : goal.returns
returns c =
    let s = c.args.self.now in
    let start = c.args.start in
    let folded =
    fold_from_yields_List _ (with_point s) start c.fold.result c.fold.ensures.ran
    (YieldsList-from_range start.j s.count _ refl refl) (λ a x b q k. search (rules, tests)) in
    rw folded (kept-all s (s.count - start.j) start start.j (omega (arith, c.requires.within)) refl c.requires)
