-- The fold goes over the places, and the largest of all derivations is what is left.
use Rattle.std.proofs.Common.{◌∙◌, refl, rules, tests, arith}
use Rattle.std.proofs.lemmas.Iterator.{YieldsList-from_range}
use Rattle.std.proofs.lemmas.Iterator.Consumers.{fold_from_yields_List}
use Rattle.slope.specs.Slope.{derivation}
use Rattle.slope.proofs.Derivations.{larger, largest-all}
use Rattle.slope.proofs.Column.max_derivation.Goals as goal

pub returns : goal.returns
unfolding derivation
returns c =
    let s = c.args.self.now in
    fold_from_yields_List _ (larger s c.args.slope) 0 c.fold.result c.fold.ensures.ran
    (YieldsList-from_range 0 s.count s.count refl (omega arith)) (λ a x b q k. search (rules, tests))
    ∙ largest-all s c.args.slope
