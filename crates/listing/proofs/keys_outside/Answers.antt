-- `any` says whether one of the keys is outside.
use Rattle.std.proofs.Common.{refl, ◌∙◌, rules, tests, arith}
use Rattle.std.proofs.lemmas.Iterator.{YieldsList-from_range}
use Rattle.std.proofs.lemmas.Iterator.Search.{any_from_yields_List}
use Rattle.layout.proofs.Fronts.{any-told}
use Rattle.directory.specs.Read.{key_outside}
use Rattle.listing.proofs.Outside.{outside-fronts}
use Rattle.listing.proofs.keys_outside.Goals as goal

pub returns : goal.returns
returns c =
    let d = c.args.directory in
    any_from_yields_List (key_outside d.bytes.now d.n) _ _ c.any.result c.any.ensures.ran
    (YieldsList-from_range 0 d.n d.n refl (omega arith)) (λ x b q k. search (rules, tests))
    ∙ any-told (outside-fronts d.bytes.now d.n) d.n
