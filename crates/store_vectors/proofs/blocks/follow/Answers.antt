-- Each block of the range is followed by the next, as `all` tested.
use Rattle.std.proofs.Common.{ℕ, suc, refl, rules, tests, arith}
use Rattle.std.proofs.lemmas.Iterator.{cases_from_all, YieldsList-from_range}
use Rattle.group.specs.Blocks.{block_at}
use Rattle.group.specs.Legal.{Follows}
use Rattle.store_vectors.proofs.Read.{each-of}
use Rattle.store_vectors.proofs.blocks.follow.Goals as goal

pub returns : goal.returns
returns c e i l =
    let n = c.saturating_sub.result in
    each-of (λ (i : ℕ). Follows (block_at c.args.area.now 3 i) (block_at c.args.area.now 3 (suc i))) _ n _ (cases_from_all _ _ _
    (λ (i : ℕ). Follows (block_at c.args.area.now 3 i) (block_at c.args.area.now 3 (suc i))) (λ (i : ℕ). Unit {0})
    c.all.ensures.ran (YieldsList-from_range 0 n n refl (omega arith))
    (λ x q k. search (rules, tests)) (λ x q k. tt)) e i (search (rules, tests))
