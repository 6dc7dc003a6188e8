-- Each block of the range keeps the limits, as `all` tested.
use Rattle.std.proofs.Common.{ℕ, refl, rules, tests, arith}
use Rattle.std.proofs.lemmas.Iterator.{cases_from_all, YieldsList-from_range}
use Rattle.group.specs.Blocks.{block_at}
use Rattle.group.specs.Legal.{NumbersOk}
use Rattle.store_vectors.proofs.Read.{each-of}
use Rattle.store_vectors.proofs.blocks.have_legal_numbers.Goals as goal

pub returns : goal.returns
returns c =
    each-of (λ (i : ℕ). NumbersOk (block_at c.args.area.now 3 i)) _ c.args.n _ (cases_from_all _ _ _
    (λ (i : ℕ). NumbersOk (block_at c.args.area.now 3 i)) (λ (i : ℕ). Unit {0})
    c.all.ensures.ran (YieldsList-from_range 0 c.args.n c.args.n refl (omega arith))
    (λ x q k. search (rules, tests)) (λ x q k. tt))
