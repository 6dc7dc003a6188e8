-- Eight words more with each turn, and after four of them all 32.
use Rattle.std.proofs.Common.{◌≡◌, List, [], ℕ, ◌+◌, ◌-◌, ◌*◌, ◌/◌, ◌<◌, ⊎_elim, sym, ap, ◌∙◌, subst, arith, length, get_or}
use Rattle.std.proofs.lemmas.Bool.{cases_lt}
use Rattle.std.specs.Simd.{first_chunks}
use Rattle.serialize.specs.Digits.{le_val, number_at}
use Rattle.automaton.proofs.Exact.{when_true}
use Rattle.automaton.proofs.Eights.{eight_at, part-in, chunk-of}
use Rattle.automaton_reach.proofs.row_repeats.Goals as goal

quarter-word : (row : List ℕ) → length row ≡ 256 → (quarters : List (List ℕ)) → quarters ≡ first_chunks 64 (length row / 64) row
    → (q : ℕ) → q < 4 → (k : ℕ) → k < 8 → number_at (get_or quarters q []) (8 * k) 8 ≡ eight_at row (64 * q + 8 * k)
quarter-word row h quarters are q l k g =
    rw (chunk-of 64 q row quarters are (omega arith)) (ap le_val (part-in row (64 * q) (8 * k) 64 8 (omega arith)))

pub loop-quarter-preserved : goal.loop-quarter-preserved
loop-quarter-preserved c =
    let row = c.args.row.now in
    let q = c.loop-quarter.quarter-index in
    let inside : q < 4 = omega (arith, c.as_chunks.ensures.front_len, c.requires, c.loop-quarter-test.true) in
    let same = when_true c.repeats.ensures c.if-not-repeats.false in
    λ k l.
    ⊎_elim (c.loop-quarter.invariant k)
    (λ g.
    let e : 64 * q + 8 * (k - 8 * q) ≡ 8 * k = omega arith in
    let word = quarter-word row c.requires _ c.as_chunks.ensures.front q inside (k - 8 * q) (omega arith) in
    subst (λ (x : ℕ). eight_at row x ≡ c.args.last) e (sym word ∙ same (k - 8 * q) (omega arith)))
    (cases_lt k (8 * q))

pub returns : goal.returns
returns c = λ _ k l. c.loop-quarter.invariant k (omega (arith, c.as_chunks.ensures.front_len, c.requires, l))
