-- Words that repeat the last one are passed, and the bits of any other eight are added.
use Rattle.std.proofs.Common.{◌≡◌, List, [], ℕ, ◌+◌, ◌*◌, ◌/◌, ◌≤◌, ◌<◌, sym, ap, ◌∙◌, subst, arith, length, get_or, take, drop}
use Rattle.std.specs.Simd.{first_chunks}
use Rattle.serialize.specs.Digits.{le_val, number_at, DigitsBelow}
use Rattle.automaton.specs.Bits.{bit}
use Rattle.automaton.proofs.Exact.{when_true}
use Rattle.automaton.proofs.Built.{Holds}
use Rattle.automaton.proofs.Eights.{eight_at, Held, held_first, held-skip, held-repeats, held-add}
use Rattle.automaton.proofs.Eights.{part-in, chunk-of, length-part, part-byte, part-word}
use Rattle.automaton_reach.proofs.next_states.Goals as goal
use Rattle.automaton_reach.proofs.next_states.Goals.{then-eight-last, else-eight-last}

-- a quarter of the row, and its words
module _ (row : List ℕ) (h : length row ≡ 256) (quarters : List (List ℕ)) (are : quarters ≡ first_chunks 64 (length row / 64) row)
    (q : ℕ) (l : q < 4) where
  quarter-is : get_or quarters q [] ≡ take 64 (drop (64 * q) row)
  quarter-is = chunk-of 64 q row quarters are (omega arith)

  quarter-long : length (get_or quarters q []) ≡ 64
  quarter-long = length-part row (get_or quarters q []) (64 * q) 64 quarter-is (omega arith)

  quarter-word : (k : ℕ) → k < 8 → number_at (get_or quarters q []) (8 * k) 8 ≡ eight_at row (64 * q + 8 * k)
  quarter-word k g = rw quarter-is (ap le_val (part-in row (64 * q) (8 * k) 64 8 (omega arith)))

  piece-is : (pieces : List (List ℕ)) → pieces ≡ first_chunks 8 (length (get_or quarters q []) / 8) (get_or quarters q []) → (k : ℕ)
      → k < 8 → get_or pieces k [] ≡ take 8 (drop (64 * q + 8 * k) row)
  piece-is pieces is k g =
      chunk-of 8 k (get_or quarters q []) pieces is (omega (arith, quarter-long))
      ∙ ap (λ (x : List ℕ). take 8 (drop (8 * k) x)) quarter-is
      ∙ part-in row (64 * q) (8 * k) 64 8 (omega arith)

-- what the bits of a part's bytes are, as those of the row's
module _ (row p : List ℕ) (n : ℕ) (is : p ≡ take 8 (drop n row)) where
  part-below : ((b : ℕ) → b < 256 → get_or row b 0 < 64) → n + 8 ≤ 256 → (b : ℕ) → b < 8 → get_or p b 0 < 64
  part-below f h b l = omega (arith, part-byte row p n 8 b is l, f (n + b) (omega arith))

  part-holds : {w : ℕ} → ((b : ℕ) → b < 8 → bit w (get_or p b 0) ≡ 1)
      → ((s : ℕ) → bit w s ≡ 1 → (b : ℕ) × (b < 8) × (get_or p b 0 ≡ s)) → Holds (λ k. get_or row (n + k) 0) 8 w
  part-holds {w} f g = record {
    has = λ b l. subst (λ (x : ℕ). bit w x ≡ 1) (part-byte row p n 8 b is l) (f b l);
    only = λ s e. let (b, l, q) = g s e in (b, l, sym (part-byte row p n 8 b is l) ∙ q);
  }

first-is : (row : List ℕ) (parts : List (List ℕ)) → length row ≡ 256 → parts ≡ first_chunks 8 (length row / 8) row
    → get_or parts 0 [] ≡ take 8 (drop 0 row)
first-is row parts h are = chunk-of 8 0 row parts are (omega arith)

pub states_of-word-requires : goal.states_of-word-requires
states_of-word-requires c =
    let row = c.args.row.now in
    part-below row _ 0 (first-is row _ c.requires.0 c.as_chunks.ensures.front) c.requires.1 (omega arith)

-- what is known before the first quarter
first-held : (row part : List ℕ) → DigitsBelow 8 row → length row ≡ 256 → part ≡ take 8 (drop 0 row) → (last w : ℕ) → last ≡ eight_at row 0
    → ((b : ℕ) → b < 8 → bit w (get_or part b 0) ≡ 1) → ((s : ℕ) → bit w s ≡ 1 → (b : ℕ) × (b < 8) × (get_or part b 0 ≡ s))
    → Held row (64 * 0) last w
first-held row part small h is last w e f g =
    let all : Holds (λ k. get_or row (0 + k) 0) 8 w = part-holds row part 0 is f g in
    held_first small e all

-- a row whose words all equal the first
whole-held : (row : List ℕ) → DigitsBelow 8 row → (last w : ℕ) → Held row (64 * 0) last w
    → ((k : ℕ) → k < 32 → number_at row (8 * k) 8 ≡ last) → Held row 256 last w
whole-held row small last w i same = step 3 (omega arith) (step 2 (omega arith) (step 1 (omega arith) (step 0 (omega arith) i)))
  where
    step : (q : ℕ) → q < 4 → Held row (64 * q) last w → Held row (64 * (q + 1)) last w
    step q l h =
        let e : 64 * q + 64 ≡ 64 * (q + 1) = omega arith in
        subst (λ (x : ℕ). Held row x last w) e (held-repeats small h (λ k g.
        let d : 8 * (8 * q + k) ≡ 64 * q + 8 * k = omega arith in
        subst (λ (x : ℕ). eight_at row x ≡ last) d (same (8 * q + k) (omega arith))))

pub returns-then-word-wanted-ne0-clause-by_index : goal.returns-then-word-wanted-ne0-clause-by_index
returns-then-word-wanted-ne0-clause-by_index c =
    let row = c.args.row.now in
    let s = c.states_of-word in
    let is = first-is row _ c.requires.0 c.as_chunks.ensures.front in
    (first-held row _ (λ i. omega (arith, c.type_inv.row i)) c.requires.0 is _ s.result
    (c.from_le_bytes-last.ensures ∙ part-word row _ 0 is (omega (arith, c.requires.0))) s.ensures.by_index s.ensures.by_index_2).only

pub returns-then-row_repeats-clause-b_value : goal.returns-then-row_repeats-clause-b_value
returns-then-row_repeats-clause-b_value c =
    let row = c.args.row.now in
    let small : DigitsBelow 8 row = λ i. omega (arith, c.type_inv.row i) in
    let s = c.states_of-word in
    let is = first-is row _ c.requires.0 c.as_chunks.ensures.front in
    let held = first-held row _ small c.requires.0 is _ s.result
    (c.from_le_bytes-last.ensures ∙ part-word row _ 0 is (omega (arith, c.requires.0))) s.ensures.by_index s.ensures.by_index_2 in
    λ _. (whole-held row small _ s.result held (c.row_repeats.ensures c.if-row_repeats.true)).has

pub returns-then-row_repeats-clause-by_index : goal.returns-then-row_repeats-clause-by_index
returns-then-row_repeats-clause-by_index c =
    let row = c.args.row.now in
    let s = c.states_of-word in
    let is = first-is row _ c.requires.0 c.as_chunks.ensures.front in
    (first-held row _ (λ i. omega (arith, c.type_inv.row i)) c.requires.0 is _ s.result
    (c.from_le_bytes-last.ensures ∙ part-word row _ 0 is (omega (arith, c.requires.0))) s.ensures.by_index s.ensures.by_index_2).only

pub loop-quarter-init : goal.loop-quarter-init
loop-quarter-init c =
    let row = c.args.row.now in
    let s = c.states_of-word in
    let is = first-is row _ c.requires.0 c.as_chunks.ensures.front in
    first-held row _ (λ i. omega (arith, c.type_inv.row i)) c.requires.0 is _ s.result
    (c.from_le_bytes-last.ensures ∙ part-word row _ 0 is (omega (arith, c.requires.0))) s.ensures.by_index s.ensures.by_index_2

pub loop-quarter-preserved-then-repeats : goal.loop-quarter-preserved-then-repeats
loop-quarter-preserved-then-repeats c =
    let row = c.args.row.now in
    let l = c.loop-quarter in
    let q = l.quarter-index in
    let small : DigitsBelow 8 row = λ i. omega (arith, c.type_inv.row i) in
    let inside : q < 4 = omega (arith, c.as_chunks-2.ensures.front_len, c.requires.0, c.loop-quarter-test.true) in
    let same = when_true c.repeats.ensures c.if-repeats.true in
    let e : 64 * q + 64 ≡ 64 * (q + 1) = omega arith in
    subst (λ (x : ℕ). Held row x l.last l.word) e
    (held-repeats small l.invariant (λ k g. sym (quarter-word row c.requires.0 _ c.as_chunks-2.ensures.front q inside k g) ∙ same k g))

pub loop-bytes-init : goal.loop-bytes-init
loop-bytes-init c =
    let q = c.loop-quarter.quarter-index in
    let e : 64 * q ≡ 64 * q + 8 * 0 = omega arith in
    subst (λ (x : ℕ). Held c.args.row.now x c.loop-quarter.last c.loop-quarter.word) e c.loop-quarter.invariant

pub states_of-word-requires-then-eight-last : goal.states_of-word-requires-then-eight-last
states_of-word-requires-then-eight-last c =
    let row = c.args.row.now in
    let q = c.loop-quarter.quarter-index in
    let k = c.loop-bytes.bytes-index in
    let g : q < 4 = omega (arith, c.as_chunks-2.ensures.front_len, c.requires.0, c.loop-quarter-test.true) in
    let long = quarter-long row c.requires.0 _ c.as_chunks-2.ensures.front q g in
    let h : k < 8 = omega (arith, c.as_chunks-in-loop-quarter.ensures.front_len, long, c.loop-bytes-test.true) in
    part-below row _ (64 * q + 8 * k)
    (piece-is row c.requires.0 _ c.as_chunks-2.ensures.front q g _ c.as_chunks-in-loop-quarter.ensures.front k h)
    c.requires.1 (omega arith)

pub loop-bytes-preserved : goal.loop-bytes-preserved
loop-bytes-preserved c =
    let row = c.args.row.now in
    let q = c.loop-quarter.quarter-index in
    let k = c.loop-bytes.bytes-index in
    let g : q < 4 = omega (arith, c.as_chunks-2.ensures.front_len, c.requires.0, c.loop-quarter-test.true) in
    let long = quarter-long row c.requires.0 _ c.as_chunks-2.ensures.front q g in
    let h : k < 8 = omega (arith, c.as_chunks-in-loop-quarter.ensures.front_len, long, c.loop-bytes-test.true) in
    let n = 64 * q + 8 * k in
    let small : DigitsBelow 8 row = λ i. omega (arith, c.type_inv.row i) in
    let piece = piece-is row c.requires.0 _ c.as_chunks-2.ensures.front q g _ c.as_chunks-in-loop-quarter.ensures.front k h in
    let x = c.from_le_bytes-eight in
    let is = x.ensures ∙ part-word row _ n piece (omega (arith, c.requires.0)) in
    let j = c.if-eight-last in
    let e : n + 8 ≡ 64 * q + 8 * (k + 1) = omega arith in
    subst (λ (m : ℕ). Held row m j.last j.word) e
    (elim j.branch [
      | then-eight-last w ↦
          let s = w.states_of-word-then-eight-last in
          held-add small c.loop-bytes.invariant x.result s.result j.last j.word (omega arith) is
          (part-holds row _ n piece s.ensures.by_index s.ensures.by_index_2) w.last-is w.word-is
      | else-eight-last w ↦ held-skip small c.loop-bytes.invariant x.result j.last j.word is w.if-eight-last.false w.last-is w.word-is
    ])

pub loop-quarter-preserved : goal.loop-quarter-preserved
loop-quarter-preserved c =
    let row = c.args.row.now in
    let q = c.loop-quarter.quarter-index in
    let g : q < 4 = omega (arith, c.as_chunks-2.ensures.front_len, c.requires.0, c.loop-quarter-test.true) in
    let long = quarter-long row c.requires.0 _ c.as_chunks-2.ensures.front q g in
    let e : 64 * q + 8 * c.loop-bytes.bytes-index ≡ 64 * (q + 1) =
    omega (arith, c.as_chunks-in-loop-quarter.ensures.front_len, long, c.loop-bytes-test.false) in
    subst (λ (m : ℕ). Held row m c.loop-bytes.last c.loop-bytes.word) e c.loop-bytes.invariant

pub returns-clause-b_value : goal.returns-clause-b_value
returns-clause-b_value c =
    let e : 64 * c.loop-quarter.quarter-index ≡ 256 = omega (arith, c.as_chunks-2.ensures.front_len, c.requires.0) in
    λ _ b h. c.loop-quarter.invariant.has b (omega (arith, e, h))

pub returns-clause-by_index : goal.returns-clause-by_index
returns-clause-by_index c = c.loop-quarter.invariant.only
