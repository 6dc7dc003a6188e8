-- The first byte that leads to a nearer state is the lowest. Some byte does, so that the last is left where no other does.
use Rattle.std.proofs.Common.{◌≡◌, ℕ, ◌+◌, ◌≤◌, ◌<◌, subst, ⊎_elim, arith, get_or, below_more}
use Rattle.std.proofs.lemmas.Bool.{cases_eq}
use Rattle.automaton.specs.Table.{next}
use Rattle.example_distance.proofs.Shortest.{some-nearer, one-nearer}
use Rattle.example_leaving.proofs.tail.nearer.Goals as goal

pub returns-then-distances-to : goal.returns-then-distances-to
returns-then-distances-to c =
    let m = c.args.measured.now in
    record {
      one = one-nearer c.requires.0 c.args.state c.loop-byte.byte m.table.well_formed c.requires.1 (omega arith) c.requires.3
          (subst (λ (q : ℕ). get_or m.distances q 0 < get_or m.distances c.args.state 0) c.accept-to.ensures.0 c.if-distances-to.true);
      lowest = c.loop-byte.invariant;
    }

pub loop-byte-preserved : goal.loop-byte-preserved
loop-byte-preserved c =
    let l = c.loop-byte in
    let m = c.args.measured.now in
    let d = m.distances in
    below_more (λ (k : ℕ). get_or d c.args.state 0 ≤ get_or d (next m.table.bytes.now c.args.state k) 0) l.byte l.invariant
    (subst (λ (q : ℕ). get_or d c.args.state 0 ≤ get_or d q 0) c.accept-to.ensures.0 (omega (arith, c.if-distances-to.false)))

pub returns : goal.returns
returns c =
    let l = c.loop-byte in
    let state = c.args.state in
    let m = c.args.measured.now in
    let d = m.distances in
    let wf = m.table.well_formed in
    let (b, hb, less) = some-nearer c.requires.0 state wf c.requires.1 c.requires.2 c.requires.3 in
    record {
      one = ⊎_elim
          (λ e. subst (λ (k : ℕ). get_or d (next m.table.bytes.now state k) 0 + 1 ≡ get_or d state 0) e
          (one-nearer c.requires.0 state b wf c.requires.1 hb c.requires.3 less))
          (λ e. absurd (omega (arith, l.invariant b (omega arith), less)))
          (cases_eq b 255);
      lowest = λ k h. l.invariant k (omega arith);
    }
