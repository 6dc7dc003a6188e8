-- The walk begins where the keys differ, widens the interval by a place on both sides at each turn, and ends where all that is left
-- is longer.
use Rattle.std.proofs.Common.{◌≡◌, ℕ, List, [], ◌∷◌, ◌++◌, ◌+◌, ◌<◌, sym, subst, arith, length, take}
use lib.ListN.{length-take}
use Rattle.keys.proofs.Order.{common_prefix_len-right, common_prefix_len-take}
use Rattle.automaton.specs.Words.{run}
use Rattle.automaton.proofs.Strings.{bytes_of}
use Rattle.example_leaving.specs.Leaving.{FirstBetween}
use Rattle.example_walk.specs.Walk.{low_edge}
use Rattle.example_walk.proofs.Begin.{end-in-front, end-below, begun}
use Rattle.example_walk.proofs.Edges.{all-looked}
use Rattle.example_walk.proofs.first_between.Goals as goal

pub returns-then-n-end_key : goal.returns-then-n-end_key
returns-then-n-end_key c =
    end-in-front c.args.start_key.now c.args.end_key.now c.common_prefix_len-n.ensures c.none.ensures c.if-n-end_key.true

pub slice_bounds-accept_prefix-end : goal.slice_bounds-accept_prefix-end
slice_bounds-accept_prefix-end c = simp length-take (omega (arith, common_prefix_len-right c.args.start_key.now c.args.end_key.now))

pub beside_start-lo-requires : goal.beside_start-lo-requires
beside_start-lo-requires c =
    let t = c.args.measured.now.table.bytes.now in
    let start = c.args.start_key.now in
    let end = c.args.end_key.now in
    let n = c.common_prefix_len-n.result in
    let front : take n start ≡ take n end = rw c.common_prefix_len-n.ensures (common_prefix_len-take start end) in (
      c.accept_prefix-base.ensures.1,
      subst (λ (p : List ℕ). c.accept_prefix-base.result ≡ run t 0 p) (sym front) c.accept_prefix-base.ensures.0,
    )

pub bounds-end_key-n : goal.bounds-end_key-n
bounds-end_key-n c = omega (arith, common_prefix_len-right c.args.start_key.now c.args.end_key.now)

pub returns-then-hi-lo : goal.returns-then-hi-lo
returns-then-hi-lo c =
    let b = c.beside_start-lo.ensures in
    end-below c.args.start_key.now c.args.end_key.now c.common_prefix_len-n.ensures b.inside b.behind
    (omega (arith, common_prefix_len-right c.args.start_key.now c.args.end_key.now)) c.none-then-hi-lo.ensures
    (omega (arith, c.if-hi-lo.true, c.from-hi.ensures))

pub first_at-requires-clause-place_in_bounds : goal.first_at-requires-clause-place_in_bounds
first_at-requires-clause-place_in_bounds c = (
  omega (arith, common_prefix_len-right c.args.start_key.now c.args.end_key.now),
  omega (arith, c.requires.1),
  omega (arith, c.from-hi.ensures, c.type_inv.end_key c.common_prefix_len-n.result),
)

pub look_at_front-high-requires-clause-place_in_bounds :
    goal.look_at_front-high-requires-clause-place_in_bounds
look_at_front-high-requires-clause-place_in_bounds c =
    (omega (arith, common_prefix_len-right c.args.start_key.now c.args.end_key.now), omega (arith, c.requires.1))

pub overflow_step-place : goal.overflow_step-place
overflow_step-place c = omega (arith, common_prefix_len-right c.args.start_key.now c.args.end_key.now, c.requires.1)

pub loop-place-init : goal.loop-place-init
loop-place-init c =
    let m = c.args.measured.now in
    let t = m.table.bytes.now in
    let start = c.args.start_key.now in
    let end = c.args.end_key.now in
    let n = c.common_prefix_len-n.result in
    let b = c.beside_start-lo.ensures in
    let front = c.look_at_front-high.ensures in
    let hb : n < length end = omega (arith, common_prefix_len-right start end) in
    let first = subst (λ (h : ℕ). FirstBetween t m.distances (take n end ++ (c.beside_start-lo.result.0 ∷ [])) (take n end ++ (h ∷ []))
    c.first_at.result) c.from-hi.ensures c.first_at.ensures in
    record {
      looked = front.looked (low_edge start (n + 1)) (begun start end c.common_prefix_len-n.ensures b.inside b.behind hb c.requires.0
          m.table.well_formed (omega (arith, c.if-hi-lo.false, c.from-hi.ensures)) (rw c.new-walk.ensures.best first));
      covers = front.covers (n + 1) (c.new-walk.ensures.covers t m.distances (n + 1) m.table.well_formed.few);
      low-reached = b.reached;
      high-reached = front.reached;
    }

pub returns-then-walk-place : goal.returns-then-walk-place
returns-then-walk-place c =
    let m = c.args.measured.now in
    all-looked c.requires.0 m.table.well_formed c.args.start_key.now c.args.end_key.now c.loop-place.place
    (bytes_of c.args.start_key.now (λ i. omega (arith, c.type_inv.start_key i))) c.requires.1 (λ h. c.if-walk-place.true)
    c.loop-place.invariant.looked.first

pub along_start-low-requires-clause-measured : goal.along_start-low-requires-clause-measured
along_start-low-requires-clause-measured c = (c.requires.0, c.loop-place.invariant.low-reached)

pub along_start-low-requires-clause-covers : goal.along_start-low-requires-clause-covers
along_start-low-requires-clause-covers c = c.loop-place.invariant.covers

pub along_end-high-requires-clause-measured : goal.along_end-high-requires-clause-measured
along_end-high-requires-clause-measured c = (c.requires.0, c.loop-place.invariant.high-reached)

pub loop-place-preserved : goal.loop-place-preserved
loop-place-preserved c =
    let i = c.loop-place.invariant in
    let low = c.along_start-low.ensures in
    let high = c.along_end-high.ensures in
    record {
      looked = high.looked _ (low.looked _ i.looked);
      covers = high.covers;
      low-reached = low.reached;
      high-reached = high.reached;
    }

pub returns : goal.returns
returns c =
    let m = c.args.measured.now in
    all-looked c.requires.0 m.table.well_formed c.args.start_key.now c.args.end_key.now c.loop-place.place
    (bytes_of c.args.start_key.now (λ i. omega (arith, c.type_inv.start_key i))) c.requires.1
    (λ h. let z : ⊥ = omega (arith, h, c.loop-place-test.false, c.max-place-end.ensures) in absurd z)
    c.loop-place.invariant.looked.first
