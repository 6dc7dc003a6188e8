-- Each turn writes a level and finds the next, which is at most the 64th.
use Rattle.std.proofs.Common.{◌≡◌, ℕ, ◌<◌, sym, subst, arith, length, take, length-take}
use Rattle.std.proofs.lemmas.List.{get_or-take}
use Rattle.automaton.specs.Bits.{bit}
use Rattle.automaton.specs.Table.{states}
use Rattle.automaton.proofs.Word.{bit_below}
use Rattle.example_distance.proofs.Levels.{Levels, levels-start, within, levels-turn, levels-done}
use Rattle.example_distance.proofs.Measured.new.Goals as goal

pub loop-level-init : goal.loop-level-init
loop-level-init c = levels-start c.flags-level.result c.flags-level.ensures.upper_bound c.flags-level.ensures.by_index

pub overflow_add-distance : goal.overflow_add-distance
overflow_add-distance c = omega (arith, within c.args.table.well_formed c.loop-level.invariant (omega arith))

pub loop-level-smaller : goal.loop-level-smaller
loop-level-smaller c = omega (arith, within c.args.table.well_formed c.loop-level.invariant (omega arith))

pub loop-level-preserved : goal.loop-level-preserved
loop-level-preserved c =
    let t = c.args.table.bytes.now in
    let steps = c.successors-steps.ensures in
    let lead = c.leading_to_level in
    let m = c.states-m.result in
    let given = c.successors-steps.result in
    let long : length (take m given) ≡ states t = simp length-take (omega (arith, c.states-m.ensures, c.args.table.well_formed.few)) in
    let at = λ (q : ℕ) (h : q < states t). get_or-take m given q 0 (omega (arith, c.states-m.ensures)) in
    let small = rw long at lead.ensures.upper_bound in
    let put = c.write_level.ensures in
    levels-turn c.args.table.well_formed c.loop-level.invariant (omega arith) lead.result small
    (λ q b hq hb e. lead.ensures.by_index q _ (omega (arith, long)) (rw (at q hq) (steps.by_index q b hq hb)) e)
    (λ q e.
    let (x, h, g) = lead.ensures.by_index_2 q e in
    let below = bit_below (states t) lead.result q small e in
    let (b, hb, n) = steps.by_index_2 q x below (rw (at q below) at h) in
    (b, hb, subst (λ (y : ℕ). bit c.loop-level.level y ≡ 1) (sym n) g))
    _ put.distances_len put.by_index put.by_index_2

pub returns-clause-measured : goal.returns-clause-measured
returns-clause-measured c =
    levels-done c.args.table.well_formed
    (subst (λ (x : ℕ). Levels c.args.table.bytes.now c.loop-level.distances c.loop-level.found x c.loop-level.distance)
    c.loop-level-test.false c.loop-level.invariant)
