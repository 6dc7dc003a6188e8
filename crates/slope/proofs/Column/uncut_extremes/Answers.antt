-- Each point that is passed fits 32 bits, and where it lies says what is kept.
use Rattle.std.proofs.Common.{◌≡◌, ◌+◌, ◌/◌, ◌%◌, ◌^◌, ◌<◌, arith, refl, sym}
use Rattle.slope.specs.declared.Point as code
use Rattle.slope.proofs.Step.{level, at_least, above, above-below, below, fits}
use Rattle.slope.proofs.Points.{kept-both, kept_low, kept_high, kept-stays, slope-fits}
use Rattle.slope.proofs.Column.uncut_extremes.Goals as goal
use Rattle.slope.proofs.Column.uncut_extremes.Goals.{
  then-v-lo,
  else-v-lo+then-v-lo-2+then-low-high,
  else-v-lo+then-v-lo-2+else-low-high,
  else-v-lo+else-v-lo-2+then-v-high+else-i-v,
  else-v-lo+else-v-lo-2+else-v-high,
}

pub loop-j-preserved : goal.loop-j-preserved
loop-j-preserved c =
    let low = c.loop-j.low in
    let high = c.loop-j.high in
    let kept = c.loop-j.invariant in
    let i = c.loop-j.j + 1 in
    let v = c.value-v.result in
    let few = slope-fits _ low kept.lows in
    let fewer = slope-fits _ high kept.highs in
    let at = c.loop-j-test.true in
    let value = c.value-v.ensures in
    let tied : code.Point = record { i = i; v = v; slope = low.slope } in
    elim c.if-v-lo.branch [
      | then-v-lo w ↦
          let less : w.new-low.result.slope < low.slope =
          rw w.new-low.ensures.2 (below low.slope i v (omega arith) few (omega (arith, w.if-v-lo.true))) in
          rw (w.low-is, w.high-is)
          (kept_low _ _ _ _ _ _ _ w.new-low.result _ _ at kept value w.new-low.ensures (omega (arith, less))
          (omega (arith, less, kept.ordered)))
      | else-v-lo+then-v-lo-2+then-low-high w ↦
          let e : low.slope ≡ high.slope = omega (arith, w.if-low-high.true) in
          let new =
          level low.slope i v (omega arith) few (omega (arith, w.if-v-lo.false)) (omega (arith, w.if-v-lo.false, w.if-v-lo-2.true)) in
          rw (w.low-is, w.high-is, ← e)
          (kept-both _ _ _ _ _ _ _ tied _ _ at kept value (refl, refl, sym new) (omega arith) (omega (arith, e)))
      | else-v-lo+then-v-lo-2+else-low-high w ↦
          let new =
          level low.slope i v (omega arith) few (omega (arith, w.if-v-lo.false)) (omega (arith, w.if-v-lo.false, w.if-v-lo-2.true)) in
          rw (w.low-is, w.high-is)
          (kept_low _ _ _ _ _ _ _ tied _ _ at kept value (refl, refl, sym new) (omega arith)
          (omega (arith, kept.ordered, w.if-low-high.false)))
      | else-v-lo+else-v-lo-2+then-v-high+else-i-v w ↦
          let fit = fits i v (omega arith) (omega (arith, w.if-i-v.false)) in
          rw (w.low-is, w.high-is) (kept_high _ _ _ _ _ _ _ w.near-high.result _ _ at kept value w.near-high.ensures
          (rw w.near-high.ensures.2 (above low.slope i v (omega arith) few fit (omega (arith, w.if-v-lo.false, w.if-v-lo-2.false))))
          (rw w.near-high.ensures.2 (at_least high.slope i v (omega arith) fit (omega (arith, w.if-v-high.true)))))
      | else-v-lo+else-v-lo-2+else-v-high w ↦
          rw (w.low-is, w.high-is)
          (kept-stays _ _ _ _ _ _ _ (record { i = i; v = v; slope = v / i % 2 ^ 32 }) _ _ at kept value (refl, refl, refl)
          (above-below low.slope i v (omega arith) few high.slope fewer (omega (arith, w.if-v-high.false))
          (omega (arith, w.if-v-lo.false, w.if-v-lo-2.false)))
          (below high.slope i v (omega arith) fewer (omega (arith, w.if-v-high.false))))
    ]
