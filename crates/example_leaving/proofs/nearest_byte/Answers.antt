-- A byte that leads nearer than those passed is kept; none leads nearer than one to a state at the bound.
use Rattle.std.proofs.Common.{ℕ, ap, ◌∙◌, get_or}
use Rattle.example_leaving.proofs.BytesPassed.{passed-none, passed-nearer, passed-other, passed-all, passed-enough}
use Rattle.example_leaving.proofs.nearest_byte.Goals.{then-distance-least+else-distance-bound, else-distance-least}
use Rattle.example_leaving.proofs.nearest_byte.Goals as goal

pub loop-byte-init : goal.loop-byte-init
loop-byte-init c = passed-none

pub loop-byte-preserved : goal.loop-byte-preserved
loop-byte-preserved c =
    let l = c.loop-byte in
    let e = ap (λ (q : ℕ). get_or c.args.measured.now.distances q 0) c.accept.ensures.0 in
    elim c.if-distance-least.branch [
      | then-distance-least+else-distance-bound w ↦ rw (w.nearest-is, w.least-is)
          (passed-nearer l.invariant e l.auto.byte c.loop-byte-test.true w.if-distance-least.true)
      | else-distance-least w ↦ rw (w.nearest-is, w.least-is) (passed-other l.invariant e w.if-distance-least.false)
    ]

pub returns-after-loop-byte : goal.returns-after-loop-byte
returns-after-loop-byte c = passed-all c.loop-byte.nearest c.loop-byte.invariant c.loop-byte-test.false

pub returns-then-distance-bound : goal.returns-then-distance-bound
returns-then-distance-bound c =
    let l = c.loop-byte in
    let m = c.args.measured.now in
    let e = ap (λ (q : ℕ). get_or m.distances q 0) c.accept.ensures.0 in
    passed-enough l.invariant e l.auto.byte c.loop-byte-test.true c.if-distance-least.true c.requires.0 m.table.well_formed c.requires.1
    c.requires.2 (c.if-distance-bound.true ∙ c.saturating_sub-bound.ensures)
