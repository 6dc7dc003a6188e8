-- Each row is ruled out before anything is written; the empty string comes first, and else the first string between the bounds.
use Rattle.std.proofs.Common.{◌<◌, refl, sym, ◌∙◌, arith}
use Rattle.std.proofs.lemmas.Result.{err_from_is_err_and}
use Rattle.layout.proofs.Numbers.{number_positive}
use Rattle.pruning.specs.Interval.{start_now}
use Rattle.example.specs.Example.{ExampleNo}
use Rattle.example_distance.proofs.Shortest.{at_zero}
use Rattle.example_leaving.specs.Leaving.{no_place}
use Rattle.example.proofs.Examples.{EmptyLeft, none-marked, last-short, written-shown}
use Rattle.example.proofs.Answered.{answered-refused, answered-short, answered-shown, answered-none}
use Rattle.example.proofs.Answered.{empty-shown, start-none, left-some, left-far, inside}
use Rattle.example.proofs.example.Goals.{else-is_none-via-then-is_none+else-measured-eq0, else-is_none-via-else-is_none}
use Rattle.example.proofs.example.Goals as goal

pub returns-in_err-table : goal.returns-in_err-table
returns-in_err-table c =
    let p = err_from_is_err_and c.from_residual.result c.from_residual.ensures.1 in
    let refusal = c.in_err-table.field-0.0 in
    rw (p.1, p.2) (answered-refused refusal (ExampleNo.table _ (number_positive refusal) c.in_err-table.ensures.number))

pub returns-then-not-has_room : goal.returns-then-not-has_room
returns-then-not-has_room c =
    answered-short (sym c.in_ok-table.ensures.number) (omega (arith, c.if-not-has_room.ensures))

pub returns-then-measured-eq0 : goal.returns-then-measured-eq0
returns-then-measured-eq0 c =
    let a = c.args in
    let m = c.new-measured.result in
    let absent = start-none a.start_key c.if-is_none.ensures in
    let e = c.new-measured.ensures.same ∙ c.in_ok-table.ensures.bytes in
    let accepts = at_zero c.new-measured.ensures.measured 0 m.table.well_formed.some c.if-measured-eq0.true in
    rw absent (answered-shown (sym c.in_ok-table.ensures.number) (rw absent at c.if-not-has_room.ensures) a.out.now 0
    (empty-shown a.table.now a.end_key.now (rw e at accepts)))

pub returns-then-is_none-2 : goal.returns-then-is_none-2
returns-then-is_none-2 c =
    let start_key = c.args.start_key in
    let x = c.new-measured.ensures.measured in
    let wf = c.new-measured.result.table.well_formed in
    let left : EmptyLeft c.new-measured.result.table.bytes.now (start_now start_key) = elim c.else-is_none.branch [
      | else-is_none-via-then-is_none+else-measured-eq0 w ↦ left-far x wf start_key w.if-measured-eq0.false
      | else-is_none-via-else-is_none w ↦ left-some x wf start_key w.if-is_none.ensures
    ] in
    let z = inside x wf start_key c.unwrap_or.result _ c.unwrap_or.ensures refl left c.first_between-first.ensures in
    let e = c.new-measured.ensures.same ∙ c.in_ok-table.ensures.bytes in
    answered-none (sym c.in_ok-table.ensures.number) c.if-not-has_room.ensures (rw e at (none-marked z c.if-is_none-2.ensures))

pub write-requires : goal.write-requires
write-requires c =
    let start_key = c.args.start_key in
    let x = c.new-measured.ensures.measured in
    let wf = c.new-measured.result.table.well_formed in
    let left : EmptyLeft c.new-measured.result.table.bytes.now (start_now start_key) = elim c.else-is_none.branch [
      | else-is_none-via-then-is_none+else-measured-eq0 w ↦ left-far x wf start_key w.if-measured-eq0.false
      | else-is_none-via-else-is_none w ↦ left-some x wf start_key w.if-is_none.ensures
    ] in
    let z = inside x wf start_key c.unwrap_or.result _ c.unwrap_or.ensures refl left c.first_between-first.ensures in
    let there : c.first_between-first.result.last < no_place = omega (arith, c.if-is_none-2.ensures) in
    (x, z.between.leads there, omega (arith, last-short z there, c.if-not-has_room.ensures))

pub returns : goal.returns
returns c =
    let start_key = c.args.start_key in
    let x = c.new-measured.ensures.measured in
    let wf = c.new-measured.result.table.well_formed in
    let left : EmptyLeft c.new-measured.result.table.bytes.now (start_now start_key) = elim c.else-is_none.branch [
      | else-is_none-via-then-is_none+else-measured-eq0 w ↦ left-far x wf start_key w.if-measured-eq0.false
      | else-is_none-via-else-is_none w ↦ left-some x wf start_key w.if-is_none.ensures
    ] in
    let z = inside x wf start_key c.unwrap_or.result _ c.unwrap_or.ensures refl left c.first_between-first.ensures in
    let e = c.new-measured.ensures.same ∙ c.in_ok-table.ensures.bytes in
    let shown = written-shown z (omega (arith, c.if-is_none-2.ensures)) c.write.ensures in
    answered-shown (sym c.in_ok-table.ensures.number) c.if-not-has_room.ensures c.write.new.out c.write.result (rw e at shown)
