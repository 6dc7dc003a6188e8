-- `Areas::room_bad` meets its contract.
use Rattle.std.proofs.Common.{◌*◌, ◌+◌, length, ◌∙◌, sym, arith}
use mathlib.Core.Bool.{true≢false}
use borrow.Author.Tests.{eq-eqb, ne_eqb, ltb-false}
use Rattle.builder.specs.Rows.{room_bad}
use Rattle.builder.specs.Area.{area_view}
use Rattle.builder.proofs.Views.{next-within, room-keys}
use Rattle.builder_rows.proofs.Areas.room_bad.Goals as goal
use Rattle.builder_rows.proofs.Areas.room_bad.Goals.{then-n-eq-MAX_BLOCKS, else-n-eq-MAX_BLOCKS}

pub returns-then-self-n : goal.returns-then-self-n
unfolding room_bad area_view
returns-then-self-n c =
    let n = c.args.self.now.builder.n in
    c.if-self-n.true
    ∙ elim c.if-n-eq-MAX_BLOCKS.branch [
      | then-n-eq-MAX_BLOCKS w ↦ simp (eq-eqb n 65536 w.if-n-eq-MAX_BLOCKS.true)
      | else-n-eq-MAX_BLOCKS w ↦ simp (ne_eqb n 65536 w.if-n-eq-MAX_BLOCKS.false, sym w.value-is ∙ c.if-self-n.true)
    ]

pub returns-else-self-n : goal.returns-else-self-n
unfolding area_view
returns-else-self-n c =
    let a = c.args.self.now in
    elim c.if-n-eq-MAX_BLOCKS.branch [
      | then-n-eq-MAX_BLOCKS w ↦
          absurd (true≢false (sym (eq-eqb a.builder.n 65536 w.if-n-eq-MAX_BLOCKS.true) ∙ sym w.value-is ∙ c.if-self-n.false))
      | else-n-eq-MAX_BLOCKS w ↦
          room-keys (area_view a.builder.n a.blocks.now a.keys.now) c.args.key.now c.next_key.result w.if-n-eq-MAX_BLOCKS.false
          (ltb-false (length a.blocks.now) (5 * a.builder.n + 5) (sym w.value-is ∙ c.if-self-n.false)) c.next_key.ensures
          (omega (arith, c.next_key.ensures, next-within a.builder.n a.blocks.now a.keys.now a.in_order))
    ]
