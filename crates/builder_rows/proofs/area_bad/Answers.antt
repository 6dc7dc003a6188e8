-- `area_bad` meets its contract: the last record is looked at only where it stands in the area.
use Rattle.std.proofs.Common.{◌*◌, length, ◌∙◌, sym, arith}
use mathlib.Core.Bool.{true≢false}
use borrow.Author.Tests.{lt-ltb, le-ltb, ltb-true, ltb-false}
use Rattle.builder.proofs.Views.{area-many, area-short, area-none, area-last}
use Rattle.builder_rows.proofs.area_bad.Goals as goal
use Rattle.builder_rows.proofs.area_bad.Goals.{then-n-gt-MAX_BLOCKS, else-n-gt-MAX_BLOCKS}

pub returns-then-n-blocks : goal.returns-then-n-blocks
returns-then-n-blocks c =
    let n = c.args.builder.n in
    let B = c.args.blocks.now in
    let K = c.args.keys.now in
    c.if-n-blocks.true
    ∙ elim c.if-n-gt-MAX_BLOCKS.branch [
      | then-n-gt-MAX_BLOCKS w ↦ area-many n B K w.if-n-gt-MAX_BLOCKS.true
      | else-n-gt-MAX_BLOCKS w ↦
          area-short n B K w.if-n-gt-MAX_BLOCKS.false (ltb-true (length B) (5 * n) (sym w.value-is ∙ c.if-n-blocks.true))
    ]

pub returns-then-n-gt0 : goal.returns-then-n-gt0
returns-then-n-gt0 c =
    let n = c.args.builder.n in
    let B = c.args.blocks.now in
    let K = c.args.keys.now in
    c.record_bad.ensures
    ∙ elim c.if-n-gt-MAX_BLOCKS.branch [
      | then-n-gt-MAX_BLOCKS w ↦
          absurd (true≢false (sym (lt-ltb 65536 n w.if-n-gt-MAX_BLOCKS.true) ∙ sym w.value-is ∙ c.if-n-blocks.false))
      | else-n-gt-MAX_BLOCKS w ↦
          area-last n B K w.if-n-gt-MAX_BLOCKS.false (ltb-false (length B) (5 * n) (sym w.value-is ∙ c.if-n-blocks.false))
          (λ z. omega (arith, c.if-n-gt0.true))
    ]

pub returns-else-n-gt0 : goal.returns-else-n-gt0
returns-else-n-gt0 c =
    let n = c.args.builder.n in
    let B = c.args.blocks.now in
    let K = c.args.keys.now in
    le-ltb 0 n (omega (arith, c.if-n-gt0.false)) ∙ area-none n B K (omega (arith, c.if-n-gt0.false))
