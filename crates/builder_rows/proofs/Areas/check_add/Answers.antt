-- `Areas::check_add` meets its contract: row 1 isn't hit, and each way out is the first row that is.
use Rattle.std.proofs.Common.{refl, sym, ◌∙◌}
use Rattle.layout.proofs.Numbers.{number_positive}
use Rattle.builder.proofs.Cased.{passed-number}
use Rattle.builder.proofs.Views.{area-good}
use Rattle.builder.proofs.Numbers.{add-block, add-room, add_none}
use Rattle.builder_rows.specs.Shown.{shown}
use Rattle.builder_rows.proofs.Areas.check_add.Goals as goal

pub returns-in_err-check_block : goal.returns-in_err-check_block
returns-in_err-check_block c =
    let e = c.in_err-check_block.field-0.0 in
    passed-number c.from_residual.result e c.from_residual.ensures.1
    ∙ add-block (shown c.args.self.now) c.args.key.now c.args.block (area-good _ c.args.self.now.in_order) _
    c.in_err-check_block.ensures (number_positive e)

pub returns-then-room_bad : goal.returns-then-room_bad
returns-then-room_bad c =
    add-room _ _ _ (area-good _ c.args.self.now.in_order) _ c.in_ok-check_block.ensures refl (sym c.room_bad.ensures ∙ c.if-room_bad.true)

pub returns : goal.returns
returns c =
    add_none _ _ _ (area-good _ c.args.self.now.in_order) _ c.in_ok-check_block.ensures refl (sym c.room_bad.ensures ∙ c.if-room_bad.false)
