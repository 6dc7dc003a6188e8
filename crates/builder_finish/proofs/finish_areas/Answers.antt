-- `finish_areas` meets its contract: row 30, rows 1 and 8, or what `finish_with` does with room for the plans.
use Rattle.std.proofs.Common.{◌∙◌, arith}
use Rattle.std.proofs.lemmas.Result.{err_from_is_err_and}
use Rattle.layout.proofs.Numbers.{number_positive}
use Rattle.builder.specs.Index.{settings}
use Rattle.builder.proofs.Row8.{list-ok, store-area}
use Rattle.builder.proofs.FinishNumbers.{finish-refused, version-refused, version-taken}
use Rattle.builder_finish.proofs.finish_areas.Goals as goal

pub returns-in_err-check_version : goal.returns-in_err-check_version
returns-in_err-check_version c =
    let p = err_from_is_err_and c.from_residual.result c.from_residual.ensures.1 in
    rw (p.1, p.2) (version-refused c.args.version c.args.builder c.args.blocks.now c.args.keys.now _
    c.in_err-check_version.ensures (number_positive c.in_err-check_version.field-0.0) c.args.out.now)

pub returns-in_err-list : goal.returns-in_err-list
returns-in_err-list c =
    let p = err_from_is_err_and c.from_residual-in_err-list.result c.from_residual-in_err-list.ensures.1 in
    rw (p.1, p.2) (finish-refused (settings c.args.version) c.args.builder c.args.blocks.now c.args.keys.now c.args.out.now _
    c.in_err-list.ensures.rows_1_and_8 (number_positive c.in_err-list.field-0.0))
    ∙ version-taken c.args.version c.args.builder c.args.blocks.now c.args.keys.now c.in_ok-check_version.ensures c.args.out.now

pub returns-then-builder-le-FEW_BLOCKS : goal.returns-then-builder-le-FEW_BLOCKS
returns-then-builder-le-FEW_BLOCKS c =
    let e = c.in_ok-list.ensures.same in
    let finished = rw (e.0, e.1, e.2) at c.finish_with.ensures in
    let taken =
    version-taken c.args.version c.args.builder c.args.blocks.now c.args.keys.now c.in_ok-check_version.ensures c.args.out.now in
    finished ∙ rw (← c.group_len-group_len.ensures.0) at taken

pub finish_with-requires-else-builder-le-FEW_BLOCKS : goal.finish_with-requires-else-builder-le-FEW_BLOCKS
finish_with-requires-else-builder-le-FEW_BLOCKS c = (
  record { some = omega arith; few = omega arith },
  grind (arith, (store-area _ _ _ (list-ok _ _ _ c.in_ok-list.list.checked)).few),
  omega arith,
)

pub returns-else-builder-le-FEW_BLOCKS : goal.returns-else-builder-le-FEW_BLOCKS
returns-else-builder-le-FEW_BLOCKS c =
    let e = c.in_ok-list.ensures.same in
    let finished = rw (e.0, e.1, e.2) at c.finish_with-else-builder-le-FEW_BLOCKS.ensures in
    let taken =
    version-taken c.args.version c.args.builder c.args.blocks.now c.args.keys.now c.in_ok-check_version.ensures c.args.out.now in
    finished ∙ rw (← c.group_len-group_len.ensures.0) at taken
