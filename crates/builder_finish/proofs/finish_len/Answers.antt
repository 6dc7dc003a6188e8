-- `finish_len` meets its contract: row 30, rows 1 and 8, or the length that is planned.
use Rattle.std.proofs.Common.{◌∙◌, arith}
use Rattle.std.proofs.lemmas.Result.{err_from_is_err_and}
use Rattle.layout.proofs.Numbers.{number_positive}
use Rattle.builder.specs.Index.{settings, settings_of}
use Rattle.builder.proofs.Row8.{list-ok, store-area}
use Rattle.builder.proofs.FinishNumbers.{len-refused, len-taken, len-version-refused, len-version-taken}
use Rattle.builder_finish.proofs.finish_len.Goals as goal

pub returns-in_err-check_version : goal.returns-in_err-check_version
returns-in_err-check_version c =
    let p = err_from_is_err_and c.from_residual.result c.from_residual.ensures.1 in
    rw (p.1, p.2) (len-version-refused c.args.version c.args.builder c.args.blocks.now c.args.keys.now _
    c.in_err-check_version.ensures (number_positive c.in_err-check_version.field-0.0))

pub returns-in_err-list : goal.returns-in_err-list
returns-in_err-list c =
    let p = err_from_is_err_and c.from_residual-in_err-list.result c.from_residual-in_err-list.ensures.1 in
    rw (p.1, p.2) (len-refused (settings c.args.version) c.args.builder c.args.blocks.now c.args.keys.now _
    c.in_err-list.ensures.rows_1_and_8 (number_positive c.in_err-list.field-0.0))
    ∙ len-version-taken c.args.version c.args.builder c.args.blocks.now c.args.keys.now c.in_ok-check_version.ensures

pub returns-then-builder-le-FEW_BLOCKS : goal.returns-then-builder-le-FEW_BLOCKS
returns-then-builder-le-FEW_BLOCKS c =
    let e = c.in_ok-list.ensures.same in
    let checked = rw (e.0, e.1, e.2) at c.in_ok-list.list.checked in
    let len = rw (e.0, e.1, e.2) at c.index_len.ensures in
    let taken = len-version-taken c.args.version c.args.builder c.args.blocks.now c.args.keys.now c.in_ok-check_version.ensures in
    len-taken (settings_of c.group_len-group_len.result) _ _ _ _ checked len ∙ rw (← c.group_len-group_len.ensures.0) at taken

pub index_len-requires-else-builder-le-FEW_BLOCKS : goal.index_len-requires-else-builder-le-FEW_BLOCKS
index_len-requires-else-builder-le-FEW_BLOCKS c = (
  record { some = omega arith; few = omega arith },
  grind (arith, (store-area _ _ _ (list-ok _ _ _ c.in_ok-list.list.checked)).few),
  omega arith,
)

pub returns-else-builder-le-FEW_BLOCKS : goal.returns-else-builder-le-FEW_BLOCKS
returns-else-builder-le-FEW_BLOCKS c =
    let e = c.in_ok-list.ensures.same in
    let checked = rw (e.0, e.1, e.2) at c.in_ok-list.list.checked in
    let len = rw (e.0, e.1, e.2) at c.index_len-else-builder-le-FEW_BLOCKS.ensures in
    let taken = len-version-taken c.args.version c.args.builder c.args.blocks.now c.args.keys.now c.in_ok-check_version.ensures in
    len-taken (settings_of c.group_len-group_len.result) _ _ _ _ checked len ∙ rw (← c.group_len-group_len.ensures.0) at taken
