-- `shorten_last_block_key_given_next_key` meets its contract: rows 1, 2 and 6 in their order, then the shortening.
use Rattle.std.proofs.Common.{refl, sym, arith, ◌∙◌}
use Rattle.layout.proofs.Numbers.{number_positive}
use Rattle.keys.proofs.Order.{common_prefix_len-left}
use Rattle.builder.specs.Area.{view_of}
use Rattle.builder.proofs.Cased.{passed-on}
use Rattle.builder.proofs.Views.{area-good}
use Rattle.builder.proofs.Numbers.{shorten-first, shorten-key, shorten-not-above, shorten-none, shorten-refused, shorten-taken}
use Rattle.builder_rows.proofs.Same.{same-shown}
use Rattle.builder_add.proofs.shorten.shorten_last_block_key_given_next_key.Goals as goal

pub returns-in_err-areas : goal.returns-in_err-areas
returns-in_err-areas c =
    let a = c.args in
    let e = c.in_err-areas.field-0.0 in
    passed-on a.builder c.from_residual.result e _ _ c.from_residual.ensures.1
    ∙ (shorten-refused a.builder a.blocks.now a.keys.now a.next_key.now _
    (shorten-first _ _ _ c.in_err-areas.ensures.row_1 (number_positive e)) (number_positive e))

pub returns-in_err-check_key : goal.returns-in_err-check_key
returns-in_err-check_key c =
    let a = c.args in
    let e = c.in_err-check_key.field-0.0 in
    let same = same-shown c.in_ok-areas.areas a.builder a.blocks.now a.keys.now c.in_ok-areas.ensures.same in
    let good = rw same at (area-good _ c.in_ok-areas.areas.in_order) in
    passed-on a.builder c.from_residual-in_err-check_key.result e _ _ c.from_residual-in_err-check_key.ensures.1
    ∙ (shorten-refused a.builder a.blocks.now a.keys.now a.next_key.now _
    (shorten-key _ _ good _ c.in_err-check_key.ensures (number_positive e)) (number_positive e))

pub returns-then-key_bad_behind : goal.returns-then-key_bad_behind
returns-then-key_bad_behind c =
    let a = c.args in
    let same = same-shown c.in_ok-areas.areas c.args.builder c.args.blocks.now c.args.keys.now c.in_ok-areas.ensures.same in
    let good = rw same at (area-good _ c.in_ok-areas.areas.in_order) in
    let bad = rw same at (sym c.key_bad_behind.ensures ∙ c.if-key_bad_behind.true) in
    shorten-refused a.builder a.blocks.now a.keys.now a.next_key.now 6
    (shorten-not-above _ _ good _ c.in_ok-check_key.ensures refl bad) (omega arith)

pub shorten_last-requires : goal.shorten_last-requires
shorten_last-requires c =
    let a = c.args in
    let same = same-shown c.in_ok-areas.areas c.args.builder c.args.blocks.now c.args.keys.now c.in_ok-areas.ensures.same in
    let common = rw same at c.common_len-common.ensures in (
      (rw same at c.in_ok-areas.areas.in_order),
      omega (arith, common, common_prefix_len-left (view_of a.builder a.blocks.now a.keys.now).last_key a.next_key.now),
    )

pub returns : goal.returns
returns c =
    let a = c.args in
    let same = same-shown c.in_ok-areas.areas c.args.builder c.args.blocks.now c.args.keys.now c.in_ok-areas.ensures.same in
    let good = rw same at (area-good _ c.in_ok-areas.areas.in_order) in
    let kept = rw same at (sym c.key_bad_behind.ensures ∙ c.if-key_bad_behind.false) in
    let left = c.shorten_last.ensures a.next_key.now (rw same at c.common_len-common.ensures) in
    let none = shorten-none _ _ good _ c.in_ok-check_key.ensures refl kept in
    shorten-taken a.builder a.blocks.now a.keys.now a.next_key.now _ _ none left.0 left.1
