-- `add_block` meets its contract: where no row is hit there is room.
use Rattle.std.proofs.Common.{refl, ℕ, List, length, ◌≤◌, ◌+◌, ◌*◌, sym, arith, ◌≡◌, ◌∙◌}
use Rattle.layout.specs.Layout.{max_blocks}
use Rattle.group.specs.declared.BlockAddr.{BlockAddr}
use Rattle.builder.specs.View.{stride}
use Rattle.builder.specs.Rows.{add_no}
use Rattle.builder.specs.declared.SSTableIndexBuilder.{SSTableIndexBuilder}
use Rattle.layout.proofs.Numbers.{number_positive}
use Rattle.builder.specs.Area.{area_view, view_of}
use Rattle.builder.proofs.Cased.{passed-on}
use Rattle.builder.proofs.Numbers.{add_ok, add-first, add-refused, add-taken}
use Rattle.builder_rows.proofs.Same.{same-shown}
use Rattle.builder_add.proofs.add.add_block.Goals as goal

-- what an add that is taken has
record Taken (s : SSTableIndexBuilder) (B K key : List ℕ) : Type 0 where
  few : s.n ≤ max_blocks
  five : stride * s.n + stride ≤ length B
  bytes : (view_of s B K).next_key + length key ≤ length K

taken : (s : SSTableIndexBuilder) (B K key : List ℕ) (b : BlockAddr) → add_no (view_of s B K) key b ≡ 0 → Taken s B K key
unfolding area_view
taken s B K key b e = let k = add_ok _ _ _ e in record { few = k.area.few; five = k.room.five; bytes = k.room.bytes }

pub returns-in_err-areas : goal.returns-in_err-areas
returns-in_err-areas c =
    let a = c.args in
    let e = c.in_err-areas.field-0.0 in
    passed-on a.builder c.from_residual.result e _ _ c.from_residual.ensures.1
    ∙ (add-refused a.builder a.blocks.now a.keys.now a.last_key.now a.block _
    (add-first _ _ _ _ c.in_err-areas.ensures.row_1 (number_positive e)) (number_positive e))

pub returns-in_err-check_add : goal.returns-in_err-check_add
returns-in_err-check_add c =
    let a = c.args in
    let e = c.in_err-check_add.field-0.0 in
    passed-on a.builder c.from_residual-in_err-check_add.result e _ _ c.from_residual-in_err-check_add.ensures.1
    ∙ (add-refused a.builder a.blocks.now a.keys.now a.last_key.now a.block _
    (rw (same-shown c.in_ok-areas.areas a.builder a.blocks.now a.keys.now c.in_ok-areas.ensures.same) at c.in_err-check_add.ensures)
    (number_positive e))

pub append-requires : goal.append-requires
append-requires c =
    let a = c.args in
    let same = same-shown c.in_ok-areas.areas a.builder a.blocks.now a.keys.now c.in_ok-areas.ensures.same in
    let k = taken a.builder a.blocks.now a.keys.now a.last_key.now a.block (sym (rw same at c.in_ok-check_add.ensures)) in
    let next = rw same at c.next_key-offset.ensures in
    (k.five, rw next k.bytes)

pub overflow_add-builder : goal.overflow_add-builder
overflow_add-builder c =
    let a = c.args in
    let same = same-shown c.in_ok-areas.areas a.builder a.blocks.now a.keys.now c.in_ok-areas.ensures.same in
    let k = taken a.builder a.blocks.now a.keys.now a.last_key.now a.block (sym (rw same at c.in_ok-check_add.ensures)) in
    omega (arith, k.few)

pub returns : goal.returns
returns c =
    let a = c.args in
    let same = same-shown c.in_ok-areas.areas a.builder a.blocks.now a.keys.now c.in_ok-areas.ensures.same in
    let next = rw same at c.next_key-offset.ensures in
    rw c.new.ensures (add-taken a.builder a.blocks.now a.keys.now a.last_key.now a.block _ _ _ (sym (rw same at c.in_ok-check_add.ensures))
    refl (rw (← next) c.append.ensures.blocks_after) (rw (← next) c.append.ensures.keys_after))
