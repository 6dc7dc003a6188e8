-- A start that falls, an ordinal that doesn't rise and a last block out of range are refused; else every block is legal.
use Rattle.std.proofs.Common.{◌≡◌, ◌+◌, ◌-◌, arith, sym, ◌∙◌}
use Rattle.serialize.specs.Digits.{le_val}
use Rattle.store_check.proofs.Rising.{start_falls, ordinal-stays, rising-more, last-broken, last-kept}
use Rattle.store_check.proofs.last_block_by.Goals as goal

pub loop-i-preserved : goal.loop-i-preserved
loop-i-preserved b c =
    let g = c.args.group.now in
    let inv = c.loop-i.invariant in
    let read = c.requires.reads _ _ c.block_start-next.ensures in
    let same : c.loop-i.i + 1 - 1 ≡ c.loop-i.i = omega arith in (
      rw same read.0,
      rw same read.1,
      rising-more g.meta (le_val g.«data».now) c.loop-i.i (omega arith) inv.2
          (rw (← inv.0, ← read.0) c.if-next-start.false)
          (rw (← inv.1, ← read.1) c.if-next-first_ordinal.false),
    )

pub returns-then-next-start : goal.returns-then-next-start
returns-then-next-start b c =
    let g = c.args.group.now in
    let inv = c.loop-i.invariant in
    start_falls g.meta (le_val g.«data».now) g.meta.block_len c.loop-i.i _ _ (omega arith) inv.0 inv.1 _ (omega arith)
    (c.requires.reads _ _ c.block_start-next.ensures).0 c.if-next-start.true

pub returns-then-next-first_ordinal : goal.returns-then-next-first_ordinal
returns-then-next-first_ordinal b c =
    let g = c.args.group.now in
    let inv = c.loop-i.invariant in
    ordinal-stays g.meta (le_val g.«data».now) g.meta.block_len c.loop-i.i _ _ (omega arith) inv.0 inv.1 _ (omega arith)
    (c.requires.reads _ _ c.block_start-next.ensures).1
    c.if-next-first_ordinal.true

pub returns-then-numbers_bad : goal.returns-then-numbers_bad
returns-then-numbers_bad b c =
    let g = c.args.group.now in
    let inv = c.loop-i.invariant in
    last-broken g.meta (le_val g.«data».now) g.meta.block_len c.loop-i.i _ _ (omega arith) inv.0 inv.1 _ (omega arith)
    (rw c.from-last.ensures at c.range_start-end.ensures) (sym c.numbers_bad.ensures ∙ c.if-numbers_bad.true)

pub returns : goal.returns
returns b c =
    let g = c.args.group.now in
    let inv = c.loop-i.invariant in
    last-kept g.meta (le_val g.«data».now) g.meta.block_len c.loop-i.i _ _ (omega arith) inv.0 inv.1 _ (omega arith)
    (rw c.from-last.ensures at c.range_start-end.ensures) inv.2 (sym c.numbers_bad.ensures ∙ c.if-numbers_bad.false)
