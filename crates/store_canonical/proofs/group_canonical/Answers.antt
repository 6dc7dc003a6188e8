-- The record is the planned one, and with it the bits are the writer's exactly when the padding is 0.
use Rattle.std.proofs.Common.{◌∙◌, sym, arith}
use borrow.Author.Tests.{eqb-true, eqb-false}
use mathlib.Core.Bool.{true≢false}
use Rattle.slope.specs.Slope.{best_slope}
use Rattle.store_canonical.proofs.Bits.{bits-exact, padding-zero}
use Rattle.store_canonical.proofs.Equal.{equal-same, same-equal}
use Rattle.store_canonical.proofs.Group.{area-group, planned-is}
use Rattle.store_canonical.proofs.group_canonical.Goals as goal

pub invariant_of-blocks : goal.invariant_of-blocks
invariant_of-blocks c =
    let g = c.args.group.now in
    record {
      ok = rw c.from.ensures (area-group g.meta g.«data».now _ c.read_group.ensures g.readable.few (omega (
        arith,
        c.requires.1,
        c.read_group.auto,
      )) c.requires.0);
    }

pub returns-then-eq : goal.returns-then-eq
returns-then-eq c =
    let g = c.args.group.now in
    let planned = planned-is g.meta g.«data».now _ c.read_group.ensures best_slope c.args.offset c.plan_block.result
    (rw c.from.ensures at c.plan_block.ensures) in (
      λ e. record {
        meta = equal-same _ _ (sym c.eq.ensures ∙ c.if-eq.true) ∙ planned;
        bits = bits-exact g.meta g.«data».now c.padding.ensures.1 g.readable c.requires.0 (sym c.padding.ensures.0 ∙ eqb-true
            c.padding.result 0 e);
      },
      λ e canonical. eqb-false c.padding.result 0 e (c.padding.ensures.0 ∙ padding-zero g.meta g.«data».now c.padding.ensures.1 g.readable
          c.requires.0 canonical.bits),
    )

pub returns-else-eq : goal.returns-else-eq
returns-else-eq c =
    let g = c.args.group.now in
    let planned = planned-is g.meta g.«data».now _ c.read_group.ensures best_slope c.args.offset c.plan_block.result
    (rw c.from.ensures at c.plan_block.ensures) in (
      λ e. absurd (true≢false (sym e ∙ c.if-eq.false)),
      λ e canonical. same-equal _ _ (canonical.meta ∙ sym planned) (sym c.eq.ensures ∙ c.if-eq.false),
    )
