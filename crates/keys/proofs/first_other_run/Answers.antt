-- A run that doesn't differ is in common.
use Rattle.std.proofs.Common.{sym, ◌∙◌, arith}
use Rattle.keys.proofs.Words.{same-run}
use Rattle.keys.proofs.first_other_run.Goals as goal

pub loop-at-preserved : goal.loop-at-preserved
loop-at-preserved c h =
    let at = c.loop-at.at in
    omega (arith, same-run c.args.left.now c.args.right.now at 64 (c.loop-at.invariant h) (sym c.differs.ensures ∙ c.if-differs.false))

pub returns : goal.returns
returns c h =
    let passed = c.loop-at.invariant h in
    omega (arith, same-run c.args.left.now c.args.right.now c.args.last 64 (omega arith) (sym c.differs-2.ensures ∙ c.if-differs-2.false))
