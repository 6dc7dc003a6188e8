-- One byte more is compared.
use Rattle.std.proofs.Common.{arith}
use Rattle.keys.proofs.Words.{run-step-at}
use Rattle.keys.proofs.differs.Goals as goal

pub loop-i-preserved : goal.loop-i-preserved
loop-i-preserved c =
    rw c.loop-i.invariant (run-step-at c.args.left.now c.args.right.now c.args.at c.loop-i.i (omega arith) (omega arith))
