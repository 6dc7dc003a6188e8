-- A byte that differs ends what is in common; where none does, the shorter key's length does.
use Rattle.std.proofs.Common.{arith}
use Rattle.keys.proofs.Order.{common_prefix_len-left, common_prefix_len-right}
use Rattle.keys.proofs.Words.{same_byte, other_byte}
use Rattle.keys.proofs.common_bytes.Goals as goal

pub returns-then-left-i : goal.returns-then-left-i
returns-then-left-i c =
    other_byte c.args.left.now c.args.right.now c.loop-i.i (omega arith) (omega arith) c.loop-i.invariant c.if-left-i.true

pub loop-i-preserved : goal.loop-i-preserved
loop-i-preserved c =
    omega (arith, same_byte c.args.left.now c.args.right.now c.loop-i.i (omega arith) (omega arith) c.loop-i.invariant c.if-left-i.false)

pub returns : goal.returns
returns c = omega (arith, common_prefix_len-left c.args.left.now c.args.right.now, common_prefix_len-right c.args.left.now c.args.right.now)
