-- The shift is at most 2^55, so that no step wraps.
use Rattle.std.proofs.Common.{arith, ◌-◌}
use Rattle.std.proofs.lemmas.Nat.{one_shl}
use Rattle.slope.specs.Slope.{stored_of}
use Rattle.group_write.proofs.stored.Goals as goal

pub returns : goal.returns
unfolding stored_of
returns c = rw (one_shl (c.args.line.nbits - 1) 64 (omega arith), c.from.ensures)
