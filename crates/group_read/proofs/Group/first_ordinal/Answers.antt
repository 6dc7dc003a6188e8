-- The field lies within the group's bits, and its value is the one read.
use Rattle.std.proofs.Common.{arith}
use Rattle.serialize.specs.Digits.{le_val}
use Rattle.group.specs.Read.{ordinal_read}
use Rattle.group.proofs.Reading.{ordinal_read-suc}
use Rattle.group_read.proofs.Group.first_ordinal.Goals as goal

pub returns-then-i-eq0 : goal.returns-then-i-eq0
unfolding ordinal_read
returns-then-i-eq0 c = rw c.if-i-eq0.true

pub returns : goal.returns
returns c =
    let g = c.args.self.now in
    let read = ordinal_read-suc g.meta (le_val g.«data».now) c.args.i (omega arith) in
    cc
