-- The field has at most 56 bits, as its width says.
use Rattle.std.proofs.Common.{arith}
use Rattle.group.proofs.Reading.{field_lt}
use Rattle.group_read.proofs.Group.value_at.Goals as goal

pub value-requires : goal.value-requires
value-requires c = (rw c.extract_bits.ensures (field_lt _ _ _ (omega arith)), omega arith)
