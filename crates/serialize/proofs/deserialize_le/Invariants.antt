-- After i turns the value is that of the i bytes passed.
use Rattle.std.proofs.Common.{◌≡◌, ◌<◌, ◌*◌, ◌^◌, take, drop}
use Rattle.serialize.specs.Digits.{le_val}
use Rattle.serialize.proofs.deserialize_le.Given as goal

abbrev pub invariant-loop-i : goal.invariant-loop-i
invariant-loop-i l = record { value : l.value ≡ le_val (take l.i (drop l.at l.bytes)); bound : l.value < 2 ^ (8 * l.i) }
