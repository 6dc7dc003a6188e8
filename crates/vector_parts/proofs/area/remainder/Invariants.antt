-- A remainder is below the modulus.
use Rattle.std.proofs.Common.{◌<◌}
use Rattle.vector_parts.proofs.area.remainder.Given as goal

abbrev pub invariant-loop-item : goal.invariant-loop-item
invariant-loop-item g l = l.rest < l.modulus
