-- The loop keeps: the bytes passed, and the lowest of those that lead to the least distance.
use Rattle.example_leaving.proofs.BytesPassed.{BytesPassed}
use Rattle.example_leaving.proofs.nearest_byte.Given as goal

abbrev pub invariant-loop-byte : goal.invariant-loop-byte
invariant-loop-byte l = BytesPassed l.measured.table.bytes.now l.measured.distances l.state l.lo l.hi l.byte l.nearest l.least
