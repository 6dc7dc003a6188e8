-- A count of bits is at most 64, so one more fits.
use Rattle.std.proofs.Common.{arith}
use Rattle.bitpacker.proofs.NumBits.{num_bits_of-max}
use Rattle.slope.specs.Slope.{width_of}
use Rattle.slope.proofs.Column.width_of.Goals as goal

pub overflow_add-result : goal.overflow_add-result
overflow_add-result c = omega (arith, num_bits_of-max c.max_derivation.result)

pub returns : goal.returns
unfolding width_of
returns c = rw (c.compute_num_bits.ensures, c.max_derivation.ensures)
