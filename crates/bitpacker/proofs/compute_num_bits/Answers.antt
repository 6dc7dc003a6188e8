-- `bitpacker::compute_num_bits` meets its contract: the code's test is the definition's.
use borrow.Author.Tests.{le-leb, lt-leb}
use mathlib.Core.Path.{refl}
use Prim.Native.Nat.{◌-◌}
use native.Mathlib.Omega.{arith}
use lib.Count.{count_leading_zeros, leading_le}
use Rattle.bitpacker.specs.Bits.{num_bits_of}
use Rattle.bitpacker.proofs.compute_num_bits.Goals as goal

pub overflow_sub-amplitude : goal.overflow_sub-amplitude
overflow_sub-amplitude c = leading_le 64 c.args.value

pub returns-then-amplitude-le56 : goal.returns-then-amplitude-le56
unfolding num_bits_of
returns-then-amplitude-le56 c = rw (le-leb (64 - count_leading_zeros 64 c.args.value) 56 (omega arith)) refl

pub returns-else-amplitude-le56 : goal.returns-else-amplitude-le56
unfolding num_bits_of
returns-else-amplitude-le56 c = rw (lt-leb (64 - count_leading_zeros 64 c.args.value) 56 (omega arith)) refl
