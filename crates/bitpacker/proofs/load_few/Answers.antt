-- `bitpacker::load_few` meets its contract: no bytes spell 0.
use mathlib.Core.Path.{ap}
use native.Mathlib.Omega.{arith}
use lib.Seq.{take_all}
use Rattle.serialize.specs.Digits.{of_digits, le_val}
use Rattle.bitpacker.proofs.load_few.Goals as goal

pub returns-clause-value : goal.returns-clause-value
unfolding of_digits
returns-clause-value c = ap le_val (take_all 0 c.args.rest.now (omega arith))
