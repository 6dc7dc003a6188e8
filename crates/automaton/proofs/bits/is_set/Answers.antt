-- The shifted word's lowest bit is the bit asked for.
use Rattle.automaton.specs.Bits.{bit}
use Rattle.automaton.proofs.Exact.{exactly-eqb}
use Rattle.automaton.proofs.Word.{bit_test}
use Rattle.automaton.proofs.bits.is_set.Goals as goal

pub returns : goal.returns
returns c = rw bit_test (exactly-eqb (bit c.args.word c.args.s) 1)
