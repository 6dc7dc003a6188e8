-- The count of trailing zeros is the place of the lowest set bit, which `word & (word - 1)` takes away.
use Rattle.std.proofs.Common.{arith}
use Rattle.automaton.proofs.SetBits.{took-lowest}
use Rattle.automaton.proofs.bits.SetBitsIterator.next.Goals as goal

pub returns-clause-steps : goal.returns-clause-steps
returns-clause-steps c = took-lowest c.args.self.now.left (omega arith) (omega arith)
