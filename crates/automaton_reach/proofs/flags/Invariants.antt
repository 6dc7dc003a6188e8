-- The loop keeps: the bits below s are the flags.
use Rattle.automaton.specs.Table.{flag}
use Rattle.automaton.proofs.Built.{Filled}
use Rattle.automaton_reach.proofs.flags.Given as goal

abbrev pub invariant-loop-s : goal.invariant-loop-s
invariant-loop-s l = Filled (flag l.table.bytes.now) l.s l.word
