-- The loop keeps: no byte of the eights passed leads on, nor do those of the eight that were looked at last.
use denote.Param.{number}
use Rattle.automaton.specs.Table.{next}
use Rattle.automaton.specs.Words.{CanMatch}
use Rattle.automaton.proofs.Eights.{Blank}
use Rattle.automaton_live.specs.contracts.Prepared.nearest.{BACK-type}
use Rattle.automaton_live.proofs.Places.{Past, InEight}
use Rattle.automaton_live.proofs.Prepared.nearest.Given as goal

abbrev pub invariant-loop-k : goal.invariant-loop-k
invariant-loop-k g l = record {
  past : Past (InEight (λ b. CanMatch l.self.table.bytes.now (next l.self.table.bytes.now l.state b)))
      (BACK-type (number g.row.BACK)) 32 l.k;
  blank : Blank l.self.reach l.dead;
}
