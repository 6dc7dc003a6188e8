-- The loop keeps: the bits of the next states passed are clear.
use Rattle.std.proofs.Common.{◌≡◌, ◌+◌, get_or}
use denote.Param.{number}
use Rattle.automaton.specs.Bits.{bit}
use Rattle.automaton_live.specs.contracts.nearest_of_eight.{BACK-type}
use Rattle.automaton_live.proofs.Places.{Past}
use Rattle.automaton_live.proofs.nearest_of_eight.Given as goal

abbrev pub invariant-loop-k : goal.invariant-loop-k
invariant-loop-k g l = Past (λ j. bit l.reach (get_or l.bytes (l.at + j) 0) ≡ 1) (BACK-type (number g.row.BACK)) 8 l.k
