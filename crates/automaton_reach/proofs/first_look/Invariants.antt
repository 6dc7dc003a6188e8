-- The loop keeps: what is found can match, and of the other states passed the words are right.
use Rattle.std.proofs.Common.{◌≡◌, length}
use Rattle.automaton.proofs.Predecessors.{Sound, Led}
use Rattle.automaton_reach.proofs.first_look.Given as goal

abbrev pub invariant-loop-p : goal.invariant-loop-p
invariant-loop-p l = record {
  sound : Sound l.table.bytes.now l.accepting l.found;
  led : Led l.table.bytes.now l.unfound l.p-iterator.left l.found l.before;
  long : length l.before ≡ 64;
}
