-- The loop keeps the worklist's law and what the first look found; the words' difference falls with each turn.
use Rattle.std.proofs.Common.{◌≡◌, ℕ, ◌+◌, ◌-◌, ◌^◌}
use Rattle.automaton.specs.Bits.{bit}
use Rattle.automaton.proofs.Worklist.{Work}
use Rattle.automaton_reach.proofs.reach.Given as goal

abbrev pub invariant-loop-s : goal.invariant-loop-s
invariant-loop-s l = record {
  work : Work l.table.bytes.now l.found l.waiting.left;
  kept : (q : ℕ) → bit l.initial.found q ≡ 1 → bit l.found q ≡ 1;
}

abbrev pub decreases-loop-s : goal.decreases-loop-s
decreases-loop-s l = 2 ^ 64 + l.waiting.left - l.found
