-- The loop keeps: no byte passed leads to a nearer state.
use Rattle.std.proofs.Common.{ℕ, ◌≤◌, ◌<◌, get_or}
use Rattle.automaton.specs.Table.{next}
use Rattle.example_leaving.proofs.tail.nearer.Given as goal

abbrev pub invariant-loop-byte : goal.invariant-loop-byte
invariant-loop-byte l =
    let d = l.measured.distances in (k : ℕ) → k < l.byte → get_or d l.state 0 ≤ get_or d (next l.measured.table.bytes.now l.state k) 0
