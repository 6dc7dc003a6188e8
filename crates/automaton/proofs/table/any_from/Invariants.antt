-- The loop keeps: the answer for the whole is what was found, or the answer for what is left.
use Rattle.std.proofs.Common.{◌≡◌, ◌||◌, drop}
use Rattle.automaton.specs.Table.{any_from}
use Rattle.automaton.proofs.table.any_from.Given as goal

abbrev pub invariant-loop-byte : goal.invariant-loop-byte
invariant-loop-byte l = any_from l.bound l.bytes ≡ (l.found || any_from l.bound (drop l.byte-index l.bytes))
