-- The loop keeps: the state is where the bytes passed lead.
use Rattle.std.proofs.Common.{◌≡◌, ◌<◌, take}
use Rattle.automaton.specs.Table.{states}
use Rattle.automaton.specs.Words.{run}
use Rattle.pruning.proofs.block_match_automaton.accept_prefix.Given as goal

abbrev pub invariant-loop-byte : goal.invariant-loop-byte
invariant-loop-byte l = (l.state ≡ run l.table.bytes.now 0 (take l.byte-index l.prefix)) × (l.state < states l.table.bytes.now)
