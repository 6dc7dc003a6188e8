-- The loop keeps: what is looked for is a string above what is left of the key, from the state that the bytes passed lead to; of what
-- is prepared the lowest bytes stay.
use Rattle.std.proofs.Common.{◌≡◌, ◌<◌, ◌↔◌, drop}
use Rattle.automaton.specs.Table.{states}
use Rattle.automaton_live.specs.Prepared.{EndsReady}
use Rattle.pruning.specs.Interval.{MatchAbove}
use Rattle.pruning.proofs.block_match_automaton.match_range_start.Given as goal

abbrev pub invariant-loop-kb : goal.invariant-loop-kb
invariant-loop-kb l = let t = l.table.bytes.now in record {
  state : l.at < states t;
  ready : EndsReady t l.prepared;
  firsts : l.prepared.firsts ≡ l.initial.prepared.firsts;
  reach : l.prepared.reach ≡ l.initial.prepared.reach;
  same : MatchAbove t l.state l.start_key ↔ MatchAbove t l.at (drop l.kb-index l.start_key);
}
