-- The loop keeps: what is looked for is a string that isn't empty and not above what is left of the key, from the state that the bytes
-- passed lead to; of what is prepared the highest bytes stay.
use Rattle.std.proofs.Common.{◌≡◌, ◌<◌, ◌↔◌, [], drop}
use Rattle.automaton.specs.Table.{states}
use Rattle.automaton_live.specs.Prepared.{FirstsReady}
use Rattle.pruning.specs.Interval.{MatchBetween}
use Rattle.pruning.proofs.block_match_automaton.match_range_end.Given as goal

abbrev pub invariant-loop-kb : goal.invariant-loop-kb
invariant-loop-kb l = let t = l.table.bytes.now in record {
  state : l.at < states t;
  ready : FirstsReady t l.prepared;
  ends : l.prepared.ends ≡ l.initial.prepared.ends;
  reach : l.prepared.reach ≡ l.initial.prepared.reach;
  same : MatchBetween t l.state [] l.end_key ↔ MatchBetween t l.at [] (drop l.kb-index l.end_key);
}
