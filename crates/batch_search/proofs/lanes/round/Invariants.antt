-- The searches before i have taken their turn.
use Rattle.batch_search.specs.Lanes.{LanesOk}
use Rattle.batch_search.proofs.lanes.round.Given as goal

abbrev pub invariant-loop-i : goal.invariant-loop-i
invariant-loop-i l = LanesOk l.directory.bytes.now l.directory.n l.list.pairs.now l.list.keys.now l.i l.len l.lanes
