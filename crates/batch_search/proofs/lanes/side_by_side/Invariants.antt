-- Each round halves what is left to every search.
use Rattle.batch_search.specs.Lanes.{LanesOk}
use Rattle.batch_search.proofs.lanes.side_by_side.Given as goal

abbrev pub invariant-loop-len : goal.invariant-loop-len
invariant-loop-len l = LanesOk l.directory.bytes.now l.directory.n l.list.pairs.now l.list.keys.now 0 l.len l.lanes

abbrev pub decreases-loop-len : goal.decreases-loop-len
decreases-loop-len l = l.len
