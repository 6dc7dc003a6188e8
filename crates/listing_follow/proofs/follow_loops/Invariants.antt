-- The loop keeps: the states up to the eights passed are there, and the state is the last of them.
use Rattle.std.proofs.Common.{◌≡◌, ◌+◌, ◌*◌, take}
use Rattle.automaton.specs.Words.{run}
use Rattle.listing_follow.specs.Followed.{Followed}
use Rattle.listing_follow.proofs.follow_loops.Given as goal

abbrev pub invariant-loop-k : goal.invariant-loop-k
invariant-loop-k l = let t = l.table.bytes.now in record {
  followed : Followed t l.key l.states (l.from + 8 * l.k);
  last : l.state ≡ run t 0 (take (l.from + 8 * l.k) l.key);
}
