-- The loop keeps: the states up to byte i are there, and the last of them is the state.
use Rattle.std.proofs.Common.{◌≡◌, ◌-◌, ◌≤◌, ◌<◌, take}
use Rattle.automaton.specs.Table.{states}
use Rattle.automaton.specs.Words.{run}
use Rattle.listing_follow.specs.Followed.{Followed}
use Rattle.listing_follow.proofs.Trail.follow.Given as goal

abbrev pub invariant-loop-i : goal.invariant-loop-i
invariant-loop-i l = let t = l.table.bytes.now in record {
  within : l.i ≤ l.end;
  last : l.state ≡ run t 0 (take l.i l.key);
  small : l.state < states t;
  followed : Followed t l.key l.self.states l.i;
}

abbrev pub decreases-loop-i : goal.decreases-loop-i
decreases-loop-i l = l.end - l.i
