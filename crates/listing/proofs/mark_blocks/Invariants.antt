-- After i blocks there is a listing of i blocks, and the states along the key before and the bytes asked for are kept.
use Rattle.std.proofs.Common.{◌-◌, ◌≤◌}
use Rattle.directory.specs.Read.{key_of}
use Rattle.automaton_live.specs.Prepared.{IsPrepared}
use Rattle.listing_follow.specs.Followed.{IsTrail}
use Rattle.listing.specs.Listing.{Listing}
use Rattle.listing.proofs.mark_blocks.Given as goal

abbrev pub invariant-loop-i : goal.invariant-loop-i
invariant-loop-i l =
    let t = l.table.bytes.now in
    let separator = key_of l.directory.bytes.now l.directory.n in record {
      some : 1 ≤ l.i;
      trail : IsTrail t (separator (l.i - 1)) l.trail;
      prepared : IsPrepared t l.prepared;
      listed : Listing t separator l.i l.fn.marks l.marks l.count;
    }
