-- The entries before i are found.
use Rattle.std.proofs.Common.{◌≡◌, ◌<◌, ℕ, length, get_or}
use Rattle.batch_search.proofs.Entries.{EntryOk}
use Rattle.batch_search.proofs.one_by_one.Given as goal

abbrev pub invariant-loop-i : goal.invariant-loop-i
invariant-loop-i l =
    record {
      long : length l.found ≡ 64;
      each : (j : ℕ) → j < l.i → EntryOk l.directory.bytes.now l.directory.n l.list.pairs.now l.list.keys.now j (get_or l.found j 0);
    }
