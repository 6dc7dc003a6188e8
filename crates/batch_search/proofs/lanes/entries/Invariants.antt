-- The entries before i are written.
use Rattle.std.proofs.Common.{◌≡◌, ◌<◌, ℕ, length, get_or, cond, eqb}
use Rattle.batch_search.specs.Entries.{no_id}
use Rattle.batch_search.specs.Lanes.{fresh}
use Rattle.batch_search.proofs.lanes.entries.Given as goal

abbrev pub invariant-loop-i : goal.invariant-loop-i
invariant-loop-i l =
    record {
      long : length l.found ≡ 64;
      each : (j : ℕ) → j < l.i → get_or l.found j 0 ≡ cond (eqb (get_or l.lanes j fresh).left l.n) no_id (get_or l.lanes j fresh).left;
    }
