-- The loop keeps: the test is true exactly when the bytes passed lead back to the state.
use Rattle.std.proofs.Common.{◌≡◌, ℕ, ◌+◌, ◌<◌, get_or}
use Rattle.automaton.specs.Bits.{Exactly}
use Rattle.automaton.specs.Table.{next}
use Rattle.listing_follow.proofs.stays.Given as goal

abbrev pub invariant-loop-byte : goal.invariant-loop-byte
invariant-loop-byte l =
    Exactly l.all ((k : ℕ) → k < l.byte-index → next l.table.bytes.now l.state (get_or l.key (l.at + k) 0) ≡ l.state)
