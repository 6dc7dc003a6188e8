-- The states along a key.
use Rattle.std.specs.Prelude.{ℕ, ◌≤◌, ◌≡◌, List, Bool, length, take, get_or}
use Rattle.layout.specs.Layout.{max_key_len}
use Rattle.automaton.specs.Bits.{Exactly}
use Rattle.automaton.specs.Words.{run}
use Rattle.pruning.specs.Interval.{MatchBetween}
use Rattle.listing_follow.specs.declared.Trail.{Trail}

-- element j is the state behind j bytes of the key, up to `known` bytes
pub record Followed (t key states : List ℕ) (known : ℕ) : Type 0 where
  pub long : length states ≡ 1025
  pub each : (j : ℕ) → j ≤ known → get_or states j 0 ≡ run t 0 (take j key)

-- the states along the key
pub record IsTrail (t key : List ℕ) (trail : Trail) : Type 0 where
  pub followed : Followed t key trail.states trail.known
  pub few : trail.known ≤ max_key_len
  pub within : trail.known ≤ length key

-- a block's turn: whether it matches, and the states along its end key
pub record Turned (t start end : List ℕ) (trail : Trail) (matches : Bool) : Type 0 where
  pub right : Exactly matches (MatchBetween t 0 start end)
  pub along : IsTrail t end trail
