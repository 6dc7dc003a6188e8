-- Which bytes lead from a state to one that can match, and the lowest and the highest of them, kept from when they are first asked for.
use Rattle.std.specs.Prelude.{ℕ, ◌≤◌, ◌<◌, ◌≡◌, List, ltb, length, get_or, Option, None, Some}
use Rattle.automaton.specs.Bits.{Exactly}
use Rattle.automaton.specs.Table.{states, next}
use Rattle.automaton.specs.Words.{CanMatch}

-- a byte from lo on and below hi leads from s to a state that can match
pub record LiveByte (t : List ℕ) (s lo hi : ℕ) : Type 0 where
  pub byte : ℕ
  pub low : lo ≤ byte
  pub high : byte < hi
  pub rest : CanMatch t (next t s byte)

-- the lowest byte that leads on from s, 256 where none does
abbrev pub FirstLive : List ℕ → ℕ → ℕ → Type 0
FirstLive t s first = (hi : ℕ) → hi ≤ 256 → Exactly (ltb first hi) (LiveByte t s 0 hi)

-- one more than the highest byte that leads on from s, 0 where none does
abbrev pub EndLive : List ℕ → ℕ → ℕ → Type 0
EndLive t s end = (lo : ℕ) → Exactly (ltb lo end) (LiveByte t s lo 256)

-- for each state the lowest, where it is worked out
pub record Firsts (t : List ℕ) (firsts : List (Option ℕ)) : Type 0 where
  pub long : length firsts ≡ 64
  pub each : (s first : ℕ) → s < states t → get_or firsts s None ≡ Some first → FirstLive t s first

-- for each state one more than the highest, where it is worked out
pub record Ends (t : List ℕ) (ends : List (Option ℕ)) : Type 0 where
  pub long : length ends ≡ 64
  pub each : (s end : ℕ) → s < states t → get_or ends s None ≡ Some end → EndLive t s end
