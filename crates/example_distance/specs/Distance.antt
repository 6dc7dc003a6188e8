-- How far each state is from acceptance: the length of a shortest byte string that leads there; 64 where there is none.
use Rattle.std.specs.Prelude.{ℕ, ◌≤◌, ◌<◌, ◌≡◌, List, length, get_or}
use Rattle.automaton.specs.Table.{states}
use Rattle.automaton.specs.Words.{Hits, Accepts, CanMatch}

pub record Distances (t d : List ℕ) : Type 0 where
  pub long : length d ≡ 64
  pub near : (s : ℕ) → s < states t → get_or d s 0 < 64 → Accepts t s (λ w. length w ≡ get_or d s 0)
  pub least : (s : ℕ) (w : List ℕ) → s < states t → Hits t s w → get_or d s 0 ≤ length w
  pub far : (s : ℕ) → s < states t → CanMatch t s → get_or d s 0 < 64
