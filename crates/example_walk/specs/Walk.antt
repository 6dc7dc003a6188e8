-- The walk along two keys: which part of the interval was looked at, and which bytes needn't be looked at again.
use Rattle.std.specs.Prelude.{ℕ, ◌+◌, ◌≤◌, ◌<◌, ◌≡◌, List, [], ◌∷◌, ◌++◌, ◌⊎◌, cond, ltb, length, take, get_or}
use Rattle.keys.specs.Order.{◌≼◌}
use Rattle.automaton.specs.Table.{states, next}
use Rattle.automaton.specs.Words.{run}
use Rattle.example_leaving.specs.Leaving.{FirstBetween}
use Rattle.example_walk.specs.declared.Walk.{Walk}

-- where the strings end that begin with the start key's first `place` bytes: those above the key lie below it. Behind the key it is
-- where they begin
abbrev pub low_edge : List ℕ → ℕ → List ℕ
low_edge start place = cond (ltb (length start) place) (start ++ (0 ∷ [])) (take place start ++ (256 ∷ []))

-- where the strings begin that are above the end key's first `place` bytes
abbrev pub high_edge : List ℕ → ℕ → List ℕ
high_edge end place = take place end ++ (0 ∷ [])

-- the best string is the first from a on and below b
pub record BestBetween (t d a b : List ℕ) (w : Walk) : Type 0 where
  pub ordered : a ≼ b
  pub first : FirstBetween t d a b w.best

-- inside the key, its first bytes lead to the state
pub record Reached (t key : List ℕ) (place state : ℕ) : Type 0 where
  pub small : state < states t
  pub led : place ≤ length key → state ≡ run t 0 (take place key)

-- a byte that was looked at in a state
abbrev pub LookedAt : Walk → ℕ → ℕ → Type 0
LookedAt w s b = (b < get_or w.passed_below s 0) ⊎ (get_or w.passed_from s 0 ≤ b)

-- a string that leaves a key by such a byte, at the place or later, is longer than the best
pub record Covers (t d : List ℕ) (place : ℕ) (w : Walk) : Type 0 where
  pub long-below : length w.passed_below ≡ 64
  pub long-from : length w.passed_from ≡ 64
  pub from-fits : (s : ℕ) → get_or w.passed_from s 0 ≤ 256
  pub longer : (s b : ℕ) → s < states t → b < 256 → LookedAt w s b → get_or d (next t s b) 0 < 64
      → w.best.last < place + get_or d (next t s b) 0
