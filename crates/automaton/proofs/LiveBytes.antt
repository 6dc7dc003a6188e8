-- Bytes that don't lead on.
use mathlib.Core.List.{List}
use Prim.Native.Nat.{ℕ, ◌≤◌, ◌<◌}
use Rattle.automaton.specs.Table.{next}
use Rattle.automaton.specs.Words.{CanMatch}

-- no byte from lo on and below hi leads on from s
abbrev pub Dead : List ℕ → (s lo hi : ℕ) → Type 0
Dead t s lo hi = (k : ℕ) → lo ≤ k → k < hi → CanMatch t (next t s k) → ⊥
