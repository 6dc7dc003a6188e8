-- The first of the byte strings of which P holds (SPECIFICATION 11.8): the shortest of them, and of those the lowest in byte order.
use Rattle.std.specs.Prelude.{ℕ, ◌<◌, ◌≡◌, List, ◌⊎◌, length}
use Rattle.keys.specs.Order.{◌≼◌}

-- w is shorter than v, or as long and not above it
abbrev pub NotAfter : List ℕ → List ℕ → Type 0
NotAfter w v = (length w < length v) ⊎ ((length w ≡ length v) × (w ≼ v))

-- w is one of them, and comes after none
pub record FirstIn (P : List ℕ → Type 0) (w : List ℕ) : Type 0 where
  pub is-one : P w
  pub first : (v : List ℕ) → P v → NotAfter w v
