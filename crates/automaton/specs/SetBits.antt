-- The places of a word's set bits, taken one after the other, the lowest first.
use Rattle.std.specs.Prelude.{ℕ, ◌-◌, ◌^◌, ◌<◌, ◌≡◌, Option, None, Some}
use Rattle.std.specs.Int.Count.{count_trailing_zeros}
use Rattle.automaton.specs.Bits.{bit}

-- s is the place of w's lowest set bit, and v is w without it
pub record TookLowest (w s v : ℕ) : Type 0 where
  pub below : s < 64
  pub counted : s ≡ count_trailing_zeros 64 w
  pub set : bit w s ≡ 1
  pub lowest : (k : ℕ) → k < s → bit w k ≡ 0
  pub rest : v ≡ w - 2 ^ s
  pub falls : v < w

-- what a word w of bits to come gives, and the word v that it becomes
abbrev pub TakesLowest : ℕ → Option ℕ → ℕ → Type 0
TakesLowest w None v = (w ≡ 0) × (v ≡ 0)
TakesLowest w (Some s) v = TookLowest w s v
