-- Values taken from a lent area of numbers: every stride-th from a place on, relative to a base.
use Rattle.std.specs.Prelude.{ℕ, zero, suc, ◌+◌, ◌-◌, ◌*◌, ◌^◌, ◌≤◌, ◌<◌, List, [], ◌∷◌, length, get_or}

-- the count values from `at` on
unfoldable pub column : List ℕ → ℕ → ℕ → ℕ → ℕ → List ℕ
column area at stride base zero = []
column area at stride base (suc count) = (get_or area at 0 - base) ∷ column area (at + stride) stride base count

-- a value that is there, isn't below the base, and leaves room for a sum of two
pub record ValueOk (area : List ℕ) (base p : ℕ) : Type 0 where
  pub inside : p < length area
  pub above : base ≤ get_or area p 0
  pub small : get_or area p 0 < 2 ^ 62

-- every value of a column is such a value
pub record ColumnOk (area : List ℕ) (at stride base count : ℕ) : Type 0 where
  pub few : count < 2 ^ 31
  pub values : (j : ℕ) → j < count → ValueOk area base (at + stride * j)
