-- The first of n places where something holds, counted from the front or from the back.
use Rattle.std.specs.Prelude.{ℕ, ◌-◌, ◌<◌, Bool, true, false, cond, Option, None, Some}

-- the k-th place
abbrev pub place : Bool → ℕ → ℕ → ℕ
place back n k = cond back (n - 1 - k) k

-- place k comes before place j
abbrev pub Before : Bool → ℕ → ℕ → Type 0
Before true k j = j < k
Before false k j = k < j

-- P holds at the place, and at none that comes before it; or at none
abbrev pub Nearest : (P : ℕ → Type 0) (back : Bool) (n : ℕ) → Option ℕ → Type 0
Nearest P back n None = (k : ℕ) → k < n → P k → ⊥
Nearest P back n (Some j) = (j < n) × P j × ((k : ℕ) → k < n → Before back k j → P k → ⊥)
