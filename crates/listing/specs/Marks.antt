-- The marks of a listing (SPECIFICATION 11.7), a byte for each block, and how many are 1.
use Rattle.std.specs.Prelude.{ℕ, zero, suc, ◌+◌, ◌<◌, ◌≡◌, List, [], ◌∷◌, cond, ◌⊎◌, eqb, length, get_or}
use Rattle.std.proofs.Math.Option.{Option, none, some}
use Rattle.pruning.specs.Interval.{Marked}

-- where block i's interval starts: at the separator before it; absent for block 0
abbrev pub start_at : (ℕ → List ℕ) → ℕ → Option (List ℕ)
start_at separator zero = none
start_at separator (suc i) = some (separator i)

-- a mark is 1 exactly when P, else 0
abbrev pub Mark : ℕ → Type 0 → Type 0
Mark x P = ((x ≡ 1) × P) ⊎ ((x ≡ 0) × (P → ⊥))

-- n marks, each of which says whether an accepted string lies in its block's interval (SPECIFICATION 11.4)
pub record Marks (t : List ℕ) (separator : ℕ → List ℕ) (n : ℕ) (marks : List ℕ) : Type 0 where
  pub long : length marks ≡ n
  pub each : (i : ℕ) → i < n → Mark (get_or marks i 0) (Marked t (start_at separator i) (separator i))

-- the count of ones
unfoldable pub count_ones : List ℕ → ℕ
count_ones [] = 0
count_ones (x ∷ xs) = cond (eqb x 1) 1 0 + count_ones xs
