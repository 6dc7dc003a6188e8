-- Rows of a table asked in their order: a chain of tests, each with the number of its row.
use Prim.Native.Nat.{ℕ, suc}
use mathlib.Core.Path.{◌≡◌, refl}
use mathlib.Core.Bool.{Bool, true, false, cond}
use native.Mathlib.Omega.{arith}

-- where no row is hit, the first isn't, and none behind it
pub cond-zero : (t : Bool) (k later : ℕ) → cond t (suc k) later ≡ 0 → (t ≡ false) × (later ≡ 0)
cond-zero true k later e = absurd (omega arith)
cond-zero false k later e = (refl, e)
