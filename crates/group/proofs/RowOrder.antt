-- The order of rows: the first that is hit decides, and 0 means that none is.
use mathlib.Core.Path.{◌≡◌, refl}
use Prim.Native.Nat.{ℕ, zero, suc}
use native.Mathlib.Omega.{arith}
use Rattle.group.specs.Rows.{or_row}

pub or_row-first : (k later : ℕ) → (k ≡ 0 → ⊥) → or_row k later ≡ k
or_row-first zero later h = absurd (h refl)
or_row-first (suc k) later h = refl

pub or_row-zero : (k later : ℕ) → or_row k later ≡ 0 → (k ≡ 0) × (later ≡ 0)
or_row-zero zero later e = (refl, e)
or_row-zero (suc k) later e = absurd (let z : ⊥ = omega arith in z)
