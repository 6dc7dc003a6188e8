-- Columns by their places: how many values there are, the value at a place, and the first value with the rest.
use Prim.Native.Nat.{ℕ, zero, suc, ◌+◌, ◌-◌, ◌*◌, ◌<◌}
use mathlib.Core.Path.{◌≡◌, refl, ap}
use mathlib.Core.List.{List, ◌∷◌}
use native.Mathlib.Omega.{arith}
use native.Mathlib.Nat.{add-zero, mul-zero, mul-suc}
use native.Mathlib.Numerals.{add-one}
use lib.ListN.{length, get_or}
use Rattle.slope.specs.Column.{column}

pub length-column : (area : List ℕ) (at stride base count : ℕ) → length (column area at stride base count) ≡ count
unfolding column
length-column area at stride base zero = refl
length-column area at stride base (suc count) = ap suc (length-column area (at + stride) stride base count)

-- one place further, from the start or from the second place
place : (at stride j : ℕ) → at + stride * suc j ≡ at + stride + stride * j
place at stride j = omega (arith, mul-suc stride j)

next : (at stride j : ℕ) → at + stride * suc j ≡ at + stride * j + stride
next at stride j = omega (arith, mul-suc stride j)

pub column-at : (area : List ℕ) (at stride base count j : ℕ) → j < count
    → get_or (column area at stride base count) j 0 ≡ get_or area (at + stride * j) 0 - base
unfolding column
column-at area at stride base zero j h = elim h [ ]
column-at area at stride base (suc count) zero h = rw (mul-zero, add-zero)
column-at area at stride base (suc count) (suc j) h = rw place (column-at area (at + stride) stride base count j (omega arith))

-- the first value of what is left from place j on
pub column-step : (area : List ℕ) (at stride base count j : ℕ) → j < count
    → column area (at + stride * j) stride base (count - j)
    ≡ (get_or area (at + stride * j) 0 - base) ∷ column area (at + stride * (j + 1)) stride base (count - (j + 1))
unfolding column
column-step area at stride base count j h =
    let e : count - j ≡ suc (count - (j + 1)) = omega arith in
    rw (e, add-one, next)
