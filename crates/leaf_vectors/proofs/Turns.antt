-- Fields in turn: each range and each ordinal by its place, and how many there are.
use Prim.Native.Nat.{ℕ, zero, suc, ◌+◌, ◌*◌, ◌≤◌}
use mathlib.Core.Path.{◌≡◌, refl}
use mathlib.Core.List.{List, [], ◌∷◌}
use native.Mathlib.Omega.{arith}
use native.Mathlib.Numerals.{add-one}
use lib.ListN.{length, get_or}
use lib.Pow.{pow_pos}
use Rattle.serialize.specs.Digits.{DigitsBelow}
use Rattle.leaf_vectors.specs.Fields.{ranges, ordinals}

double : (i : ℕ) → 2 * suc i ≡ suc (suc (2 * i))
double i = omega arith

pub range_at : (fs : List ℕ) (i : ℕ) → get_or (ranges fs) i 0 ≡ get_or fs (2 * i) 0
unfolding ranges
range_at [] i = refl
range_at (x ∷ []) zero = refl
range_at (x ∷ []) (suc i) = rw (double i) refl
range_at (x ∷ (y ∷ fs)) zero = refl
range_at (x ∷ (y ∷ fs)) (suc i) = rw (double i) (range_at fs i)

pub ordinal-at : (fs : List ℕ) (i : ℕ) → get_or (ordinals fs) i 0 ≡ get_or fs (2 * i + 1) 0
unfolding ordinals
ordinal-at [] i = refl
ordinal-at (x ∷ fs) i = rw (add-one (2 * i)) (range_at fs i)

pub ranges-length : (fs : List ℕ) → 2 * length (ranges fs) ≤ length fs + 1
unfolding ranges
ranges-length [] = omega arith
ranges-length (x ∷ []) = omega arith
ranges-length (x ∷ (y ∷ fs)) = let h = ranges-length fs in omega arith

pub ordinals-length : (fs : List ℕ) → 2 * length (ordinals fs) ≤ length fs
unfolding ordinals
ordinals-length [] = omega arith
ordinals-length (x ∷ fs) = let h = ranges-length fs in omega arith

-- where both widths are the same
pub below-turns : (w : ℕ) (fs : List ℕ) → DigitsBelow w (ranges fs) → DigitsBelow w (ordinals fs) → DigitsBelow w fs
unfolding ordinals
below-turns w [] hr ho i = pow_pos w
below-turns w (x ∷ fs) hr ho zero = rw (range_at (x ∷ fs) 0) at (hr 0)
below-turns w (x ∷ fs) hr ho (suc i) =
    below-turns w fs ho (λ j. rw (ordinal-at fs j, add-one (2 * j)) (rw (range_at (x ∷ fs) (suc j), double j) at (hr (suc j)))) i
