-- Laws of the number of w bytes in a list: what was written reads back, and what is read is what stands there.
use mathlib.Core.Path.{◌≡◌, refl, ap, ◌∙◌}
use mathlib.Core.List.{List, [], ◌∷◌}
use Prim.Native.Nat.{ℕ, zero, suc, ◌+◌, ◌*◌, ◌^◌, ◌≤◌, ◌<◌}
use native.Mathlib.Omega.{arith}
use lib.ListN.{length, take, drop, length-drop}
use lib.Pow.{pow_pos}
use lib.Seq.{take-take, length-take-le}
use Rattle.serialize.specs.Digits.{le_val, le_bytes, number_at, DigitsBelow}
use Rattle.serialize.proofs.Digits.{of_digits-digits_of-lt, digits_of-of_digits, of_digits-take-lt, below-drop}

-- w bytes at p of the first n are those of the whole
pub part-of-front : (l : List ℕ) (n p w : ℕ) → p + w ≤ n → take w (drop p (take n l)) ≡ take w (drop p l)
part-of-front l n zero w h = take-take w n l (omega arith)
part-of-front l zero (suc p) w h = absurd (let z : ⊥ = omega arith in z)
part-of-front [] (suc n) (suc p) w h = refl
part-of-front (x ∷ l) (suc n) (suc p) w h = part-of-front l n p w (omega arith)

-- the number at `at` is v if its bytes are v's
pub number-back : (s : List ℕ) (at w v : ℕ) → v < 2 ^ (8 * w) → take w (drop at s) ≡ le_bytes w v → number_at s at w ≡ v
number-back s at w v h e = ap le_val e ∙ of_digits-digits_of-lt 8 w v h

pub number_lt : (s : List ℕ) (at w : ℕ) → DigitsBelow 8 s → number_at s at w < 2 ^ (8 * w)
number_lt s at w h = of_digits-take-lt 8 w (drop at s) (below-drop 8 at s h)

below-take : (k n : ℕ) (l : List ℕ) → DigitsBelow k l → DigitsBelow k (take n l)
below-take k zero l h i = pow_pos k
below-take k (suc n) [] h i = pow_pos k
below-take k (suc n) (x ∷ l) h zero = h 0
below-take k (suc n) (x ∷ l) h (suc i) = below-take k n l (λ j. h (suc j)) i

-- the bytes of the number at `at` stand there
pub number-bytes : (s : List ℕ) (at w : ℕ) → at + w ≤ length s → DigitsBelow 8 s → le_bytes w (number_at s at w) ≡ take w (drop at s)
number-bytes s at w h below =
    rw (length-take-le w (drop at s) (omega (arith, length-drop at s))) at
    (digits_of-of_digits 8 (take w (drop at s)) (below-take 8 w (drop at s) (below-drop 8 at s below)))
