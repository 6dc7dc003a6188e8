-- Laws of `num_bits_of`: below 57 bits it is the shortest width that holds the number, and else it is 64.
use mathlib.Core.Path.{◌≡◌, refl}
use mathlib.Core.Bool.{Bool, true, false}
use mathlib.Core.Logic.{◌⊎◌, inl, inr, ⊎_elim}
use Prim.Native.Nat.{ℕ, suc, ◌-◌, ◌^◌, ◌≤◌, ◌<◌}
use native.Mathlib.Nat.{lt_of_lt_of_le, lt_of_le_of_lt, lt_of_not-le, le_of_suc-le-suc, pow-suc}
use native.Mathlib.Omega.{arith}
use borrow.Author.Tests.{leb-true, leb-false}
use lib.Count.{count_leading_zeros, leading_length}
use lib.Dec.{leb}
use lib.Pow.{pow_mono}
use Rattle.bitpacker.specs.Bits.{num_bits_of}

-- the two cases of the definition, as numbers
pub num_bits_of-cases : (x : ℕ)
    → ((num_bits_of x ≤ 56) × (num_bits_of x ≡ 64 - count_leading_zeros 64 x)) ⊎
    ((num_bits_of x ≡ 64) × (56 < 64 - count_leading_zeros 64 x))
unfolding num_bits_of
num_bits_of-cases x = by (leb (64 - count_leading_zeros 64 x) 56) refl
  where
    by : (t : Bool) → leb (64 - count_leading_zeros 64 x) 56 ≡ t
        → ((num_bits_of x ≤ 56) × (num_bits_of x ≡ 64 - count_leading_zeros 64 x)) ⊎
        ((num_bits_of x ≡ 64) × (56 < 64 - count_leading_zeros 64 x))
    by true e = inl (rw e (leb-true (64 - count_leading_zeros 64 x) 56 e), rw e refl)
    by false e = inr (rw e refl, leb-false (64 - count_leading_zeros 64 x) 56 e)

pub num_bits_of-max : (x : ℕ) → num_bits_of x ≤ 64
num_bits_of-max x = ⊎_elim (λ c. omega arith) (λ c. omega arith) (num_bits_of-cases x)

-- a number fits its bits
pub num_bits_of-lt : (x : ℕ) → x < 2 ^ 64 → x < 2 ^ num_bits_of x
num_bits_of-lt x h =
    let t = leading_length 64 x h in
    lt_of_lt_of_le t.2 (pow_mono (⊎_elim (λ c. omega arith) (λ c. omega arith) (num_bits_of-cases x)))

-- a width that is at least `num_bits_of` holds the number
pub num_bits_of-fits : (b x : ℕ) → x < 2 ^ 64 → num_bits_of x ≤ b → x < 2 ^ b
num_bits_of-fits b x h k = lt_of_lt_of_le (num_bits_of-lt x h) (pow_mono k)

-- and to 56 bits only such a width does
pub num_bits_of-le : (b x : ℕ) → b ≤ 56 → x < 2 ^ b → num_bits_of x ≤ b
num_bits_of-le b x k h =
    let t = leading_length 64 x (lt_of_lt_of_le h (pow_mono {j = 64} (omega arith))) in
    let short : t.0 ≤ b = le_of_suc-le-suc (lt_of_not-le (λ (g : suc b ≤ t.0). let m = pow_mono g in let s = pow-suc 2 b in omega arith)) in
    ⊎_elim (λ c. omega arith) (λ c. omega arith) (num_bits_of-cases x)

pub num_bits_of-mono : (x y : ℕ) → x ≤ y → y < 2 ^ 64 → num_bits_of x ≤ num_bits_of y
num_bits_of-mono x y h k =
    let top = num_bits_of-max x in
    ⊎_elim (λ c. num_bits_of-le (num_bits_of y) x c.0 (lt_of_le_of_lt h (num_bits_of-lt y k))) (λ c. omega arith) (num_bits_of-cases y)
