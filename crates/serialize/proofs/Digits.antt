-- Laws of digits of k bits, over every k: appending, taking and dropping digits, one digit of a number, and that a number written
-- is the number read.
use mathlib.Core.Path.{◌≡◌, refl, sym, ap, ap₂, ◌∙◌}
use mathlib.Core.List.{List, [], ◌∷◌, ◌++◌}
use Prim.Native.Nat.{ℕ, zero, suc, ◌+◌, ◌-◌, ◌*◌, ◌/◌, ◌%◌, ◌^◌, ◌≤◌, ◌<◌}
use native.Mathlib.Nat.{mul-suc, mul_assoc, mul_comm, div-one, zero-div, zero-mod, mod-one, mod-lt, mod-eq_of_lt, div-div-eq-div-mul}
use native.Mathlib.Nat.{add-zero, add-mul, add_assoc, mul-one, mul-zero, zero-mul, zero-add, suc-add, not-suc-le-zero}
use native.Mathlib.Nat.{le_of_suc-le-suc}
use native.Mathlib.Omega.{arith}
use lib.Arith.{digits_div, digits_mod, mod-mul}
use lib.ListN.{length, take, drop, get_or}
use lib.Seq.{get_or-drop, take-length}
use lib.Pow.{pow-add, pow_pos, field, mod-mod-pow}
use Rattle.serialize.specs.Digits.{of_digits, digits_of, DigitsBelow}

pub pow-mul-suc : (k n : ℕ) → 2 ^ (k * suc n) ≡ 2 ^ (k * n) * 2 ^ k
pow-mul-suc k n = ap (λ (m : ℕ). 2 ^ m) (mul-suc k n) ∙ pow-add 2 (k * n) k

-- ---- the number of some digits

-- one digit more, also past the end
pub of_digits-suc : (k : ℕ) (l : List ℕ) (n : ℕ) → of_digits k (take (suc n) l) ≡ get_or l n 0 * 2 ^ (k * n) + of_digits k (take n l)
unfolding of_digits
of_digits-suc k [] zero = sym (rw zero-mul refl)
of_digits-suc k [] (suc n) = sym (rw zero-mul refl)
of_digits-suc k (x ∷ xs) zero = rw (mul-zero k, zero-mul) (omega arith)
of_digits-suc k (x ∷ xs) (suc n) = rw (of_digits-suc k xs n, pow-mul-suc, add-mul, mul_assoc, add_assoc) refl

-- the digits from n on are the number without its k * n low bits
pub of_digits-drop : (k n : ℕ) (l : List ℕ) → DigitsBelow k l → of_digits k (drop n l) ≡ of_digits k l / 2 ^ (k * n)
unfolding of_digits
of_digits-drop k zero l h = rw (mul-zero k) (sym (div-one (of_digits k l)))
of_digits-drop k (suc n) [] h = sym (zero-div (2 ^ (k * suc n)))
of_digits-drop k (suc n) (x ∷ xs) h =
    of_digits-drop k n xs (λ i. h (suc i))
    ∙ ap (λ (m : ℕ). m / 2 ^ (k * n)) (sym (digits_div (of_digits k xs) (h 0)))
    ∙ div-div-eq-div-mul (of_digits k xs * 2 ^ k + x) (2 ^ k) (2 ^ (k * n))
    ∙ ap (λ (m : ℕ). (of_digits k xs * 2 ^ k + x) / m) (mul_comm (2 ^ k) (2 ^ (k * n)) ∙ sym (pow-mul-suc k n))

-- the n first digits are the number's k * n low bits
pub of_digits-take : (k n : ℕ) (l : List ℕ) → DigitsBelow k l → of_digits k (take n l) ≡ of_digits k l % 2 ^ (k * n)
unfolding of_digits
of_digits-take k zero l h = rw (mul-zero k) (sym (mod-one (of_digits k l)))
of_digits-take k (suc n) [] h = sym (zero-mod (2 ^ (k * suc n)))
of_digits-take k (suc n) (x ∷ xs) h =
    ap₂ (λ (a b : ℕ). a * 2 ^ k + b)
    (of_digits-take k n xs (λ i. h (suc i)) ∙ ap (λ (m : ℕ). m % 2 ^ (k * n)) (sym (digits_div (of_digits k xs) (h 0))))
    (sym (digits_mod (of_digits k xs) (h 0)))
    ∙ sym (mod-mul (of_digits k xs * 2 ^ k + x) (pow_pos (k * n)) (pow_pos k))
    ∙ ap (λ (m : ℕ). (of_digits k xs * 2 ^ k + x) % m) (sym (pow-mul-suc k n))

pub of_digits-take-lt : (k n : ℕ) (l : List ℕ) → DigitsBelow k l → of_digits k (take n l) < 2 ^ (k * n)
of_digits-take-lt k n l h = rw (of_digits-take k n l h) (mod-lt (of_digits k l) (pow_pos (k * n)))

pub of_digits-lt : (k : ℕ) (l : List ℕ) → DigitsBelow k l → of_digits k l < 2 ^ (k * length l)
of_digits-lt k l h = rw (take-length l) at (of_digits-take-lt k (length l) l h)

pub of_digits-append : (k : ℕ) (a b : List ℕ) → of_digits k (a ++ b) ≡ of_digits k b * 2 ^ (k * length a) + of_digits k a
unfolding of_digits
of_digits-append k [] b = rw (mul-zero k) (omega arith)
of_digits-append k (x ∷ xs) b = rw (of_digits-append k xs b, pow-mul-suc, add-mul, mul_assoc, add_assoc) refl

pub below-drop : (k n : ℕ) (l : List ℕ) → DigitsBelow k l → DigitsBelow k (drop n l)
below-drop k n l h i = rw get_or-drop (h (n + i))

-- digit i of the number is element i of the list, also past the end
pub of_digits-digit : (k : ℕ) (l : List ℕ) (i : ℕ) → DigitsBelow k l → of_digits k l / 2 ^ (k * i) % 2 ^ k ≡ get_or l i 0
of_digits-digit k l i h =
    let e : of_digits k (take 1 (drop i l)) ≡ get_or l i 0 = of_digits-suc k (drop i l) 0 ∙ unfold of_digits in
    rw (get_or-drop, add-zero i, mul-zero k) (omega arith) in
    ap (λ (m : ℕ). m % 2 ^ k) (sym (of_digits-drop k i l h))
    ∙ ap (λ (m : ℕ). of_digits k (drop i l) % 2 ^ m) (sym (mul-one k))
    ∙ sym (of_digits-take k 1 (drop i l) (below-drop k i l h)) ∙ e

-- ---- the digits of a number

pub length-digits_of : (k w v : ℕ) → length (digits_of k w v) ≡ w
unfolding digits_of
length-digits_of k zero v = refl
length-digits_of k (suc w) v = ap suc (length-digits_of k w (v / 2 ^ k))

pub of_digits-digits_of : (k w v : ℕ) → of_digits k (digits_of k w v) ≡ v % 2 ^ (k * w)
unfolding of_digits digits_of
of_digits-digits_of k zero v = rw (mul-zero k) (sym (mod-one v))
of_digits-digits_of k (suc w) v =
    ap (λ (n : ℕ). n * 2 ^ k + v % 2 ^ k) (of_digits-digits_of k w (v / 2 ^ k))
    ∙ sym (mod-mul v (pow_pos (k * w)) (pow_pos k))
    ∙ ap (λ (n : ℕ). v % n) (sym (pow-mul-suc k w))

-- a number of w digits is that of its w digits
pub of_digits-digits_of-lt : (k w v : ℕ) → v < 2 ^ (k * w) → of_digits k (digits_of k w v) ≡ v
of_digits-digits_of-lt k w v h = of_digits-digits_of k w v ∙ mod-eq_of_lt h

-- digits are those of their number
pub digits_of-of_digits : (k : ℕ) (l : List ℕ) → DigitsBelow k l → digits_of k (length l) (of_digits k l) ≡ l
unfolding of_digits digits_of
digits_of-of_digits k [] h = refl
digits_of-of_digits k (x ∷ xs) h =
    ap₂ (λ (d : ℕ) (ds : List ℕ). d ∷ ds) (digits_mod (of_digits k xs) (h 0))
    (ap (digits_of k (length xs)) (digits_div (of_digits k xs) (h 0)) ∙ digits_of-of_digits k xs (λ i. h (suc i)))

-- equal digits mean equal numbers
pub digits_of-inj : (k w u v : ℕ) → u < 2 ^ (k * w) → v < 2 ^ (k * w) → digits_of k w u ≡ digits_of k w v → u ≡ v
digits_of-inj k w u v hu hv e = sym (of_digits-digits_of-lt k w u hu) ∙ ap (of_digits k) e ∙ of_digits-digits_of-lt k w v hv

pub take-digits_of : (k j w v : ℕ) → j ≤ w → take j (digits_of k w v) ≡ digits_of k j v
unfolding digits_of
take-digits_of k zero w v h = refl
take-digits_of k (suc j) zero v h = absurd (not-suc-le-zero h)
take-digits_of k (suc j) (suc w) v h = ap (λ (r : List ℕ). v % 2 ^ k ∷ r) (take-digits_of k j w (v / 2 ^ k) (le_of_suc-le-suc h))

pub digits_of-below : (k w v : ℕ) → DigitsBelow k (digits_of k w v)
unfolding digits_of
digits_of-below k zero v i = pow_pos k
digits_of-below k (suc w) v zero = mod-lt v (pow_pos k)
digits_of-below k (suc w) v (suc i) = digits_of-below k w (v / 2 ^ k) i

-- the digits of a number in two runs
pub digits_of-add : (k a b v : ℕ) → digits_of k (a + b) v ≡ digits_of k a v ++ digits_of k b (v / 2 ^ (k * a))
unfolding digits_of
digits_of-add k zero b v = rw (mul-zero k, div-one v, zero-add b)
digits_of-add k (suc a) b v =
    rw (suc-add a b)
    (ap (λ (r : List ℕ). v % 2 ^ k ∷ r)
    (digits_of-add k a b (v / 2 ^ k)
    ∙ ap (λ (m : ℕ). digits_of k a (v / 2 ^ k) ++ digits_of k b m)
    (div-div-eq-div-mul v (2 ^ k) (2 ^ (k * a)) ∙ ap (λ (m : ℕ). v / m) (mul_comm (2 ^ k) (2 ^ (k * a)) ∙ sym (pow-mul-suc k a)))))

-- ---- bits of a number

-- n bits from bit k on, of a number of which only the W low bits were kept
pub sub-field : (x k n W : ℕ) → k + n ≤ W → x % 2 ^ W / 2 ^ k % 2 ^ n ≡ x / 2 ^ k % 2 ^ n
sub-field x k n W h =
    let e : W ≡ W - (k + n) + n + k = omega arith in
    ap (λ (m : ℕ). x % 2 ^ m / 2 ^ k % 2 ^ n) e
    ∙ ap (λ (m : ℕ). m % 2 ^ n) (field x (W - (k + n) + n) k)
    ∙ mod-mod-pow (x / 2 ^ k) (W - (k + n)) n

-- the j low bits of the W low bits
pub mod-mod-le : (x j W : ℕ) → j ≤ W → x % 2 ^ W % 2 ^ j ≡ x % 2 ^ j
mod-mod-le x j W h =
    let e : W ≡ W - j + j = omega arith in
    ap (λ (m : ℕ). x % 2 ^ m % 2 ^ j) e ∙ mod-mod-pow x (W - j) j
