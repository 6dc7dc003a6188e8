-- Laws of a word of 64 bits: what waits joined with a value, by `|` and `<<`, and what is left of it.
use mathlib.Core.Path.{◌≡◌, refl, sym, ap, ◌∙◌}
use Prim.Native.Nat.{ℕ, ◌+◌, ◌-◌, ◌*◌, ◌/◌, ◌%◌, ◌^◌, ◌≤◌, ◌<◌}
use native.Mathlib.Nat.{add_comm, add-zero, zero-add}
use native.Mathlib.Omega.{arith}
use lib.Arith.{digits_lt}
use lib.Bits.{bit_or, or_shifted_r}
use lib.Pow.{pow_pos, pow-add, mod-pow-add, high, low, shr-shr}
use Rattle.serialize.specs.Digits.{digits_of}
use Rattle.serialize.proofs.Digits.{length-digits_of, of_digits-digits_of, digits_of-of_digits, digits_of-below}

-- the w digits of a number are those of its w * k low bits
pub low-digits_of : (k w v : ℕ) → digits_of k w (v % 2 ^ (k * w)) ≡ digits_of k w v
low-digits_of k w v =
    rw (length-digits_of k w v, of_digits-digits_of k w v) at (digits_of-of_digits k (digits_of k w v) (digits_of-below k w v))

joined-mod : (m v f g : ℕ) → m < 2 ^ f → (m + v * 2 ^ f) % 2 ^ (g + f) ≡ v % 2 ^ g * 2 ^ f + m
joined-mod m v f g h = rw (add_comm m (v * 2 ^ f), mod-pow-add (v * 2 ^ f + m) g f, high v f h, low v f h) refl

-- `m | (v << f)`: what fits a word of what waits and the value behind it
pub or_word : (m v f : ℕ) → m < 2 ^ f → f < 64 → bit_or m (v * 2 ^ f % 2 ^ 64) ≡ (m + v * 2 ^ f) % 2 ^ 64
or_word m v f h k =
    let g = 64 - f in
    let e : g + f ≡ 64 = omega arith in
    let cut : v * 2 ^ f % 2 ^ 64 ≡ v % 2 ^ g * 2 ^ f =
    ap (λ (n : ℕ). v * 2 ^ f % 2 ^ n) (sym e)
    ∙ ap (λ (n : ℕ). n % 2 ^ (g + f)) (sym (zero-add (v * 2 ^ f)))
    ∙ joined-mod 0 v f g (pow_pos f) ∙ add-zero (v % 2 ^ g * 2 ^ f) in
    ap (bit_or m) cut
    ∙ or_shifted_r (v % 2 ^ g) f m h
    ∙ sym (joined-mod m v f g h)
    ∙ ap (λ (n : ℕ). (m + v * 2 ^ f) % 2 ^ n) e

-- n bits above f bits are n + f bits
pub join-lt : (v n m f : ℕ) → v < 2 ^ n → m < 2 ^ f → v * 2 ^ f + m < 2 ^ (n + f)
join-lt v n m f h k = rw pow-add (digits_lt h k)

-- what waits and a value of n bits have filled + n bits
pub joined-lt : (m v f n : ℕ) → m < 2 ^ f → v < 2 ^ n → m + v * 2 ^ f < 2 ^ (f + n)
joined-lt m v f n h k = rw (add_comm m (v * 2 ^ f), add_comm f n) (join-lt v n m f k h)

-- what is left of the value when a word has left
pub joined-left : (m v f : ℕ) → m < 2 ^ f → f ≤ 64 → (m + v * 2 ^ f) / 2 ^ 64 ≡ v / 2 ^ (64 - f)
joined-left m v f h k =
    let e : f + (64 - f) ≡ 64 = omega arith in
    ap (λ (n : ℕ). (m + v * 2 ^ f) / 2 ^ n) (sym e)
    ∙ sym (shr-shr (m + v * 2 ^ f) f (64 - f))
    ∙ ap (λ (n : ℕ). n / 2 ^ (64 - f)) (rw (add_comm m (v * 2 ^ f)) (high v f h))
