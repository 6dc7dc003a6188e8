-- The digits that the crate hex gives are the definition's.
use mathlib.Core.Path.{◌≡◌, refl, ap}
use mathlib.Core.Bool.{Bool, true, ◌&&◌}
use mathlib.Core.List.{List, [], ◌∷◌}
use mathlib.Core.Logic.{inl, inr}
use Prim.Native.Nat.{ℕ, zero, suc, ◌*◌, ◌/◌, ◌%◌, ◌<◌}
use native.Mathlib.Omega.{arith}
use lib.Dec.{eqb}
use lib.ListN.{length, get_or}
use borrow.Author.Tests.{eqb-true}
use Rattle.std.specs.Prelude.{Result, Ok, OnOk}
use Rattle.std.proofs.lemmas.Bool.{and_parts, cases_lt}
use Rattle.hex.specs.Hex.{encode_with, encode_lower, lower_digits}
use Rattle.line_text.specs.Lines.{hex_digit, hex, separator_text}
use Rattle.line_text.proofs.Decimal.{length-hex}

-- ---- a digit: the first n are tested

same : ℕ → Bool
same d = eqb (get_or lower_digits d 0) (hex_digit d)

all_same : ℕ → Bool
all_same zero = true
all_same (suc n) = same n && all_same n

same_at : (n d : ℕ) → all_same n ≡ true → d < n → same d ≡ true
unfolding same all_same
same_at zero d h l = absurd (let z : ⊥ = omega arith in z)
same_at (suc n) d h l =
    let parts = and_parts (same n) (all_same n) h in
    elim (cases_lt d n) [
      | inl below ↦ same_at n d parts.1 below
      | inr top ↦ let e : d ≡ n = omega arith in rw e parts.0
    ]

digit_is : (d : ℕ) → d < 16 → get_or lower_digits d 0 ≡ hex_digit d
unfolding same all_same
digit_is d h = eqb-true (get_or lower_digits d 0) (hex_digit d) (same_at 16 d refl h)

-- ---- all of them

pub encoded : (bytes : List ℕ) → ((i : ℕ) → get_or bytes i 0 < 256) → encode_lower bytes ≡ hex bytes
unfolding encode_with hex
encoded [] h = refl
encoded (b ∷ bytes) h =
    let byte : b < 256 = h 0 in
    rw (digit_is (b / 16) (omega arith), digit_is (b % 16) (omega arith))
    (ap (λ (ds : List ℕ). hex_digit (b / 16) ∷ hex_digit (b % 16) ∷ ds) (encoded bytes (λ i. h (suc i))))

-- a separator that isn't empty
pub shown : (bytes : List ℕ) → (length bytes ≡ 0 → ⊥) → separator_text bytes ≡ hex bytes
shown [] h = absurd (h refl)
shown (b ∷ bytes) h = refl

pub length-shown : (bytes : List ℕ) → (length bytes ≡ 0 → ⊥) → length (separator_text bytes) ≡ 2 * length bytes
length-shown [] h = absurd (h refl)
length-shown (b ∷ bytes) h = length-hex (b ∷ bytes)

-- what holds where it went well
pub went : {X Y : Type 0} (P : Type 0) (r : Result X Y) (x : X) → r ≡ Ok x → OnOk r P → P
went P r x e o = rw e at o
