-- Numbers and their digits of k bits, the lowest digit first. Bytes are digits of 8 bits (SPECIFICATION 1.4).
use Rattle.std.specs.Prelude.{ℕ, zero, suc, ◌+◌, ◌*◌, ◌/◌, ◌%◌, ◌^◌, ◌<◌, List, [], ◌∷◌, get_or, take, drop}

-- the number whose digits of k bits are ds
unfoldable pub of_digits : ℕ → List ℕ → ℕ
of_digits k [] = 0
of_digits k (d ∷ ds) = of_digits k ds * 2 ^ k + d

-- the w lowest digits of k bits of v
unfoldable pub digits_of : ℕ → ℕ → ℕ → List ℕ
digits_of k zero v = []
digits_of k (suc w) v = v % 2 ^ k ∷ digits_of k w (v / 2 ^ k)

-- every element is a digit of k bits
abbrev pub DigitsBelow : ℕ → List ℕ → Type 0
DigitsBelow k ds = (i : ℕ) → get_or ds i 0 < 2 ^ k

-- the number that bytes spell
abbrev pub le_val : List ℕ → ℕ
le_val bytes = of_digits 8 bytes

-- the number of the w bytes from `at` on
abbrev pub number_at : List ℕ → ℕ → ℕ → ℕ
number_at bytes at w = le_val (take w (drop at bytes))

-- the w bytes of v
abbrev pub le_bytes : ℕ → ℕ → List ℕ
le_bytes w v = digits_of 8 w v
