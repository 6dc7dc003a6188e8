-- The lines of the program `blocks` (SPECIFICATION 14.1): four decimal numbers and the separator's text, each after a space but
-- the first, and the line's end.
use Rattle.std.specs.Prelude.{ℕ, zero, suc, ◌+◌, ◌/◌, ◌%◌, List, [], ◌∷◌, ◌++◌, cond, ltb}
use Rattle.group.specs.declared.BlockAddr.{BlockAddr}

-- the decimal digits of n, at most fuel + 1 of them, in front of what follows
unfoldable pub decimal_before : ℕ → ℕ → List ℕ → List ℕ
decimal_before zero n rest = (48 + n % 10) ∷ rest
decimal_before (suc fuel) n rest = cond (ltb n 10) ((48 + n) ∷ rest) (decimal_before fuel (n / 10) ((48 + n % 10) ∷ rest))

-- a number below 2^64 has at most 20
abbrev pub decimal : ℕ → List ℕ
decimal n = decimal_before 19 n []

-- a hex digit: 0 to 9, a to f
abbrev pub hex_digit : ℕ → ℕ
hex_digit d = cond (ltb d 10) (48 + d) (87 + d)

unfoldable pub hex : List ℕ → List ℕ
hex [] = []
hex (b ∷ bs) = hex_digit (b / 16) ∷ hex_digit (b % 16) ∷ hex bs

abbrev pub separator_text : List ℕ → List ℕ
separator_text [] = 45 ∷ []
separator_text (b ∷ bs) = hex (b ∷ bs)

unfoldable pub line_of : ℕ → BlockAddr → List ℕ → List ℕ
line_of id b separator =
    decimal id
    ++ (32 ∷ decimal b.start
    ++ (32 ∷ decimal b.end ++ (32 ∷ decimal b.first_ordinal ++ (32 ∷ separator_text separator ++ (10 ∷ [])))))

-- `too long`, and a line's end
abbrev pub too_long_line : List ℕ
too_long_line = 116 ∷ 111 ∷ 111 ∷ 32 ∷ 108 ∷ 111 ∷ 110 ∷ 103 ∷ 10 ∷ []

-- `refused` and a space
abbrev pub refused_text : List ℕ
refused_text = 114 ∷ 101 ∷ 102 ∷ 117 ∷ 115 ∷ 101 ∷ 100 ∷ 32 ∷ []

-- `refused k`, and a line's end
unfoldable pub refused_line : ℕ → List ℕ
refused_line k = refused_text ++ (decimal k ++ (10 ∷ []))

-- no line is longer: an id of 5 digits, three numbers of 17, a key of 1,024 bytes, five signs between and behind
abbrev pub line_len : ℕ
line_len = 2109
