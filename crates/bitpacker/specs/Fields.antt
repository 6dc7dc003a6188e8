-- A group's fields as one number (SPECIFICATION 6.9), range and ordinal in turn and a range at the end, and where each stands in it.
use Rattle.std.specs.Prelude.{ℕ, ◌+◌, ◌*◌, ◌^◌, List}
use Rattle.serialize.specs.Digits.{of_digits}

-- ranges of r bits and ordinals of o bits in turn, the lowest bits first; there is one range more
abbrev pub group_val : ℕ → ℕ → List ℕ → List ℕ → ℕ
group_val r o ranges ordinals = of_digits (r + o) ordinals * 2 ^ r + of_digits (r + o) ranges

-- the first bit of range i and of ordinal i, from 0, and the bits of all fields with n ordinals
abbrev pub range_bit : ℕ → ℕ → ℕ → ℕ
range_bit r o i = (r + o) * i

abbrev pub ordinal_bit : ℕ → ℕ → ℕ → ℕ
ordinal_bit r o i = (r + o) * i + r

abbrev pub group_bits : ℕ → ℕ → ℕ → ℕ
group_bits r o n = (r + o) * n + r
