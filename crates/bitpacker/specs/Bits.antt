-- Counts of bits and bytes.
use Rattle.std.specs.Prelude.{ℕ, ◌+◌, ◌-◌, ◌/◌, cond, leb}
use Rattle.std.specs.Int.Count.{count_leading_zeros}

-- `compute_num_bits` (SPECIFICATION 6.7): a number's bits; 64 for every number that has more than 56
unfoldable pub num_bits_of : ℕ → ℕ
num_bits_of x = cond (leb (64 - count_leading_zeros 64 x) 56) (64 - count_leading_zeros 64 x) 64

-- how many bytes hold `bits` bits
abbrev pub bytes_of : ℕ → ℕ
bytes_of bits = (bits + 7) / 8
