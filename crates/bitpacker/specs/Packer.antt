-- `BitPacker`: fields joined, the lowest bit first. Whole words of 64 bits leave for the output, the rest waits.
use Rattle.std.specs.Prelude.{ℕ, ◌+◌, ◌*◌, ◌/◌, ◌%◌, ◌^◌, ◌<◌, List}
use Rattle.serialize.specs.Digits.{le_bytes}
use Rattle.bitpacker.specs.declared.BitPacker.{BitPacker}

-- what waits has `filled` bits, fewer than a word
pub record Waiting (p : BitPacker) : Type 0 where
  pub few : p.filled < 64
  pub low : p.buffer < 2 ^ p.filled

-- what waits, with the value behind it
abbrev pub joined_to : BitPacker → ℕ → ℕ
joined_to p value = p.buffer + value * 2 ^ p.filled

-- how many whole words a field of n bits makes of it
abbrev pub words_of : BitPacker → ℕ → ℕ
words_of p n = (p.filled + n) / 64

-- the bytes that leave with a field, and the packer after it
unfoldable pub leaving : BitPacker → ℕ → ℕ → List ℕ
leaving p value n = le_bytes (8 * words_of p n) (joined_to p value)

unfoldable pub packed_with : BitPacker → ℕ → ℕ → BitPacker
packed_with p value n = record {
  buffer = joined_to p value / 2 ^ (64 * words_of p n);
  filled = (p.filled + n) % 64;
  written = p.written + 8 * words_of p n;
}
