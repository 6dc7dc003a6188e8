-- `bitpacker::BitPacker::write` meets its contract: below 64 bits nothing leaves, else one word does.
use mathlib.Core.Path.{◌≡◌, refl, sym, ap, ◌∙◌}
use mathlib.Core.List.{List}
use Prim.Native.Nat.{ℕ, ◌+◌, ◌-◌, ◌*◌, ◌/◌, ◌%◌, ◌^◌, ◌≤◌, ◌<◌}
use native.Mathlib.Nat.{div-one, mod-eq_of_lt, lt_of_lt_of_le}
use native.Mathlib.Omega.{arith}
use lib.Bits.{bit_or}
use lib.Pow.{pow_mono}
use lib.Seq.{sets}
use Rattle.serialize.specs.Digits.{digits_of, le_bytes}
use Rattle.bitpacker.specs.declared.BitPacker.{BitPacker}
use Rattle.bitpacker.specs.Packer.{Waiting, joined_to, words_of, leaving, packed_with}
use Rattle.bitpacker.proofs.Words.{low-digits_of, or_word, joined-lt, joined-left}
use Rattle.bitpacker.proofs.BitPacker.write.Goals as goal

same : {b b' f f' w w' : ℕ} → b ≡ b' → f ≡ f' → w ≡ w'
    → ◌≡◌ {A = BitPacker} (record { buffer = b; filled = f; written = w }) (record { buffer = b'; filled = f'; written = w' })
same e g h = cc

-- the word of the code
abbrev word : BitPacker → ℕ → ℕ
word p v = bit_or p.buffer (v * 2 ^ p.filled % 2 ^ 64)

module _ (p : BitPacker) (v n : ℕ) (w : Waiting p) (small : v < 2 ^ n) where
  -- nothing leaves
  kept-packer : p.filled + n < 64
      → ◌≡◌ {A = BitPacker} (record { buffer = word p v; filled = p.filled + n; written = p.written }) (packed_with p v n)
  unfolding packed_with
  kept-packer h =
      let e : words_of p n ≡ 0 = omega arith in
      let fits : joined_to p v < 2 ^ 64 = lt_of_lt_of_le (joined-lt p.buffer v p.filled n w.low small) (pow_mono {j = 64} (omega arith)) in
      same
      (or_word p.buffer v p.filled w.low w.few ∙ mod-eq_of_lt fits ∙ sym (rw e (div-one (joined_to p v))))
      (omega arith)
      (omega arith)

  kept-bytes : (out : List ℕ) → p.filled + n < 64 → out ≡ sets out p.written (leaving p v n)
  unfolding leaving digits_of
  kept-bytes out h =
      let e : words_of p n ≡ 0 = omega arith in
      rw e refl

  -- a word leaves
  left-packer : 64 ≤ p.filled + n → n ≤ 56
      → ◌≡◌ {A = BitPacker} (record { buffer = v / 2 ^ (64 - p.filled); filled = p.filled + n - 64; written = p.written + 8 })
      (packed_with p v n)
  unfolding packed_with
  left-packer h k =
      let e : words_of p n ≡ 1 = omega arith in
      same (sym (rw e (joined-left p.buffer v p.filled w.low (omega arith)))) (omega arith) (omega arith)

  left-bytes : 64 ≤ p.filled + n → n ≤ 56 → le_bytes 8 (word p v) ≡ leaving p v n
  unfolding leaving
  left-bytes h k =
      let e : words_of p n ≡ 1 = omega arith in
      ap (le_bytes 8) (or_word p.buffer v p.filled w.low w.few) ∙ low-digits_of 8 8 (joined_to p v) ∙ sym (rw e refl)

pub returns-then-total-lt64 : goal.returns-then-total-lt64
returns-then-total-lt64 c =
    let start = c in
    let a = start.args in
    let p = start.requires in rw c.from.ensures (
      kept-packer a.self a.value a.num_bits p.0 p.2 (omega arith),
      kept-bytes a.self a.value a.num_bits p.0 p.2 a.out.now (omega arith),
    )

pub returns : goal.returns
returns c =
    let start = c in
    let a = start.args in
    let p = start.requires in rw c.from.ensures (
      left-packer a.self a.value a.num_bits p.0 p.2 (omega arith) p.1,
      c.serialize_u64.ensures
          ∙ ap (sets a.out.now a.self.written) (left-bytes a.self a.value a.num_bits p.0 p.2 (omega arith) p.1),
    )
