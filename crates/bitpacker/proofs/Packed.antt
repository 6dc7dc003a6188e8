-- The packer's invariant: what it took is one number, whose whole words stand at the front of the output and whose rest waits.
use mathlib.Core.Path.{◌≡◌, refl, sym, ap, ◌∙◌}
use mathlib.Core.List.{List}
use Prim.Native.Nat.{ℕ, ◌+◌, ◌*◌, ◌/◌, ◌%◌, ◌^◌, ◌≤◌, ◌<◌}
use native.Mathlib.Nat.{add_comm, zero-add, mul_assoc, mul-add-mod_self_right, mul-add-div_right, div-lt_iff_lt-mul}
use native.Mathlib.Omega.{arith}
use lib.Dec.{lit<}
use lib.ListN.{length, take}
use lib.Pow.{pow-add, pow_pos, shr_lt, shr-shr}
use lib.Seq.{sets, length-sets}
use Rattle.serialize.specs.Digits.{digits_of, le_bytes}
use Rattle.serialize.proofs.Digits.{length-digits_of, digits_of-add}
use Rattle.serialize.proofs.Stores.{sets-append, sets-part}
use Rattle.bitpacker.specs.declared.BitPacker.{BitPacker}
use Rattle.bitpacker.specs.Bits.{bytes_of}
use Rattle.bitpacker.specs.Packer.{Waiting, joined_to, words_of, leaving, packed_with}
use Rattle.bitpacker.proofs.Words.{low-digits_of, joined-lt}

-- what `write` ensures of a value of w bits
abbrev pub Wrote : BitPacker → List ℕ → ℕ → ℕ → BitPacker → List ℕ → Type 0
Wrote p l v w p' l' = (p' ≡ packed_with p v w) × (l' ≡ sets l p.written (leaving p v w))

-- p took b bits that spell N; d is the output as it was, and l as it is
pub record Packed (d l : List ℕ) (p : BitPacker) (b N : ℕ) : Type 0 where
  pub waiting : Waiting p
  pub count : 8 * p.written + p.filled ≡ b
  pub out : l ≡ sets d 0 (le_bytes p.written N)
  pub rest : p.buffer ≡ N / 2 ^ (8 * p.written)

pub packed_new : (d : List ℕ) {p : BitPacker} → (p.buffer ≡ 0) × (p.filled ≡ 0) × (p.written ≡ 0) → Packed d d p 0 0
unfolding digits_of
packed_new d {p} e = record {
  waiting = record { few = omega arith; low = rw (e.0, e.1) (lit< tt) };
  count = omega arith;
  out = rw e.2 refl;
  rest = rw (e.0, e.2) refl;
}

-- bytes of a number behind bytes of another that has the same low bits
more_bytes : (d : List ℕ) (w j N M : ℕ) → M % 2 ^ (8 * w) ≡ N % 2 ^ (8 * w)
    → sets (sets d 0 (le_bytes w N)) w (le_bytes j (M / 2 ^ (8 * w))) ≡ sets d 0 (le_bytes (w + j) M)
more_bytes d w j N M e =
    let low : le_bytes w N ≡ le_bytes w M = sym (low-digits_of 8 w N) ∙ ap (digits_of 8 w) (sym e) ∙ low-digits_of 8 w M in
    let run = sets-append d (le_bytes w M) (le_bytes j (M / 2 ^ (8 * w))) 0 in
    rw (low, digits_of-add 8 w j M) (rw (zero-add (length (le_bytes w M)), length-digits_of 8 w M) at run)

module _ {d l : List ℕ} {p : BitPacker} {b N : ℕ} (k : Packed d l p b N) where
  pub packed-length : length l ≡ length d
  packed-length = ap length k.out ∙ length-sets d 0 (le_bytes p.written N)

  -- what it took has no more than b bits
  pub packed-small : N < 2 ^ b
  packed-small =
      let low = k.waiting.low in
      let h : N / 2 ^ (8 * p.written) < 2 ^ p.filled = rw k.rest at low in
      rw (← k.count, add_comm (8 * p.written) p.filled, pow-add 2 p.filled (8 * p.written)) ((div-lt_iff_lt-mul (pow_pos (8 * p.written))).0 h)

  -- a field more
  pub packed-write : (v n : ℕ) → v < 2 ^ n → Packed d (sets l p.written (leaving p v n)) (packed_with p v n) (b + n) (v * 2 ^ b + N)
  unfolding leaving packed_with
  packed-write v n small =
      let w = p.written in
      let f = p.filled in
      let W = words_of p n in
      let M = v * 2 ^ b + N in
      let apart : M ≡ v * 2 ^ f * 2 ^ (8 * w) + N =
      rw (← k.count, add_comm (8 * w) f, pow-add 2 f (8 * w), ← (mul_assoc v (2 ^ f) (2 ^ (8 * w)))) refl in
      let up : M / 2 ^ (8 * w) ≡ joined_to p v =
      rw (apart, mul-add-div_right (pow_pos (8 * w)) (v * 2 ^ f) N, ← k.rest) (add_comm (v * 2 ^ f) p.buffer) in
      let low : M % 2 ^ (8 * w) ≡ N % 2 ^ (8 * w) = rw apart (mul-add-mod_self_right (v * 2 ^ f) (2 ^ (8 * w)) N) in
      let size : f + n ≡ (f + n) % 64 + 64 * W = omega arith in
      let at-end : 8 * w + 64 * W ≡ 8 * (w + 8 * W) = omega arith in
      record {
        waiting = record {
          few = omega arith;
          low = shr_lt ((f + n) % 64) (64 * W) (rw size at (joined-lt p.buffer v f n k.waiting.low small));
        };
        count = omega arith;
        out = rw (k.out, ← up) (more_bytes d w (8 * W) N M low);
        rest = rw (← up) (shr-shr M (8 * w) (64 * W) ∙ ap (λ (m : ℕ). M / 2 ^ m) at-end);
      }

  -- the same from what `write` ensures
  pub packed-wrote : (v n : ℕ) {p' : BitPacker} {l' : List ℕ} → v < 2 ^ n → (p' ≡ packed_with p v n)
      × (l' ≡ sets l p.written (leaving p v n))
      → Packed d l' p' (b + n) (v * 2 ^ b + N)
  packed-wrote v n small e = rw (e.0, e.1) (packed-write v n small)

  -- the last bytes
  pub packed-flush : (p.written + bytes_of p.filled ≡ bytes_of b)
      × (sets l p.written (le_bytes (bytes_of p.filled) p.buffer) ≡ sets d 0 (le_bytes (bytes_of b) N))
  packed-flush =
      let e : p.written + bytes_of p.filled ≡ bytes_of b = omega arith in
      (e, rw (k.out, k.rest, ← e) (more_bytes d p.written (bytes_of p.filled) N N refl))

  -- the same from what `flush` ensures
  pub packed-flushed : {r : ℕ} {l' : List ℕ} → (r ≡ p.written + bytes_of p.filled)
      × (l' ≡ sets l p.written (le_bytes (bytes_of p.filled) p.buffer))
      → (r ≡ bytes_of b) × (l' ≡ sets d 0 (le_bytes (bytes_of b) N))
  packed-flushed e = (e.0 ∙ packed-flush.0, e.1 ∙ packed-flush.1)

  -- what `write` and `flush` require
  pub packed-room-write : (v n : ℕ) → n ≤ 56 → v < 2 ^ n → b + n ≤ 8 * length d
      → Waiting p × (n ≤ 56) × (v < 2 ^ n) × (8 * p.written + p.filled + n ≤ 8 * length l)
  packed-room-write v n few small room = (k.waiting, few, small, omega (arith, packed-length))

  pub packed-room-flush : b ≤ 8 * length d → Waiting p × (p.written + bytes_of p.filled ≤ length l)
  packed-room-flush room = (k.waiting, omega (arith, packed-length))

-- what `flush` leaves, as a reader finds it
pub packed-front : (d : List ℕ) (b N : ℕ) → b ≤ 8 * length d
    → take (bytes_of b) (sets d 0 (le_bytes (bytes_of b) N)) ≡ le_bytes (bytes_of b) N
packed-front d b N room =
    let e = length-digits_of 8 (bytes_of b) N in
    rw e at (sets-part d (le_bytes (bytes_of b) N) 0 (omega arith))
