-- The packer over a group's fields in turn: what the laws of `Packed` and of a group's number make of each pair, and of the end.
use Prim.Native.Nat.{ℕ, suc, ◌+◌, ◌*◌, ◌^◌, ◌≤◌, ◌<◌}
use mathlib.Core.Path.{◌≡◌}
use mathlib.Core.List.{List}
use native.Mathlib.Omega.{arith}
use native.Mathlib.Numerals.{add-one}
use lib.ListN.{length, take, get_or}
use lib.Seq.{sets, take_all}
use Rattle.serialize.specs.Digits.{le_bytes, DigitsBelow}
use Rattle.bitpacker.specs.declared.BitPacker.{BitPacker}
use Rattle.bitpacker.specs.Bits.{bytes_of}
use Rattle.bitpacker.specs.Fields.{group_val, range_bit, ordinal_bit, group_bits}
use Rattle.bitpacker.specs.Packer.{Waiting}
use Rattle.bitpacker.proofs.Packed.{Packed, packed_new, packed-wrote, packed-flushed, packed-room-write, Wrote}
use Rattle.bitpacker.proofs.Fields.{group-none, group-range, group-ordinal, group-bits-none, group-bits-ordinal}
use Rattle.bitpacker.proofs.Fields.{range-within, ordinal-within}
use Rattle.leaf_vectors.specs.Fields.{ranges, ordinals}
use Rattle.leaf_vectors.proofs.Turns.{range_at, ordinal-at, ranges-length, ordinals-length}

-- the packer took the first i pairs, or these and range i
abbrev pub Pairs : ℕ → ℕ → List ℕ → List ℕ → List ℕ → BitPacker → ℕ → Type 0
Pairs r o fs d l p i = Packed d l p (range_bit r o i) (group_val r o (take i (ranges fs)) (take i (ordinals fs)))

abbrev pub PairsRange : ℕ → ℕ → List ℕ → List ℕ → List ℕ → BitPacker → ℕ → Type 0
PairsRange r o fs d l p i = Packed d l p (ordinal_bit r o i) (group_val r o (take (suc i) (ranges fs)) (take i (ordinals fs)))

-- behind the last pair all are taken
pub pairs-all : (r o : ℕ) (fs d l : List ℕ) (p : BitPacker) (i n : ℕ) → Pairs r o fs d l p i → i ≡ n → Pairs r o fs d l p n
pairs-all r o fs d l p i n k e = rw e at k

-- what `write` ensures of a field
-- every field fits its width
pub record Small (r o : ℕ) (fs : List ℕ) : Type 0 where
  pub range : DigitsBelow r (ranges fs)
  pub ordinal : DigitsBelow o (ordinals fs)

pub small_of : {r o : ℕ} {fs : List ℕ} → DigitsBelow r (ranges fs) × DigitsBelow o (ordinals fs) → Small r o fs
small_of h = record { range = h.0; ordinal = h.1 }

module _ {r o : ℕ} {fs : List ℕ} (small : Small r o fs) where
  range_small : (i : ℕ) → get_or fs (2 * i) 0 < 2 ^ r
  range_small i = rw range_at at (small.range i)

  ordinal-small : (i : ℕ) → get_or fs (2 * i + 1) 0 < 2 ^ o
  ordinal-small i = rw ordinal-at at (small.ordinal i)

  pub pairs-none : (d : List ℕ) {p : BitPacker} → (p.buffer ≡ 0) × (p.filled ≡ 0) × (p.written ≡ 0) → Pairs r o fs d d p 0
  pairs-none d e = rw (group-bits-none r o, group-none r o) (packed_new d e)

  module _ {d l : List ℕ} {p : BitPacker} (i : ℕ) (k : Pairs r o fs d l p i) where
    pub range-room : (n : ℕ) → i ≤ n → r ≤ 56 → group_bits r o n ≤ 8 * length d
        → Waiting p × (r ≤ 56) × (get_or fs (2 * i) 0 < 2 ^ r) × (8 * p.written + p.filled + r ≤ 8 * length l)
    range-room n h few room =
        let w = range-within r o i n h in
        packed-room-write k (get_or fs (2 * i) 0) r few (range_small i) (omega arith)

    pub range-wrote : {p' : BitPacker} {l' : List ℕ} → Wrote p l (get_or fs (2 * i) 0) r p' l' → PairsRange r o fs d l' p' i
    range-wrote e =
        let v : get_or fs (2 * i) 0 * 2 ^ range_bit r o i + group_val r o (take i (ranges fs)) (take i (ordinals fs))
        ≡ group_val r o (take (suc i) (ranges fs)) (take i (ordinals fs)) =
        rw (← (range_at fs i)) (group-range r o i (ranges fs) (take i (ordinals fs))) in
        rw v at (packed-wrote k (get_or fs (2 * i) 0) r (range_small i) e)

  module _ {d l : List ℕ} {p : BitPacker} (i : ℕ) (k : PairsRange r o fs d l p i) where
    pub ordinal-room : (n : ℕ) → i < n → o ≤ 56 → group_bits r o n ≤ 8 * length d
        → Waiting p × (o ≤ 56) × (get_or fs (2 * i + 1) 0 < 2 ^ o) × (8 * p.written + p.filled + o ≤ 8 * length l)
    ordinal-room n h few room =
        let w = ordinal-within r o i n h in
        packed-room-write k (get_or fs (2 * i + 1) 0) o few (ordinal-small i) (omega arith)

    pub ordinal-wrote : {p' : BitPacker} {l' : List ℕ} → Wrote p l (get_or fs (2 * i + 1) 0) o p' l' → Pairs r o fs d l' p' (i + 1)
    ordinal-wrote e =
        let v : get_or fs (2 * i + 1) 0 * 2 ^ ordinal_bit r o i + group_val r o (take (suc i) (ranges fs)) (take i (ordinals fs))
        ≡ group_val r o (take (suc i) (ranges fs)) (take (suc i) (ordinals fs)) =
        rw (← (ordinal-at fs i)) (group-ordinal r o i (take (suc i) (ranges fs)) (ordinals fs)) in
        rw (add-one i) (rw (v, group-bits-ordinal r o i) at (packed-wrote k (get_or fs (2 * i + 1) 0) o (ordinal-small i) e))

    -- at the end
    module _ (size : length fs ≡ 2 * i + 1) where
      pub group-flushed : {n : ℕ} {l' : List ℕ}
          → (n ≡ p.written + bytes_of p.filled) × (l' ≡ sets l p.written (le_bytes (bytes_of p.filled) p.buffer))
          → (n ≡ bytes_of (group_bits r o i))
          × (l' ≡ sets d 0 (le_bytes (bytes_of (group_bits r o i)) (group_val r o (ranges fs) (ordinals fs))))
      group-flushed e =
          let all-ranges : take (suc i) (ranges fs) ≡ ranges fs = take_all (suc i) (ranges fs) (omega (arith, ranges-length fs)) in
          let all-ordinals : take i (ordinals fs) ≡ ordinals fs = take_all i (ordinals fs) (omega (arith, ordinals-length fs)) in
          rw (all-ranges, all-ordinals) at (packed-flushed k e)
