-- The packer over fields of one width: what the laws of `Packed` and of digits make of each field.
use Prim.Native.Nat.{ℕ, ◌+◌, ◌*◌, ◌^◌, ◌≤◌, ◌<◌}
use mathlib.Core.Path.{◌≡◌}
use mathlib.Core.List.{List}
use native.Mathlib.Nat.{mul-zero, mul-suc, mul-le-mul_left}
use native.Mathlib.Omega.{arith}
use native.Mathlib.Numerals.{add-one}
use lib.ListN.{length, take, get_or}
use lib.Seq.{sets}
use Rattle.serialize.specs.Digits.{of_digits, DigitsBelow}
use Rattle.serialize.proofs.Digits.{of_digits-suc}
use Rattle.bitpacker.specs.declared.BitPacker.{BitPacker}
use Rattle.bitpacker.specs.Packer.{Waiting, leaving, packed_with}
use Rattle.bitpacker.proofs.Packed.{Packed, packed_new, packed-wrote, packed-room-write}

-- the packer took the first i fields
abbrev pub Run : ℕ → List ℕ → List ℕ → List ℕ → BitPacker → ℕ → Type 0
Run w fs d l p i = Packed d l p (w * i) (of_digits w (take i fs))

-- behind the last field all are taken
pub run-all : (w : ℕ) (fs d l : List ℕ) (p : BitPacker) (i n : ℕ) → Run w fs d l p i → i ≡ n → Run w fs d l p n
run-all w fs d l p i n k e = rw e at k

pub run_none : (w : ℕ) (fs d : List ℕ) {p : BitPacker} → (p.buffer ≡ 0) × (p.filled ≡ 0) × (p.written ≡ 0) → Run w fs d d p 0
unfolding of_digits
run_none w fs d e = rw (mul-zero w) (packed_new d e)

module _ (w : ℕ) (fs : List ℕ) (small : DigitsBelow w fs) {d l : List ℕ} {p : BitPacker} (i : ℕ) (k : Run w fs d l p i) where
  pub run_room : i < length fs → w ≤ 56 → w * length fs ≤ 8 * length d
      → Waiting p × (w ≤ 56) × (get_or fs i 0 < 2 ^ w) × (8 * p.written + p.filled + w ≤ 8 * length l)
  run_room h few room =
      let m = mul-le-mul_left w h in
      let e = mul-suc w i in
      packed-room-write k (get_or fs i 0) w few (small i) (omega arith)

  pub run-wrote : {p' : BitPacker} {l' : List ℕ}
      → (p' ≡ packed_with p (get_or fs i 0) w) × (l' ≡ sets l p.written (leaving p (get_or fs i 0) w))
      → Run w fs d l' p' (i + 1)
  run-wrote e = rw (add-one i, mul-suc w i, of_digits-suc w fs i) (packed-wrote k (get_or fs i 0) w (small i) e)
