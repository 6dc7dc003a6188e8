-- One turn of the loops that read and write a number: one byte more.
use mathlib.Core.Path.{◌≡◌, refl, ap, ◌∙◌}
use mathlib.Core.List.{List}
use Prim.Native.Nat.{ℕ, suc, ◌+◌, ◌-◌, ◌*◌, ◌/◌, ◌%◌, ◌^◌, ◌≤◌, ◌<◌}
use native.Mathlib.Omega.{arith}
use native.Mathlib.Numerals.{add-one}
use lib.ListN.{length, take, drop, get_or, set, length-take, length-drop}
use lib.Seq.{get_or-drop, get_or-take, sets}
use lib.Bits.{bit_or, or_shifted_r}
use lib.Pow.{shl_exact}
use Rattle.serialize.specs.Digits.{digits_of, le_val, le_bytes, DigitsBelow}
use Rattle.serialize.proofs.Digits.{of_digits-suc, of_digits-take-lt, below-drop}

-- the `width` bytes from `at` on: how many they are, and byte i of them
pub part-length : (s : List ℕ) (at width : ℕ) → at + width ≤ length s → length (take (at + width - at) (drop at s)) ≡ width
part-length s at width h = omega (arith, length-take (at + width - at) (drop at s), length-drop at s)

pub part-byte : (s : List ℕ) (at width i : ℕ) → i < width → get_or (take (at + width - at) (drop at s)) i 0 ≡ get_or s (at + i) 0
part-byte s at width i h =
    let within : i < at + width - at = omega arith in
    rw (get_or-take, get_or-drop)

pub or-next-byte : (s : List ℕ) (at i r : ℕ) → DigitsBelow 8 s → i < 8 → r ≡ le_val (take i (drop at s))
    → bit_or r (get_or s (at + i) 0 * 2 ^ (8 * i) % 2 ^ 64) ≡ le_val (take (i + 1) (drop at s))
or-next-byte s at i r h l q =
    ap (bit_or r) (shl_exact 8 (8 * i) 64 (h (at + i)) (omega arith))
    ∙ or_shifted_r (get_or s (at + i) 0) (8 * i) r (rw q (of_digits-take-lt 8 i (drop at s) (below-drop 8 at s h)))
    ∙ rw (add-one i, of_digits-suc, get_or-drop, q) refl

pub store-next-byte : (out : List ℕ) (p left rest x : ℕ) → left ≡ suc rest
    → sets out p (le_bytes left x) ≡ sets (set out p (x % 256)) (p + 1) (le_bytes rest (x / 256))
unfolding digits_of
store-next-byte out p left rest x e = rw (e, add-one p) refl
