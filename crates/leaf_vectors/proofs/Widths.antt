-- Fields that fit their widths, from a test of each.
use Prim.Native.Nat.{ℕ, zero, suc, ◌+◌, ◌*◌, ◌/◌, ◌%◌, ◌^◌, ◌<◌}
use mathlib.Core.Path.{◌≡◌}
use mathlib.Core.Bool.{cond}
use mathlib.Core.List.{List, [], ◌∷◌}
use native.Mathlib.Nat.{div-lt_iff_lt-mul, one-mul}
use native.Mathlib.Omega.{arith}
use borrow.Author.Tests.{eq-eqb, ne_eqb}
use lib.Dec.{eqb}
use lib.ListN.{length, get_or}
use lib.Pow.{pow_pos}
use Rattle.serialize.specs.Digits.{DigitsBelow}
use Rattle.leaf_vectors.specs.Fields.{ranges, ordinals}
use Rattle.leaf_vectors.proofs.Turns.{range_at, ordinal-at}

-- the width of field k of fields in turn
abbrev pub width : ℕ → ℕ → ℕ → ℕ
width r o k = cond (eqb (k % 2) 0) r o

-- a number whose bits from k on are 0
pub low_bits : (x k : ℕ) → x / 2 ^ k ≡ 0 → x < 2 ^ k
low_bits x k e =
    let h : x / 2 ^ k < 1 = omega arith in
    rw one-mul at ((div-lt_iff_lt-mul (pow_pos k)).0 h)

-- what is behind the end is 0
all-below : (w : ℕ → ℕ) (fs : List ℕ) → ((k : ℕ) → k < length fs → get_or fs k 0 < 2 ^ w k) → (k : ℕ) → get_or fs k 0 < 2 ^ w k
all-below w [] h k = pow_pos (w k)
all-below w (x ∷ fs) h zero = h 0 (omega arith)
all-below w (x ∷ fs) h (suc k) = all-below (λ j. w (suc j)) fs (λ j l. h (suc j) (omega arith)) k

module _ (r o : ℕ) (fs : List ℕ) (h : (k : ℕ) → k < length fs → get_or fs k 0 < 2 ^ width r o k) where
  pub fit-ranges : DigitsBelow r (ranges fs)
  fit-ranges i =
      let e : 2 * i % 2 ≡ 0 = omega arith in
      rw (range_at fs i) (rw (eq-eqb (2 * i % 2) 0 e) at (all-below (width r o) fs h (2 * i)))

  pub fit-ordinals : DigitsBelow o (ordinals fs)
  fit-ordinals i =
      let e : (2 * i + 1) % 2 ≡ 0 → ⊥ = λ z. omega arith in
      rw (ordinal-at fs i) (rw (ne_eqb ((2 * i + 1) % 2) 0 e) at (all-below (width r o) fs h (2 * i + 1)))
