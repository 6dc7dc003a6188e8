-- Derivations, widths and what is stored of a value, for any slope: value j, from 0, is that of the point i = j + 1.
use Prim.Native.Nat.{ℕ, zero, suc, ◌+◌, ◌-◌, ◌*◌, ◌^◌, ◌≤◌, ◌<◌}
use mathlib.Core.Path.{◌≡◌}
use mathlib.Core.List.{List, [], ◌∷◌}
use native.Mathlib.Omega.{arith}
use native.Mathlib.Nat.{add-zero, add-suc, suc-add, le-max_left, le-max_right, le_trans, lt_of_le_of_lt, mul-le-mul_left, pow-suc}
use native.Mathlib.Numerals.{add-one, one-add}
use lib.ListN.{length, get_or}
use lib.Pow.{pow_mono}
use Rattle.bitpacker.specs.Bits.{num_bits_of}
use Rattle.slope.specs.Slope.{best_slope, slope_between, derivation, max_derivation, stored_of, width_of}
use Rattle.bitpacker.proofs.NumBits.{num_bits_of-lt, num_bits_of-le}

-- no derivation is above the largest, numbered from i on
pub derivation-le-from : (s i : ℕ) (vs : List ℕ) (j : ℕ) → j < length vs → derivation s (i + j) (get_or vs j 0) ≤ max_derivation s i vs
unfolding max_derivation
derivation-le-from s i [] j h = elim h [ ]
derivation-le-from s i (v ∷ vs) zero h = rw add-zero (le-max_left (derivation s i v) (max_derivation s (suc i) vs))
derivation-le-from s i (v ∷ vs) (suc j) h =
    rw (add-suc, ← suc-add)
    (le_trans (derivation-le-from s (suc i) vs j (omega arith)) (le-max_right (derivation s i v) (max_derivation s (suc i) vs)))

pub derivation-le : (s : ℕ) (vs : List ℕ) (j : ℕ) → j < length vs → derivation s (suc j) (get_or vs j 0) ≤ max_derivation s 1 vs
derivation-le s vs j h = rw one-add at (derivation-le-from s 1 vs j h)

-- and the largest is below what all are below
pub max_derivation-lt-from : (s i b : ℕ) (vs : List ℕ) → 0 < b → ((j : ℕ) → j < length vs → derivation s (i + j) (get_or vs j 0) < b)
    → max_derivation s i vs < b
unfolding max_derivation
max_derivation-lt-from s i b [] pos h = pos
max_derivation-lt-from s i b (v ∷ vs) pos h =
    let first : derivation s i v < b = rw add-zero at (h 0 (omega arith)) in
    let rest : max_derivation s (suc i) vs < b =
    max_derivation-lt-from s (suc i) b vs pos (λ j l. rw (suc-add, ← add-suc) (h (suc j) (omega arith))) in
    omega arith

pub max_derivation-lt : (s b : ℕ) (vs : List ℕ) → 0 < b → ((j : ℕ) → j < length vs → derivation s (suc j) (get_or vs j 0) < b)
    → max_derivation s 1 vs < b
max_derivation-lt s b vs pos h = max_derivation-lt-from s 1 b vs pos (λ j l. rw one-add (h j l))

-- what is stored of the point (i, v) is at least 0 and below 2 ^ w
pub record StoredFits (s w i v : ℕ) : Type 0 where
  pub above : s * i ≤ v + 2 ^ (w - 1)
  pub below : stored_of s w i v < 2 ^ w

-- one bit more than the derivation takes is enough
pub near_fits : (s b i v : ℕ) → derivation s i v < 2 ^ b → StoredFits s (b + 1) i v
unfolding derivation stored_of
near_fits s b i v h =
    let e : b + 1 - 1 ≡ b = omega arith in
    let p : 2 ^ (b + 1) ≡ 2 ^ b * 2 = rw (add-one, pow-suc) in
    record { above = rw e (omega arith); below = rw (e, p) (omega arith) }

pub stored-fits : (s : ℕ) (vs : List ℕ) (j : ℕ) → max_derivation s 1 vs < 2 ^ 64 → j < length vs
    → StoredFits s (width_of s vs) (suc j) (get_or vs j 0)
unfolding width_of
stored-fits s vs j small h =
    near_fits s (num_bits_of (max_derivation s 1 vs)) (suc j) (get_or vs j 0)
    (lt_of_le_of_lt (derivation-le s vs j h) (num_bits_of-lt (max_derivation s 1 vs) small))

-- what the reader undoes
pub stored_back : (s w i v : ℕ) → s * i ≤ v + 2 ^ (w - 1) → stored_of s w i v + s * i ≡ v + 2 ^ (w - 1)
unfolding stored_of
stored_back s w i v h = omega arith

pub stored-inj : (s w i v v' : ℕ) → s * i ≤ v + 2 ^ (w - 1) → s * i ≤ v' + 2 ^ (w - 1) → stored_of s w i v ≡ stored_of s w i v' → v ≡ v'
stored-inj s w i v v' h h' e = omega (arith, stored_back s w i v h, stored_back s w i v' h')

pub width-pos : (s : ℕ) (vs : List ℕ) → 1 ≤ width_of s vs
unfolding width_of
width-pos s vs = omega arith

pub width-none : (s : ℕ) → width_of s [] ≡ 1
unfolding width_of max_derivation
width-none s = omega (arith, num_bits_of-le 0 0 (omega arith) (omega arith))

-- up to 256 values of k bits, with any slope of 32 bits: the derivations have k bits, and the width is at most one more
module _ (s k : ℕ) (vs : List ℕ) (slope : s < 2 ^ 32) (few : length vs ≤ 256) (small : (j : ℕ) → j < length vs → get_or vs j 0 < 2 ^ k)
    (low : 40 ≤ k) where
  pub max_derivation-below : max_derivation s 1 vs < 2 ^ k
  unfolding derivation
  max_derivation-below =
      let p : 2 ^ 40 ≤ 2 ^ k = pow_mono low in
      max_derivation-lt s (2 ^ k) vs (omega arith) (λ j l. omega (arith, small j l, mul-le-mul_left {m = suc j} {n = 256} s (omega arith)))

  pub width-le : k ≤ 55 → width_of s vs ≤ k + 1
  unfolding width_of
  width-le high = omega (arith, num_bits_of-le k (max_derivation s 1 vs) (omega arith) max_derivation-below)

pub best_slope-lt : (vs : List ℕ) → best_slope vs < 2 ^ 32
unfolding best_slope slope_between
best_slope-lt [] = omega arith
best_slope-lt (v ∷ vs) = omega arith
