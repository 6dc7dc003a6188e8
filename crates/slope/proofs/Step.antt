-- The slope of a point (i, v), by where v lies: below s × i it is below s, from s × i + i on above s, and in between s.
use Prim.Native.Nat.{ℕ, suc, ◌+◌, ◌*◌, ◌/◌, ◌%◌, ◌^◌, ◌≤◌, ◌<◌}
use mathlib.Core.Path.{◌≡◌}
use native.Mathlib.Omega.{arith}
use native.Mathlib.Nat.{div-eq_of_lt-le, le-div_iff_mul-le, mod-eq_of_lt, mul-le-mul, suc-mul}
use native.Mathlib.Numerals.{add-one}
use Rattle.std.proofs.lemmas.Nat.{div_below}

-- both ends fit a word
pub room : (s i : ℕ) → s < 2 ^ 32 → i ≤ 2 ^ 31 → s * i + i < 2 ^ 64
room s i hs hi = omega (arith, mul-le-mul {n₁ = s} {m₁ = i} {n₂ = 2 ^ 32} {m₂ = 2 ^ 31} (omega arith) hi)

module _ (s i v : ℕ) (pos : 0 < i) where
  pub below : s < 2 ^ 32 → v < s * i → v / i % 2 ^ 32 < s
  below few h =
      let d = div_below v i s pos h in
      rw (mod-eq_of_lt {n = v / i} {m = 2 ^ 32} (omega arith)) d

  pub at_least : v / i < 2 ^ 32 → s * i ≤ v → s ≤ v / i % 2 ^ 32
  at_least few h = rw (mod-eq_of_lt {n = v / i} {m = 2 ^ 32} few) ((le-div_iff_mul-le {k = i} {x = s} {y = v} pos).1 h)

  pub level : s < 2 ^ 32 → s * i ≤ v → v < s * i + i → v / i % 2 ^ 32 ≡ s
  level few h k =
      let d : v / i ≡ s = div-eq_of_lt-le {k = s} i {m = v} h (rw (add-one, suc-mul) k) in
      rw d (mod-eq_of_lt {n = s} {m = 2 ^ 32} few)

-- a quotient that fits 32 bits
pub fits : (i v : ℕ) → 0 < i → v / 2 ^ 32 < i → v / i < 2 ^ 32
fits i v pos h = div_below v i (2 ^ 32) pos (omega arith)

module _ (s i v : ℕ) (pos : 0 < i) (few : s < 2 ^ 32) where
  pub above : v / i < 2 ^ 32 → s * i + i ≤ v → s < v / i % 2 ^ 32
  above fit h = at_least (suc s) i v pos fit (rw suc-mul h)

  -- of a slope below one that fits 32 bits
  pub above-below : (t : ℕ) → t < 2 ^ 32 → v < t * i → s * i + i ≤ v → s < v / i % 2 ^ 32
  above-below t small h k =
      let d = div_below v i t pos h in
      above (omega arith) k
