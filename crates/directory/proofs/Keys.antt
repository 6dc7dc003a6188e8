-- Laws of the keys of lent areas: how many there are, each of them, the first of them, and where their numbers stand.
use mathlib.Core.Path.{◌≡◌, refl, ap}
use mathlib.Core.List.{List, [], ◌∷◌}
use Prim.Native.Nat.{ℕ, zero, suc, ◌+◌, ◌-◌, ◌*◌, ◌≤◌, ◌<◌}
use native.Mathlib.Nat.{add-zero, add-suc, suc-add, mul-suc, mul-le-mul_left, le_trans, not-suc-le-zero, le_of_suc-le-suc}
use native.Mathlib.Numerals.{add-one}
use native.Mathlib.Omega.{arith}
use lib.ListN.{length, get_or, drop, length-drop}
use lib.Seq.{length-take-le}
use Rattle.directory.specs.Keys.{offset_at, length_at, key_at, keys_at}
use Rattle.directory.specs.Facts.{KeysArea}

module _ (area : List ℕ) (stride field : ℕ) (keys : List ℕ) where
  pub length-keys_at : (i count : ℕ) → length (keys_at area stride field keys i count) ≡ count
  unfolding keys_at
  length-keys_at i zero = refl
  length-keys_at i (suc count) = ap suc (length-keys_at (suc i) count)

  -- key j of those from key i on is key i + j
  pub keys_at-at : (i count j : ℕ) → j < count
      → get_or (keys_at area stride field keys i count) j [] ≡ key_at area stride field keys (i + j)
  unfolding keys_at
  keys_at-at i zero j h = absurd (not-suc-le-zero h)
  keys_at-at i (suc count) zero h = rw (add-zero i) refl
  keys_at-at i (suc count) (suc j) h = rw (add-suc i j, ← (suc-add i j)) (keys_at-at (suc i) count j (le_of_suc-le-suc h))

  -- the keys that are left at key i, the first of them taken off
  pub keys_at-cons : (n i : ℕ) → i < n
      → keys_at area stride field keys i (n - i) ≡ key_at area stride field keys i ∷ keys_at area stride field keys (i + 1) (n - (i + 1))
  keys_at-cons n i h =
      let e : n - i ≡ suc (n - (i + 1)) = omega arith in
      rw (e, add-one i) (unfold keys_at in refl)

  pub keys_at-none : (n i : ℕ) → n ≤ i → keys_at area stride field keys i (n - i) ≡ []
  keys_at-none n i h =
      let e : n - i ≡ 0 = omega arith in
      rw e (unfold keys_at in refl)

  module _ (n : ℕ) (ok : KeysArea area stride field keys n) (i : ℕ) (h : i < n) where
    -- both numbers of key i stand in the area
    pub record-inside : stride * i + stride ≤ length area
    record-inside = le_trans (rw (mul-suc stride i) at (mul-le-mul_left stride h)) ok.inside

    pub length-key_at : length (key_at area stride field keys i) ≡ length_at area stride field i
    length-key_at =
        length-take-le (length_at area stride field i) (drop (offset_at area stride field i) keys)
        (omega (arith, length-drop (offset_at area stride field i) keys, ok.within i h))
