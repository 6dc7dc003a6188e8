-- Laws of a group's number over every pair of widths: one field more, what each field reads as, and that bytes which begin with
-- the number's give its fields.
use mathlib.Core.Path.{◌≡◌, refl, sym, ap, ◌∙◌}
use mathlib.Core.List.{List, [], ◌∷◌}
use Prim.Native.Nat.{ℕ, zero, suc, ◌+◌, ◌*◌, ◌/◌, ◌%◌, ◌^◌, ◌≤◌, ◌<◌}
use native.Mathlib.Nat.{add_assoc, add_comm, add_left_comm, add-mul, add-zero, zero-add, zero-mul, mul_assoc, mul-zero, mul-suc}
use native.Mathlib.Nat.{mul_right_comm, mul-le-mul_left}
use native.Mathlib.Omega.{arith}
use lib.ListN.{length, take, get_or}
use lib.Dec.{lit<}
use lib.Pow.{pow-add, field, mod-mod-pow, shr-shr, high, low}
use lib.Seq.{ext_get_or, take_all, take-length}
use Rattle.serialize.specs.Digits.{of_digits, le_val, le_bytes, DigitsBelow}
use Rattle.serialize.proofs.Digits.{of_digits-suc, of_digits-take, of_digits-digits_of, of_digits-digit, sub-field}
use Rattle.bitpacker.specs.Bits.{bytes_of}
use Rattle.bitpacker.specs.Fields.{group_val, range_bit, ordinal_bit, group_bits}
use Rattle.bitpacker.proofs.Words.{join-lt}

-- ---- one field more

pub group-none : (r o : ℕ) → group_val r o [] [] ≡ 0
unfolding of_digits
group-none r o = rw zero-mul refl

pub group-range : (r o i : ℕ) (rs os : List ℕ)
    → get_or rs i 0 * 2 ^ range_bit r o i + group_val r o (take i rs) os ≡ group_val r o (take (suc i) rs) os
group-range r o i rs os =
    rw (of_digits-suc (r + o) rs i)
    (add_left_comm (get_or rs i 0 * 2 ^ ((r + o) * i)) (of_digits (r + o) os * 2 ^ r) (of_digits (r + o) (take i rs)))

pub group-ordinal : (r o i : ℕ) (rs os : List ℕ)
    → get_or os i 0 * 2 ^ ordinal_bit r o i + group_val r o rs (take i os) ≡ group_val r o rs (take (suc i) os)
group-ordinal r o i rs os =
    rw (
      of_digits-suc (r + o) os i,
      pow-add 2 ((r + o) * i) r,
      ← (mul_assoc (get_or os i 0) (2 ^ ((r + o) * i)) (2 ^ r)),
      add-mul (get_or os i 0 * 2 ^ ((r + o) * i)) (of_digits (r + o) (take i os)) (2 ^ r),
    )
    (sym (add_assoc (get_or os i 0 * 2 ^ ((r + o) * i) * 2 ^ r) (of_digits (r + o) (take i os) * 2 ^ r) (of_digits (r + o) rs)))

-- where the fields stand: range 0 first, each ordinal behind its range, the next range behind that, and the end behind the last range
pub group-bits-none : (r o : ℕ) → range_bit r o 0 ≡ 0
group-bits-none r o = mul-zero (r + o)

pub group-bits-ordinal : (r o i : ℕ) → ordinal_bit r o i + o ≡ range_bit r o (suc i)
group-bits-ordinal r o i = rw (mul-suc (r + o) i, add_assoc) refl

-- each field lies within the group
pub range-within : (r o i n : ℕ) → i ≤ n → range_bit r o i + r ≤ group_bits r o n
range-within r o i n h = let m = mul-le-mul_left (r + o) h in omega arith

pub ordinal-within : (r o i n : ℕ) → i < n → ordinal_bit r o i + o ≤ group_bits r o n
ordinal-within r o i n h = let m = mul-le-mul_left (r + o) h in let e = group-bits-ordinal r o i in omega arith

-- ---- what each field reads as

-- a group as one list of joint fields
pairs : ℕ → List ℕ → List ℕ → List ℕ
pairs r [] [] = []
pairs r [] (y ∷ os) = (y * 2 ^ r) ∷ pairs r [] os
pairs r (x ∷ rs) [] = x ∷ pairs r rs []
pairs r (x ∷ rs) (y ∷ os) = (y * 2 ^ r + x) ∷ pairs r rs os

pairs-at : (r : ℕ) (rs os : List ℕ) (i : ℕ) → get_or (pairs r rs os) i 0 ≡ get_or os i 0 * 2 ^ r + get_or rs i 0
unfolding pairs
pairs-at r [] [] i = sym (rw (zero-mul (2 ^ r)) refl)
pairs-at r [] (y ∷ os) zero = sym (add-zero (y * 2 ^ r))
pairs-at r [] (y ∷ os) (suc i) = pairs-at r [] os i
pairs-at r (x ∷ rs) [] zero = sym (rw (zero-mul (2 ^ r), zero-add x) refl)
pairs-at r (x ∷ rs) [] (suc i) = pairs-at r rs [] i
pairs-at r (x ∷ rs) (y ∷ os) zero = refl
pairs-at r (x ∷ rs) (y ∷ os) (suc i) = pairs-at r rs os i

-- the sums of a turn, with the products as they are
shuffle : (S M K R y x : ℕ) → (S * M + R) * K + (y * M + x) ≡ (S * K + y) * M + (R * K + x)
shuffle S M K R y x =
    let a = add-mul (S * M) R K in
    let b = add-mul (S * K) y M in
    let c = mul_right_comm S M K in
    omega arith

pairs-val : (k r : ℕ) (rs os : List ℕ) → of_digits k (pairs r rs os) ≡ of_digits k os * 2 ^ r + of_digits k rs
unfolding of_digits pairs
pairs-val k r [] [] = sym (rw (zero-mul (2 ^ r)) refl)
pairs-val k r [] (y ∷ os) =
    rw (pairs-val k r [] os)
    (ap (λ (x : ℕ). (of_digits k os * 2 ^ r + 0) * 2 ^ k + x) (sym (add-zero (y * 2 ^ r)))
    ∙ shuffle (of_digits k os) (2 ^ r) (2 ^ k) 0 y 0 ∙ rw (zero-mul (2 ^ k)) refl)
pairs-val k r (x ∷ rs) [] =
    rw (pairs-val k r rs [], zero-mul (2 ^ r), zero-add (of_digits k rs), zero-add (of_digits k rs * 2 ^ k + x)) refl
pairs-val k r (x ∷ rs) (y ∷ os) = rw (pairs-val k r rs os) (shuffle (of_digits k os) (2 ^ r) (2 ^ k) (of_digits k rs) y x)

-- a field of the number N is what a reader finds in bytes that begin with N's
pub read-written : (l : List ℕ) (b N at n : ℕ) → DigitsBelow 8 l → take (bytes_of b) l ≡ le_bytes (bytes_of b) N → at + n ≤ b
    → le_val l / 2 ^ at % 2 ^ n ≡ N / 2 ^ at % 2 ^ n
read-written l b N at n h e k =
    let m = bytes_of b in
    let low : le_val l % 2 ^ (8 * m) ≡ N % 2 ^ (8 * m) = sym (of_digits-take 8 m l h) ∙ ap le_val e ∙ of_digits-digits_of 8 m N in
    sym (sub-field (le_val l) at n (8 * m) (omega arith))
    ∙ ap (λ (x : ℕ). x / 2 ^ at % 2 ^ n) low
    ∙ sub-field N at n (8 * m) (omega arith)

module _ (r o : ℕ) (rs os : List ℕ) (hr : DigitsBelow r rs) (ho : DigitsBelow o os) where
  -- the joint field i
  joint : (i : ℕ) → group_val r o rs os / 2 ^ range_bit r o i % 2 ^ (o + r) ≡ get_or os i 0 * 2 ^ r + get_or rs i 0
  joint i =
      let fit : DigitsBelow (r + o) (pairs r rs os) =
      λ j. rw (pairs-at r rs os j, add_comm r o) (join-lt (get_or os j 0) o (get_or rs j 0) r (ho j) (hr j)) in
      ap (λ (x : ℕ). x / 2 ^ ((r + o) * i) % 2 ^ (o + r)) (sym (pairs-val (r + o) r rs os))
      ∙ ap (λ (x : ℕ). of_digits (r + o) (pairs r rs os) / 2 ^ ((r + o) * i) % 2 ^ x) (add_comm o r)
      ∙ of_digits-digit (r + o) (pairs r rs os) i fit
      ∙ pairs-at r rs os i

  pub group-read-range : (i : ℕ) → group_val r o rs os / 2 ^ range_bit r o i % 2 ^ r ≡ get_or rs i 0
  group-read-range i =
      sym (mod-mod-pow (group_val r o rs os / 2 ^ ((r + o) * i)) o r)
      ∙ ap (λ (x : ℕ). x % 2 ^ r) (joint i)
      ∙ low (get_or os i 0) r (hr i)

  pub group-read-ordinal : (i : ℕ) → group_val r o rs os / 2 ^ ordinal_bit r o i % 2 ^ o ≡ get_or os i 0
  group-read-ordinal i =
      ap (λ (x : ℕ). x % 2 ^ o) (sym (shr-shr (group_val r o rs os) ((r + o) * i) r))
      ∙ sym (field (group_val r o rs os / 2 ^ ((r + o) * i)) o r)
      ∙ ap (λ (x : ℕ). x / 2 ^ r) (joint i)
      ∙ high (get_or os i 0) r (hr i)

  -- the first i pairs with range i, and the first i pairs
  half_lt : (i : ℕ) → group_val r o (take i rs) (take i os) < 2 ^ range_bit r o i
      → group_val r o (take (suc i) rs) (take i os) < 2 ^ ordinal_bit r o i
  half_lt i h =
      rw (← (group-range r o i rs (take i os)), add_comm (range_bit r o i) r)
      (join-lt (get_or rs i 0) r (group_val r o (take i rs) (take i os)) (range_bit r o i) (hr i) h)

  pairs_lt : (i : ℕ) → group_val r o (take i rs) (take i os) < 2 ^ range_bit r o i
  pairs_lt zero = rw (group-none r o, group-bits-none r o) (lit< tt)
  pairs_lt (suc i) =
      rw (← (group-ordinal r o i (take (suc i) rs) os), ← (group-bits-ordinal r o i), add_comm (ordinal_bit r o i) o)
      (join-lt (get_or os i 0) o (group_val r o (take (suc i) rs) (take i os)) (ordinal_bit r o i) (ho i) (half_lt i (pairs_lt i)))

  -- the number has no more bits than the fields
  pub group-lt : length rs ≡ length os + 1 → group_val r o rs os < 2 ^ group_bits r o (length os)
  group-lt e =
      rw (take_all (suc (length os)) rs (omega arith), take-length os) at (half_lt (length os) (pairs_lt (length os)))

  -- bytes that begin with the group's give each field back
  pub group-read-back : (l : List ℕ) (i : ℕ) → DigitsBelow 8 l
      → take (bytes_of (group_bits r o (length os))) l ≡ le_bytes (bytes_of (group_bits r o (length os))) (group_val r o rs os)
      → (i ≤ length os → le_val l / 2 ^ range_bit r o i % 2 ^ r ≡ get_or rs i 0)
      × (i < length os → le_val l / 2 ^ ordinal_bit r o i % 2 ^ o ≡ get_or os i 0)
  group-read-back l i h e = (
    λ k. read-written l (group_bits r o (length os)) (group_val r o rs os) (range_bit r o i) r h e (range-within r o i (length os) k)
        ∙ group-read-range i,
    λ k. read-written l (group_bits r o (length os)) (group_val r o rs os) (ordinal_bit r o i) o h e (ordinal-within r o i (length os) k)
        ∙ group-read-ordinal i,
  )

-- equal numbers mean equal fields
pub group-inj : (r o : ℕ) (rs rs' os os' : List ℕ) → DigitsBelow r rs → DigitsBelow r rs' → DigitsBelow o os → DigitsBelow o os'
    → length rs ≡ length rs' → length os ≡ length os'
    → group_val r o rs os ≡ group_val r o rs' os' → (rs ≡ rs') × (os ≡ os')
group-inj r o rs rs' os os' hr hr' ho ho' lr lo e = (
  ext_get_or 0 rs rs' lr
      (λ i _. sym (group-read-range r o rs os hr ho i) ∙ ap (λ (x : ℕ). x / 2 ^ range_bit r o i % 2 ^ r) e
      ∙ group-read-range r o rs' os' hr' ho' i),
  ext_get_or 0 os os' lo
      (λ i _. sym (group-read-ordinal r o rs os hr ho i) ∙ ap (λ (x : ℕ). x / 2 ^ ordinal_bit r o i % 2 ^ o) e
      ∙ group-read-ordinal r o rs' os' hr' ho' i),
)
