-- Laws of the common prefix by words: the trailing zero bits of two words' exclusive or count the bytes that they have in common.
use Prim.Native.Nat.{ℕ, zero, suc, ◌+◌, ◌*◌, ◌/◌, ◌%◌, ◌^◌, ◌≤◌, ◌<◌, min}
use mathlib.Core.Path.{◌≡◌, refl, sym, ap, ◌∙◌}
use mathlib.Core.Bool.{false, not, ◌||◌}
use mathlib.Core.List.{List, [], ◌∷◌}
use native.Mathlib.Nat.{pow-suc, mul-one, suc-add, zero-add, lt_of_not-le}
use native.Mathlib.Omega.{arith}
use lib.Dec.{eqb, ltb}
use lib.Bits.{bit_xor, and_le_l, and_le_r, xor_add_and, xor_self, xor_lt, xor_block, block_half, block_odd, shifted_half, shifted_even}
use lib.Count.{count_trailing_zeros, under, trailing_of_zero}
use lib.ListN.{length, take, drop, get_or, length-drop}
use lib.Seq.{take-take, get_or-drop}
use borrow.Author.Tests.{eqb-true, eqb-false, lt-ltb, le-ltb, ltb-true, ltb-false}
use borrow.Table.Steps.{cases}
use Rattle.serialize.specs.Digits.{of_digits, le_val, DigitsBelow}
use Rattle.serialize.proofs.Digits.{below-drop}
use Rattle.keys.specs.Order.{common_prefix_len}
use Rattle.keys.proofs.Order.{common_prefix_len-take, common_prefix_len-same, common_prefix_len-other}

-- ---- the common prefix of fronts and of what lies behind them

pub common_prefix_len-fronts : (n : ℕ) (a b : List ℕ) → common_prefix_len (take n a) (take n b) ≡ min n (common_prefix_len a b)
unfolding common_prefix_len
common_prefix_len-fronts zero a b = omega arith
common_prefix_len-fronts (suc n) [] b = omega arith
common_prefix_len-fronts (suc n) (x ∷ a) [] = omega arith
common_prefix_len-fronts (suc n) (x ∷ a) (y ∷ b) =
    cases (eqb x y)
    (λ e. let i = common_prefix_len-fronts n a b in simp e (omega arith))
    (λ e. simp e (omega arith))

-- counted from a place within the common prefix on
pub common_prefix_len-behind : (i : ℕ) (a b : List ℕ) → i ≤ common_prefix_len a b → i + common_prefix_len (drop i a) (drop i b) ≡
    common_prefix_len a b
unfolding common_prefix_len
common_prefix_len-behind zero a b h = omega arith
common_prefix_len-behind (suc i) [] b h = absurd (omega arith)
common_prefix_len-behind (suc i) (x ∷ a) [] h = absurd (omega arith)
common_prefix_len-behind (suc i) (x ∷ a) (y ∷ b) h =
    cases (eqb x y)
    (λ e.
    let g : suc i ≤ suc (common_prefix_len a b) = simp e at h in
    let r = common_prefix_len-behind i a b (omega arith) in
    simp e (omega arith))
    (λ e. let g : suc i ≤ 0 = simp e at h in absurd (omega arith))

pub common_prefix_len-front : (n : ℕ) (a b : List ℕ) → n ≤ common_prefix_len a b → take n a ≡ take n b
common_prefix_len-front n a b h =
    sym (take-take n (common_prefix_len a b) a h) ∙ ap (take n) (common_prefix_len-take a b) ∙ take-take n (common_prefix_len a b) b h

-- one byte more, at a place within the common prefix
pub same_byte : (a b : List ℕ) (i : ℕ) → i < length a → i < length b → i ≤ common_prefix_len a b → get_or a i 0 ≡ get_or b i 0 →
    i < common_prefix_len a b
same_byte a b i h k l e = omega (arith, common_prefix_len-behind i a b l, common_prefix_len-same a b i h k e)

pub other_byte : (a b : List ℕ) (i : ℕ) → i < length a → i < length b → i ≤ common_prefix_len a b → (get_or a i 0 ≡ get_or b i 0 → ⊥) →
    i ≡ common_prefix_len a b
other_byte a b i h k l e = omega (arith, common_prefix_len-behind i a b l, common_prefix_len-other a b i h k e)

-- ---- a run of bytes, each compared

-- fewer than n + 1 are in common: fewer than n, or the byte at n differs
run_step : (a b : List ℕ) (n : ℕ) → n < length a → n < length b
    → ltb (common_prefix_len a b) n || not (eqb (get_or a n 0) (get_or b n 0)) ≡ ltb (common_prefix_len a b) (n + 1)
run_step a b n h k =
    cases (ltb (common_prefix_len a b) n)
    (λ e. rw (e, lt-ltb (common_prefix_len a b) (n + 1) (omega (arith, ltb-true))))
    (λ e.
    let l : n ≤ common_prefix_len a b = ltb-false (common_prefix_len a b) n e in
    cases (eqb (get_or a n 0) (get_or b n 0))
    (λ f. rw (
      e,
      f,
      le-ltb (common_prefix_len a b) (n + 1) (omega (
        arith,
        same_byte a b n h k l (eqb-true (get_or a n 0) (get_or b n 0)
            f),
      )),
    ))
    (λ f. rw (
      e,
      f,
      lt-ltb (common_prefix_len a b) (n + 1) (omega (
        arith,
        other_byte a b n h k l (eqb-false (get_or a n 0) (get_or b n 0)
            f),
      )),
    )))

-- the same, n bytes from the place `at` on
pub run-step-at : (a b : List ℕ) (at n : ℕ) → at + n < length a → at + n < length b
    → ltb (common_prefix_len (drop at a) (drop at b)) n || not (eqb (get_or a (at + n) 0) (get_or b (at + n) 0)) ≡ ltb (common_prefix_len
    (drop at a) (drop at b)) (n + 1)
run-step-at a b at n h k =
    rw (← (get_or-drop at a n 0), ← (get_or-drop at b n 0))
    (run_step (drop at a) (drop at b) n (omega (arith, length-drop at a)) (omega (arith, length-drop at b)))

-- a run that is in common
pub same-run : (a b : List ℕ) (at n : ℕ) → at ≤ common_prefix_len a b → ltb (common_prefix_len (drop at a) (drop at b)) n ≡ false →
    at + n ≤ common_prefix_len a b
same-run a b at n l e = omega (arith, common_prefix_len-behind at a b l, ltb-false (common_prefix_len (drop at a) (drop at b)) n e)

-- ---- trailing zeros

-- j zero bits below
trailing-shifted : (j k m : ℕ) → count_trailing_zeros (j + k) (m * 2 ^ j) ≡ j + count_trailing_zeros k m
unfolding count_trailing_zeros
trailing-shifted zero k m = rw (zero-add k, mul-one m) (omega arith)
trailing-shifted (suc j) k m = rw (suc-add j k, shifted_even m j, shifted_half m j, trailing-shifted j k m) (omega arith)

-- a set bit among the j lowest
trailing-low : (j k m d : ℕ) → 0 < d → d < 2 ^ j → count_trailing_zeros (j + k) (m * 2 ^ j + d) < j
unfolding count_trailing_zeros
trailing-low zero k m d p h = absurd (omega arith)
trailing-low (suc j) k m d p h =
    let t = count_trailing_zeros (j + k) (m * 2 ^ j + d / 2) in
    let i : 0 < d / 2 → t < j = λ q. trailing-low j k m (d / 2) q (omega (arith, pow-suc 2 j)) in
    rw (suc-add j k, block_odd m j d, block_half m j d) (go (d % 2) refl t i)
  where
    go : (r : ℕ) → d % 2 ≡ r → (t : ℕ) → (0 < d / 2 → t < j) → under r t < suc j
    go zero e t i = let l = i (omega arith) in omega arith
    go (suc r) e t i = omega arith

xor-zero : (a b : ℕ) → bit_xor a b ≡ 0 → a ≡ b
xor-zero a b e = omega (arith, xor_add_and a b, and_le_l a b, and_le_r a b)

-- ---- words

-- two words, by their lowest bytes x and y
module _ (n a b x y : ℕ) (f : x < 2 ^ 8) (g : y < 2 ^ 8) where
  parts : count_trailing_zeros (8 * suc n) (bit_xor (a * 2 ^ 8 + x) (b * 2 ^ 8 + y)) ≡ count_trailing_zeros (8 + 8 * n) (bit_xor a b * 2 ^
      8 + bit_xor x y)
  parts = let e : 8 * suc n ≡ 8 + 8 * n = omega arith in rw (e, xor_block 8 a b x y f g)

  lowest-same : x ≡ y → count_trailing_zeros (8 * suc n) (bit_xor (a * 2 ^ 8 + x) (b * 2 ^ 8 + y)) / 8 ≡ suc (count_trailing_zeros (8 * n)
      (bit_xor a b) / 8)
  lowest-same e =
      let z : bit_xor a b * 2 ^ 8 + bit_xor x y ≡ bit_xor a b * 2 ^ 8 = rw (e, xor_self y) (omega arith) in
      let t = trailing-shifted 8 (8 * n) (bit_xor a b) in
      rw (parts, z, t) (omega arith)

  lowest-differ : (x ≡ y → ⊥) → count_trailing_zeros (8 * suc n) (bit_xor (a * 2 ^ 8 + x) (b * 2 ^ 8 + y)) / 8 ≡ 0
  lowest-differ e =
      let d : bit_xor x y ≡ 0 → ⊥ = λ z. e (xor-zero x y z) in
      let p : 0 < bit_xor x y = omega (arith, d) in
      let t = trailing-low 8 (8 * n) (bit_xor a b) (bit_xor x y) p (xor_lt 8 x y f g) in
      rw parts (omega arith)

-- the n first bytes in common, by the two words that they spell
pub common_prefix_len-word : (n : ℕ) (a b : List ℕ) → DigitsBelow 8 a → DigitsBelow 8 b → n ≤ length a → n ≤ length b
    → count_trailing_zeros (8 * n) (bit_xor (le_val (take n a)) (le_val (take n b))) / 8 ≡ common_prefix_len (take n a) (take n b)
unfolding of_digits common_prefix_len
common_prefix_len-word zero a b f g h k = unfold count_trailing_zeros in refl
common_prefix_len-word (suc n) [] b f g h k = absurd (omega arith)
common_prefix_len-word (suc n) (x ∷ a) [] f g h k = absurd (omega arith)
common_prefix_len-word (suc n) (x ∷ a) (y ∷ b) f g h k =
    cases (eqb x y)
    (λ e.
    simp e
    (lowest-same n (le_val (take n a)) (le_val (take n b)) x y (f 0) (g 0) (eqb-true x y e)
    ∙ ap suc (common_prefix_len-word n a b (λ i. f (suc i)) (λ i. g (suc i)) (omega arith) (omega arith))))
    (λ e. simp e (lowest-differ n (le_val (take n a)) (le_val (take n b)) x y (f 0) (g 0) (eqb-false x y e)))

-- eight bytes more
module _ (a b : List ℕ) (f : DigitsBelow 8 a) (g : DigitsBelow 8 b) (i : ℕ) (h : i + 8 ≤ length a) (k : i + 8 ≤ length b) where
  pub word_count : count_trailing_zeros 64 (bit_xor (le_val (take 8 (drop i a))) (le_val (take 8 (drop i b)))) / 8 ≡ min 8
      (common_prefix_len (drop i a) (drop i b))
  word_count =
      common_prefix_len-word 8 (drop i a) (drop i b) (below-drop 8 i a f) (below-drop 8 i b g) (omega (
        arith,
        length-drop i a,
      )) (omega (arith, length-drop i b))
      ∙ common_prefix_len-fronts 8 (drop i a) (drop i b)

  pub same_word : i ≤ common_prefix_len a b → le_val (take 8 (drop i a)) ≡ le_val (take 8 (drop i b)) → i + 8 ≤ common_prefix_len a b
  same_word l e =
      let w : bit_xor (le_val (take 8 (drop i a))) (le_val (take 8 (drop i b))) ≡ 0 = rw e (xor_self (le_val (take 8 (drop i b)))) in
      let t : 64 / 8 ≡ min 8 (common_prefix_len (drop i a) (drop i b)) = sym (ap (λ (x : ℕ).
      x / 8) (ap (count_trailing_zeros 64) w ∙ trailing_of_zero 64)) ∙ word_count in
      omega (arith, common_prefix_len-behind i a b l)

  pub other_word : i ≤ common_prefix_len a b → (le_val (take 8 (drop i a)) ≡ le_val (take 8 (drop i b)) → ⊥) → common_prefix_len a b < i + 8
  other_word l d =
      lt_of_not-le
      (λ m. d (ap le_val (common_prefix_len-front 8 (drop i a) (drop i b) (omega (arith, common_prefix_len-behind i a b l)))))
