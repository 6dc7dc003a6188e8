-- Words that a loop builds: bit by bit, and by setting the bits that it meets.
use mathlib.Core.Path.{◌≡◌, sym, ap, ◌∙◌, subst}
use mathlib.Core.Logic.{⊎_elim}
use Prim.Native.Nat.{ℕ, zero, suc, ◌+◌, ◌*◌, ◌%◌, ◌^◌, ◌<◌}
use native.Mathlib.Nat.{pow-suc, le_refl, zero-mul}
use native.Mathlib.Numerals.{add-one}
use native.Mathlib.Omega.{arith}
use lib.Dec.{lit<}
use lib.Bits.{bit_or, or_zero_r}
use Rattle.std.proofs.lemmas.Nat.{one_shl}
use Rattle.std.proofs.lemmas.Bool.{cases_eq}
use Rattle.automaton.specs.Bits.{bit}
use Rattle.automaton.proofs.Word.{bit-lt, bit-zero, bit-top, bit-set, bit-set-other, bit-pow}
use Rattle.automaton.proofs.Word.{bit-pow-other, bit-or, or_set, shl-bit}

-- ---- w has n bits, and bit k is f k
pub record Filled (f : ℕ → ℕ) (n w : ℕ) : Type 0 where
  pub small : w < 2 ^ n
  pub at : (k : ℕ) → k < n → bit w k ≡ f k

pub filled_none : (f : ℕ → ℕ) → Filled f 0 0
filled_none f = record { small = lit< tt; at = λ k h. absurd (omega arith) }

module _ {f : ℕ → ℕ} {n w : ℕ} (i : Filled f n w) where
  pub filled-clear : bit w n ≡ 0
  filled-clear = bit-top n w n i.small (le_refl n)

  pub filled_zero : f n ≡ 0 → Filled f (n + 1) w
  filled_zero e = record {
    small = rw (add-one, pow-suc) (omega (arith, i.small));
    at = λ k h. ⊎_elim (λ q. subst (λ (x : ℕ). bit w x ≡ f x) (sym q) (filled-clear ∙ sym e)) (λ d. i.at k (omega arith)) (cases_eq k n);
  }

  pub filled-one : f n ≡ 1 → Filled f (n + 1) (w + 2 ^ n)
  filled-one e = record {
    small = rw (add-one, pow-suc) (omega (arith, i.small));
    at = λ k h. ⊎_elim
        (λ q. subst (λ (x : ℕ). bit (w + 2 ^ n) x ≡ f x) (sym q) (bit-set w n filled-clear ∙ sym e))
        (λ d. bit-set-other w n k filled-clear d ∙ i.at k (omega arith))
        (cases_eq k n);
  }

  -- `w | (x << n)`
  pub filled_more : (x : ℕ) → x ≡ f n → x < 2 → n < 64 → Filled f (n + 1) (bit_or w ((x * 2 ^ n) % 2 ^ 64))
  filled_more zero e h l =
      subst (λ (v : ℕ). Filled f (n + 1) v) (sym (ap (bit_or w) (shl-bit 0 n h l ∙ zero-mul (2 ^ n)) ∙ or_zero_r w)) (filled_zero (sym e))
  filled_more (suc zero) e h l =
      subst (λ (v : ℕ). Filled f (n + 1) v) (sym (ap (bit_or w) (one_shl n 64 l) ∙ or_set w n filled-clear)) (filled-one (sym e))
  filled_more (suc (suc x)) e h l = absurd (omega arith)

-- ---- the bits of w are f 0 to f (n - 1) and no others
pub record Holds (f : ℕ → ℕ) (n w : ℕ) : Type 0 where
  pub has : (k : ℕ) → k < n → bit w (f k) ≡ 1
  pub only : (s : ℕ) → bit w s ≡ 1 → (k : ℕ) × (k < n) × (f k ≡ s)

pub holds-none : (f : ℕ → ℕ) → Holds f 0 0
holds-none f = record { has = λ k h. absurd (omega arith); only = λ s e. let z = bit-zero s in absurd (omega arith) }

-- `w | (1 << f n)`
pub holds_more : {f : ℕ → ℕ} {n w : ℕ} → Holds f n w → f n < 64 → Holds f (n + 1) (bit_or w ((1 * 2 ^ f n) % 2 ^ 64))
holds_more {f} {n} {w} i h = rw (one_shl (f n) 64 h) (record {
  has = λ k l. ⊎_elim
      (λ q. subst (λ (x : ℕ). bit (bit_or w (2 ^ f n)) (f x) ≡ 1) (sym q) (bit-or w (2 ^ f n) (f n)
      ∙ omega (arith, bit-pow (f n), bit-lt w (f n))))
      (λ d. bit-or w (2 ^ f n) (f k) ∙ omega (arith, i.has k (omega arith), bit-lt (2 ^ f n) (f k)))
      (cases_eq k n);
  only = λ s e. ⊎_elim
      (λ q. (n, omega arith, sym q))
      (λ d.
      let b : bit w s ≡ 1 = omega (arith, bit-or w (2 ^ f n) s, bit-pow-other (f n) s d) in
      let (k, l, g) = i.only s b in
      (k, omega arith, g))
      (cases_eq s (f n));
})
