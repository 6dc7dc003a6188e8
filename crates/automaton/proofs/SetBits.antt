-- The set bits of a word, the lowest first: the step that takes one, and what holds of those that a loop has passed.
use mathlib.Core.Path.{◌≡◌, refl, sym, ap, ◌∙◌, subst}
use mathlib.Core.Logic.{◌≢◌, ⊎_elim}
use Prim.Native.Nat.{ℕ, ◌-◌, ◌^◌, ◌<◌}
use native.Mathlib.Omega.{arith}
use lib.Bits.{bit_and}
use lib.Count.{count_trailing_zeros}
use lib.Pow.{pow_pos}
use Rattle.std.proofs.lemmas.Bool.{cases_eq}
use Rattle.automaton.specs.Bits.{bit}
use Rattle.automaton.specs.SetBits.{TookLowest}
use Rattle.automaton.proofs.Word.{bit_below, bit-trailing, bit-under, bit-zero, bit-clear-other, bit-cleared, and-pred}

pub took-lowest : (w : ℕ) → 0 < w → w < 2 ^ 64 → TookLowest w (count_trailing_zeros 64 w) (bit_and w (w - 1))
took-lowest w p h =
    let set = bit-trailing 64 w p h in
    let e = and-pred 64 w p h in
    record {
      below = bit_below 64 w (count_trailing_zeros 64 w) h set;
      counted = refl;
      set = set;
      lowest = bit-under 64 w;
      rest = e;
      falls = omega (arith, e, pow_pos (count_trailing_zeros 64 w));
    }

-- ---- of the set bits of w those of `left` are still to come, and P holds of the others
pub record Passed (P : ℕ → Type 0) (w left : ℕ) : Type 0 where
  pub sub : (s : ℕ) → bit left s ≡ 1 → bit w s ≡ 1
  pub done : (s : ℕ) → bit w s ≡ 1 → bit left s ≡ 0 → P s

pub passed_none : {P : ℕ → Type 0} (w : ℕ) → Passed P w w
passed_none w = record { sub = λ s e. e; done = λ s e z. absurd (omega arith) }

pub passed-more : {P Q : ℕ → Type 0} {w left : ℕ} → Passed P w left → (s : ℕ) → bit left s ≡ 1 → ((k : ℕ) → k ≢ s → P k → Q k) → Q s
    → Passed Q w (left - 2 ^ s)
passed-more {P} {Q} {w} {left} i s e f q = record {
  sub = λ k g. i.sub k (bit-cleared left s k e g);
  done = λ k g z. ⊎_elim (λ x. subst Q (sym x) q) (λ n. f k n (i.done k g (sym (bit-clear-other left s k e n) ∙ z))) (cases_eq k s);
}

pub passed-all : {P : ℕ → Type 0} {w left : ℕ} → Passed P w left → left ≡ 0 → (s : ℕ) → bit w s ≡ 1 → P s
passed-all i z s e = i.done s e (ap (λ (x : ℕ). bit x s) z ∙ bit-zero s)
