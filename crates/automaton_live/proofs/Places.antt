-- The nearest of n places, from those that a loop has passed; and of eights of them, from the nearest of one.
use Rattle.std.proofs.Common.{Option, None, Some, ◌≡◌, ℕ, zero, suc, ◌^◌, lit≤, ◌+◌, ◌-◌, ◌*◌, ◌/◌, ◌%◌, ◌<◌}
use Rattle.std.proofs.Common.{◌≤◌, List, Bool, true, false, ◌⊎◌, inl, inr, ⊎_elim, sym, subst, arith, ap, ◌∙◌, get_or}
use Rattle.std.proofs.lemmas.Bool.{cases_eq, cases_lt}
use Rattle.serialize.specs.Digits.{DigitsBelow}
use Rattle.automaton.specs.Bits.{bit}
use Rattle.automaton.specs.Table.{WellFormed, states, next}
use Rattle.automaton.specs.Words.{CanMatch, Reach}
use lib.ListN.{replicate, length-replicate, get_or-replicate}
use Rattle.automaton.specs.Live.{Firsts, Ends}
use Rattle.automaton.proofs.Word.{bit-off, bit-top}
use Rattle.automaton.proofs.Eights.{eight_at, Blank, blank-new, blank-used}
use Rattle.automaton_live.specs.Nearest.{place, Before, Nearest}

-- P holds at none of the first i places
abbrev pub Past : (P : ℕ → Type 0) (back : Bool) (n i : ℕ) → Type 0
Past P back n i = (m : ℕ) → m < i → P (place back n m) → ⊥

-- a place that comes before the i-th is one of the first i
before-place : (back : Bool) (n i k : ℕ) → i < n → k < n → Before back k (place back n i) → (m : ℕ) × (m < i) × (place back n m ≡ k)
before-place true n i k h l b = (n - 1 - k, omega arith, omega arith)
before-place false n i k h l b = (k, b, omega arith)

all-places : (back : Bool) (n k : ℕ) → k < n → (m : ℕ) × (m < n) × (place back n m ≡ k)
all-places true n k l = (n - 1 - k, omega arith, omega arith)
all-places false n k l = (k, l, omega arith)

pub place-lt : (back : Bool) (n i : ℕ) → i < n → place back n i < n
place-lt true n i h = omega arith
place-lt false n i h = h

module _ (P : ℕ → Type 0) (back : Bool) (n : ℕ) where
  pub past-more : (i v : ℕ) → v ≡ place back n i → Past P back n i → (P v → ⊥) → Past P back n (i + 1)
  past-more i v is f g m h =
      ⊎_elim (λ d. f m d) (λ d. let e : i ≡ m = omega arith in subst (λ (x : ℕ). P (place back n x) → ⊥) e (λ q. g (subst P (sym is) q)))
      (cases_lt m i)

-- ---- the 256 bytes as 32 eights
abbrev pub InEight : (P : ℕ → Type 0) (e : ℕ) → Type 0
InEight P e = (j : ℕ) × (j < 8) × P (8 * e + j)

-- a place before one of an eight is in that eight, or in one before it
before-eight : (back : Bool) (e j k : ℕ) → j < 8 → Before back k (8 * e + j) → ((k / 8 ≡ e) × Before back (k % 8) j) ⊎ Before back (k / 8) e
before-eight true e j k l b = ⊎_elim (λ d. inl (d, omega arith)) (λ d. inr (omega (arith, d))) (cases_eq (k / 8) e)
before-eight false e j k l b = ⊎_elim (λ d. inl (d, omega arith)) (λ d. inr (omega (arith, d))) (cases_eq (k / 8) e)

module _ (P : ℕ → Type 0) (back : Bool) where
  eights-at : (i j : ℕ) → i < 32 → Nearest (λ k. P (8 * place back 32 i + k)) back 8 (Some j) → Past (InEight P) back 32 i
      → Nearest P back 256 (Some (8 * place back 32 i + j))
  eights-at i j h n f =
      let e = place back 32 i in
      let l = place-lt back 32 i h in (
        omega (arith, n.0),
        n.1,
        λ k g b p.
            let whole : 8 * (k / 8) + k % 8 ≡ k = omega arith in
            ⊎_elim
            (λ d. n.2 (k % 8) (omega arith) d.1 (let q : 8 * e + k % 8 ≡ k = omega (arith, d.0) in subst P (sym q) p))
            (λ d. let (m, y, z) = before-place back 32 i (k / 8) h (omega arith) d in f m y (
              k % 8,
              omega arith,
              let q : 8 * place back 32 m + k % 8 ≡ k = omega (arith, z) in subst P (sym q) p,
            ))
            (before-eight back e j k n.0 b),
      )

  pub eights-here : (i e j : ℕ) → i < 32 → e ≡ place back 32 i → Nearest (λ k. P (8 * e + k)) back 8 (Some j) → Past (InEight P) back 32 i
      → Nearest P back 256 (Some (8 * e + j))
  eights-here i e j h is n f =
      subst (λ (x : ℕ). Nearest P back 256 (Some (8 * x + j))) (sym is)
      (eights-at i j h (subst (λ (x : ℕ). Nearest (λ k. P (8 * x + k)) back 8 (Some j)) is n) f)

  pub eights-none : Past (InEight P) back 32 32 → Nearest P back 256 None
  eights-none f k l p =
      let (m, y, z) = all-places back 32 (k / 8) (omega arith) in
      f m y (k % 8, omega arith, let q : 8 * place back 32 m + k % 8 ≡ k = omega (arith, z) in subst P (sym q) p)

-- ---- the eight next states of the bytes from b on, in the state's row, by their bits in the word of those that can match
module _ {t : List ℕ} (wf : WellFormed t) (s : ℕ) (hs : s < states t) (row : List ℕ) (is : (b : ℕ) → b < 256 → get_or row b 0 ≡ next t s b)
    (b : ℕ) (fit : b + 8 ≤ 256) where
  pub eight-below : (j : ℕ) → j < 8 → get_or row (b + j) 0 < 64
  eight-below j h = omega (arith, is (b + j) (omega arith), wf.few, wf.closed s (b + j) hs (omega arith))

  module _ {reach : ℕ} (r : Reach t reach) where
    bit-next : (j : ℕ) → j < 8 → bit reach (get_or row (b + j) 0) ≡ bit reach (next t s (b + j))
    bit-next j h = ap (bit reach) (is (b + j) (omega arith))

    pub eight-some : (back : Bool) (j : ℕ) → Nearest (λ j. bit reach (get_or row (b + j) 0) ≡ 1) back 8 (Some j)
        → Nearest (λ k. CanMatch t (next t s (b + k))) back 8 (Some j)
    eight-some back j n = (
      n.0,
      r.up (next t s (b + j)) (wf.closed s (b + j) hs (omega (arith, n.0))) (sym (bit-next j n.0) ∙ n.1),
      λ k l g m. n.2 k l g (bit-next k l ∙ r.down (next t s (b + k)) (wf.closed s (b + k) hs (omega arith)) m),
    )

    -- eight that equal a word of none that can match
    pub eight-blank : DigitsBelow 8 row → (eight : ℕ) → eight ≡ eight_at row b → Blank reach eight
        → (j : ℕ) × (j < 8) × CanMatch t (next t s (b + j)) → ⊥
    eight-blank small eight e f x =
        let m = r.down (next t s (b + x.0)) (wf.closed s (b + x.0) hs (omega (arith, x.1))) x.2 in
        let one = bit-next x.0 x.1 ∙ m in
        omega (arith, one, blank-used row small reach b eight e f x.0 x.1)

pub eight-new : (t : List ℕ) (reach at : ℕ) → DigitsBelow 8 t → (back : Bool) (eight : ℕ) → eight ≡ eight_at t at
    → Nearest (λ j. bit reach (get_or t (at + j) 0) ≡ 1) back 8 None → Blank reach eight
eight-new t reach at small back eight e n = blank-new t small reach at eight e (λ j h. bit-off reach (get_or t (at + j) 0) (n j h))

-- no next state is 255
pub blank-none : (reach : ℕ) → reach < 2 ^ 64 → Blank reach 18446744073709551615
blank-none reach h zero l = bit-top 64 reach 255 h (lit≤ tt)
blank-none reach h (suc zero) l = bit-top 64 reach 255 h (lit≤ tt)
blank-none reach h (suc (suc zero)) l = bit-top 64 reach 255 h (lit≤ tt)
blank-none reach h (suc (suc (suc zero))) l = bit-top 64 reach 255 h (lit≤ tt)
blank-none reach h (suc (suc (suc (suc zero)))) l = bit-top 64 reach 255 h (lit≤ tt)
blank-none reach h (suc (suc (suc (suc (suc zero))))) l = bit-top 64 reach 255 h (lit≤ tt)
blank-none reach h (suc (suc (suc (suc (suc (suc zero)))))) l = bit-top 64 reach 255 h (lit≤ tt)
blank-none reach h (suc (suc (suc (suc (suc (suc (suc zero))))))) l = bit-top 64 reach 255 h (lit≤ tt)
blank-none reach h (suc (suc (suc (suc (suc (suc (suc (suc j)))))))) l = absurd (omega arith)

-- ---- the lists in which nothing is worked out yet
none-known : (s x : ℕ) → s < 64 → get_or (replicate {A = Option ℕ} 64 None) s None ≡ Some x → ⊥
none-known s x h e = let n : get_or (replicate {A = Option ℕ} 64 None) s None ≡ None = get_or-replicate 64 s None None h in cc

module _ {t : List ℕ} (ok : WellFormed t) where
  pub firsts-unknown : Firsts t (replicate 64 None)
  firsts-unknown = record
      { long = length-replicate {A = Option ℕ} 64 None; each = λ s x h e. absurd (none-known s x (omega (arith, ok.few)) e) }

  pub ends-unknown : Ends t (replicate 64 None)
  ends-unknown = record
      { long = length-replicate {A = Option ℕ} 64 None; each = λ s x h e. absurd (none-known s x (omega (arith, ok.few)) e) }
