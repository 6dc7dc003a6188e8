-- Loops over the set bits of a word: which bits they set in an array of words, and what a first look at the rows finds and keeps.
use mathlib.Core.Path.{◌≡◌, refl, sym, ap, ◌∙◌, subst}
use mathlib.Core.List.{List}
use mathlib.Core.Logic.{◌≢◌, ⊎_elim}
use Prim.Native.Nat.{ℕ, zero, suc, ◌-◌, ◌*◌, ◌%◌, ◌^◌, ◌<◌}
use native.Mathlib.Omega.{arith}
use lib.Bits.{bit_and, bit_or, or_lt}
use lib.ListN.{length, get_or, set, replicate, length-set}
use lib.Pow.{pow-lt, pow_pos}
use lib.Seq.{get_or-set_same, get_or-set_other}
use Rattle.std.proofs.lemmas.Nat.{one_shl}
use Rattle.std.proofs.lemmas.Bool.{cases_eq}
use Rattle.automaton.specs.Bits.{bit}
use Rattle.automaton.specs.Table.{states, next}
use Rattle.automaton.specs.Words.{CanMatch}
use Rattle.automaton.proofs.Word.{bit_below, bit-lt, bit-off, bit-zero, bit-clear, bit-clear-other}
use Rattle.automaton.proofs.Word.{bit-or, bit-pow, bit-pow-other, or-keeps, and-some}
use Rattle.automaton.proofs.SetBits.{Passed, passed_none, passed-more}
use Rattle.automaton.proofs.Built.{Holds}
use Rattle.automaton.proofs.Strings.{can-match-step}

-- ---- bit p is set in the words of the states passed; the other words are as they were
abbrev Put : ℕ → (old new : List ℕ) → ℕ → Type 0
Put p old new s = get_or new s 0 ≡ bit_or (get_or old s 0) (2 ^ p)

pub record Marked (p w left : ℕ) (old new : List ℕ) : Type 0 where
  pub long : length new ≡ length old
  pub put : Passed (Put p old new) w left
  pub kept : (s : ℕ) → (bit w s ≡ 1 → bit left s ≡ 1) → get_or new s 0 ≡ get_or old s 0

-- `words[s] |= 1 << p`
pub marked_more : {p w left : ℕ} {old new : List ℕ} → Marked p w left old new → (s : ℕ) → bit left s ≡ 1 → s < length new → p < 64
    → (rest : ℕ) → rest ≡ left - 2 ^ s → Marked p w rest old (set new s (bit_or (get_or new s 0) ((1 * 2 ^ p) % 2 ^ 64)))
marked_more {p} {w} {left} {old} {new} i s e l h rest is = rw (is, one_shl p 64 h) (record {
  long = length-set new s (bit_or (get_or new s 0) (2 ^ p)) ∙ i.long;
  put = passed-more i.put s e (λ k n g. other k n ∙ g) (get_or-set_same new s (bit_or (get_or new s 0) (2 ^ p)) 0 l
      ∙ ap (λ (x : ℕ). bit_or x (2 ^ p)) (i.kept s (λ g. e)));
  kept = λ k f. ⊎_elim
      (λ q. absurd (let y = f (ap (bit w) q ∙ i.put.sub s e) in let z = bit-clear left s e in let y' = ap (bit (left - 2 ^ s)) (sym q)
      ∙ y in omega arith))
      (λ n. other k n ∙ i.kept k (λ g. sym (bit-clear-other left s k e n) ∙ f g))
      (cases_eq k s);
})
  where
    other : (k : ℕ) → k ≢ s → get_or (set new s (bit_or (get_or new s 0) (2 ^ p))) k 0 ≡ get_or new k 0
    other k n = get_or-set_other new s k (bit_or (get_or new s 0) (2 ^ p)) 0 n

-- ---- the states found by a first look: the accepting ones, and those with a next state that is found
pub record Sound (t : List ℕ) (accepting found : ℕ) : Type 0 where
  pub small : found < 2 ^ states t
  pub has : (s : ℕ) → bit accepting s ≡ 1 → bit found s ≡ 1
  pub sound : (s : ℕ) → bit found s ≡ 1 → CanMatch t s

-- `found | (1 << p)`, where a next state of p is found
pub sound_more : {t : List ℕ} {accepting found : ℕ} → Sound t accepting found → (p : ℕ) → p < states t → p < 64
    → (row : ℕ) → ((s : ℕ) → bit row s ≡ 1 → (b : ℕ) × (b < 256) × (next t p b ≡ s)) → bit_and row found ≢ 0
    → Sound t accepting (bit_or found ((1 * 2 ^ p) % 2 ^ 64))
sound_more {t} {accepting} {found} i p l l' row only n = rw (one_shl p 64 l') (record {
  small = or_lt (states t) found (2 ^ p) i.small (pow-lt l);
  has = λ s e. or-keeps found (2 ^ p) s (i.has s e);
  sound = λ s e. ⊎_elim
      (λ q. subst (CanMatch t) (sym q) mine)
      (λ d. i.sound s (omega (arith, bit-or found (2 ^ p) s, bit-pow-other p s d)))
      (cases_eq s p);
})
  where
    mine : CanMatch t p
    mine =
        let (s, e, f) = and-some (states t) row found i.small n in
        let (b, h, q) = only s e in
        can-match-step p b h (subst (CanMatch t) (sym q) (i.sound s f))

-- ---- each state of w passed is found, or the words have it at its next states
abbrev Leads : List ℕ → ℕ → List ℕ → ℕ → Type 0
Leads t found words p = bit found p ≡ 0 → (b : ℕ) → b < 256 → bit (get_or words (next t p b) 0) p ≡ 1

pub record Led (t : List ℕ) (w left found : ℕ) (words : List ℕ) : Type 0 where
  pub leads : Passed (Leads t found words) w left
  pub only : (p s : ℕ) → bit (get_or words s 0) p ≡ 1 → (b : ℕ) × (b < 256) × (next t p b ≡ s)
  pub small : (s : ℕ) → get_or words s 0 < 2 ^ states t

pub zeros : (n s : ℕ) → ◌≡◌ {A = ℕ} (get_or (replicate n 0) s 0) 0
zeros zero s = refl
zeros (suc n) zero = refl
zeros (suc n) (suc s) = zeros n s

pub led-none : (t : List ℕ) (w found : ℕ) (words : List ℕ) → ((s : ℕ) → get_or words s 0 ≡ 0) → Led t w w found words
led-none t w found words none = record {
  leads = passed_none w;
  only = λ p s e. let z = ap (λ (x : ℕ). bit x p) (none s) ∙ bit-zero p in absurd (omega arith);
  small = λ s. subst (λ (x : ℕ). x < 2 ^ states t) (sym (none s)) (pow_pos (states t));
}

-- a state that is still to come is one of the table's
pub led-below : {t : List ℕ} {w left found : ℕ} {words : List ℕ} → Led t w left found words → w < 2 ^ states t → (p : ℕ) → bit left p ≡ 1
    → p < states t
led-below {t} {w} i h p e = bit_below (states t) w p h (i.leads.sub p e)

-- one turn: p is found
pub led-found : {t : List ℕ} {w left found : ℕ} {words : List ℕ} → Led t w left found words → (p : ℕ) → bit left p ≡ 1 → p < 64
    → (rest : ℕ) → rest ≡ left - 2 ^ p → Led t w rest (bit_or found ((1 * 2 ^ p) % 2 ^ 64)) words
led-found {t} {w} {left} {found} {words} i p e l rest is = rw (is, one_shl p 64 l) (record {
  leads = passed-more i.leads p e
      (λ q n f z. f (omega (arith, bit-or found (2 ^ p) q)))
      (λ z. absurd (omega (arith, bit-or found (2 ^ p) p, bit-pow p)));
  only = i.only;
  small = i.small;
})

-- one turn: bit p is set in the words of the next states of p
pub led-more : {t : List ℕ} {w left found : ℕ} {words new : List ℕ} → Led t w left found words → (p : ℕ) → bit left p ≡ 1 → p < states t
    → (row : ℕ) → Holds (next t p) 256 row
    → ((s : ℕ) → bit row s ≡ 1 → Put p words new s)
    → ((s : ℕ) → bit row s ≡ 0 → get_or new s 0 ≡ get_or words s 0)
    → (rest : ℕ) → rest ≡ left - 2 ^ p → Led t w rest found new
led-more {t} {w} {left} {found} {words} {new} i p e l row h put kept rest is = rw is (record {
  leads = passed-more i.leads p e (λ q n f z b g. grown (next t q b) q (f z b g)) (λ z b g. mine (next t p b) (h.has b g));
  only = λ q s g. by_row s (old q s g) (marks q s g);
  small = λ s. by_row s (λ z. subst (λ (x : ℕ). x < 2 ^ states t) (sym (kept s z)) (i.small s))
      (λ o. subst (λ (x : ℕ). x < 2 ^ states t) (sym (put s o)) (or_lt (states t) (get_or words s 0) (2 ^ p) (i.small s) (pow-lt l)));
})
  where
    by_row : {C : Type 0} (s : ℕ) → (bit row s ≡ 0 → C) → (bit row s ≡ 1 → C) → C
    by_row s f g = ⊎_elim g (λ n. f (bit-off row s n)) (cases_eq (bit row s) 1)

    grown : (s q : ℕ) → bit (get_or words s 0) q ≡ 1 → bit (get_or new s 0) q ≡ 1
    grown s q g = by_row s
        (λ z. ap (λ (x : ℕ). bit x q) (kept s z) ∙ g)
        (λ o. ap (λ (x : ℕ). bit x q) (put s o) ∙ or-keeps (get_or words s 0) (2 ^ p) q g)

    mine : (s : ℕ) → bit row s ≡ 1 → bit (get_or new s 0) p ≡ 1
    mine s o =
        ap (λ (x : ℕ). bit x p) (put s o) ∙ bit-or (get_or words s 0) (2 ^ p) p ∙ omega (arith, bit-pow p, bit-lt (get_or words s 0) p)

    old : (q s : ℕ) → bit (get_or new s 0) q ≡ 1 → bit row s ≡ 0 → (b : ℕ) × (b < 256) × (next t q b ≡ s)
    old q s g z = i.only q s (sym (ap (λ (x : ℕ). bit x q) (kept s z)) ∙ g)

    marks : (q s : ℕ) → bit (get_or new s 0) q ≡ 1 → bit row s ≡ 1 → (b : ℕ) × (b < 256) × (next t q b ≡ s)
    marks q s g o = ⊎_elim
        (λ x. subst (λ (y : ℕ). (b : ℕ) × (b < 256) × (next t y b ≡ s)) (sym x) (h.only s o))
        (λ n. i.only q s (let a = ap (λ (x : ℕ). bit x q) (put s o)
        ∙ bit-or (get_or words s 0) (2 ^ p) q in let b = bit-pow-other p q n in omega (arith, a, b, g, bit-lt (get_or words s 0) q)))
        (cases_eq q p)
