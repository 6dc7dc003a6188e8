-- The number of a refused table, and what a table that is taken has: `table-ok` and `ok-table`.
use mathlib.Core.Path.{◌≡◌, refl, sym, subst}
use mathlib.Core.List.{List, [], ◌∷◌}
use mathlib.Core.Bool.{Bool, false, not, ◌||◌, cond, or_assoc, or-false}
use Prim.Native.Nat.{ℕ, zero, suc, ◌+◌, ◌-◌, ◌*◌, ◌/◌, ◌%◌, ◌≤◌, ◌<◌, min}
use native.Mathlib.Numerals.{add-one}
use native.Mathlib.Omega.{arith}
use lib.Dec.{ltb, leb, eqb}
use lib.ListN.{length, take, drop, get_or, drop_of_length-le, length-take, length-drop}
use lib.Seq.{drop-cons, get_or-drop, get_or-take}
use Rattle.std.proofs.lemmas.Bool.{or_parts, true_from_ne_false}
use borrow.Author.Tests.{le-ltb, lt-leb, eq-eqb, ltb-false, leb-false, eqb-true, not-false}
use Rattle.std.proofs.lemmas.List.{take_rest}
use Rattle.layout.proofs.Rows.{cond-zero}
use Rattle.automaton.specs.Table.{states, flag, any_from, table_no, WellFormed}

-- ---- the loop over a list
module _ (bound : ℕ) (l : List ℕ) (i : ℕ) where
  pub any_step : (found : Bool) → i < length l
      → found || any_from bound (drop i l) ≡ (found || leb bound (get_or l i 0)) || any_from bound (drop (i + 1) l)
  unfolding any_from
  any_step found h = rw (add-one, drop-cons l i 0, or_assoc found (leb bound (get_or l i 0)) (any_from bound (drop (suc i) l)))

  pub any-end : (found : Bool) → length l ≤ i → found || any_from bound (drop i l) ≡ found
  unfolding any_from
  any-end found h = rw (drop_of_length-le l h, or-false found)

-- no element at or above the bound
pub none_from : (bound : ℕ) (l : List ℕ) → any_from bound l ≡ false → (i : ℕ) → i < length l → get_or l i 0 < bound
unfolding any_from
none_from bound [] e i h = absurd (omega arith)
none_from bound (x ∷ l) e zero h = leb-false bound x (or_parts (leb bound x) (any_from bound l) e).0
none_from bound (x ∷ l) e (suc i) h = none_from bound l (or_parts (leb bound x) (any_from bound l) e).1 i (omega arith)

pub all-below : (bound : ℕ) (l : List ℕ) → ((i : ℕ) → i < length l → get_or l i 0 < bound) → any_from bound l ≡ false
unfolding any_from
all-below bound [] f = refl
all-below bound (x ∷ l) f = rw (lt-leb bound x (f 0 (omega arith))) (all-below bound l (λ i h. f (suc i) (omega arith)))

-- ---- row 21
pub record Shape (t : List ℕ) : Type 0 where
  pub some : 1 ≤ states t
  pub few : states t ≤ 64
  pub long : length t ≡ 1 + 257 * states t

abbrev shapeless : List ℕ → Bool
shapeless t = ltb (states t) 1 || (ltb 64 (states t) || not (eqb (length t) (1 + 257 * states t)))

abbrev pub flags_bad : List ℕ → Bool
flags_bad t = any_from 2 (take (states t) (drop 1 t))

abbrev pub next_bad : List ℕ → Bool
next_bad t = any_from (states t) (drop (1 + states t) t)

shaped : (t : List ℕ) → Shape t → shapeless t ≡ false
shaped t s = rw (le-ltb (states t) 1 s.some, le-ltb 64 (states t) s.few, eq-eqb (length t) (1 + 257 * states t) s.long)

shape : (t : List ℕ) → shapeless t ≡ false → Shape t
shape t e =
    let long_bad = not (eqb (length t) (1 + 257 * states t)) in
    let e₁ = or_parts (ltb (states t) 1) (ltb 64 (states t) || long_bad) e in
    let e₂ = or_parts (ltb 64 (states t)) long_bad e₁.1 in
    record {
      some = ltb-false (states t) 1 e₁.0;
      few = ltb-false 64 (states t) e₂.0;
      long = eqb-true (length t) (1 + 257 * states t) (not-false (eqb (length t) (1 + 257 * states t)) e₂.1);
    }

pub is-21 : (t : List ℕ) → (Shape t → ⊥) → 21 ≡ table_no t
unfolding table_no
is-21 t h = rw (true_from_ne_false (shapeless t) (λ e. h (shape t e)))

-- ---- rows 22 and 23
pub past-21 : (t : List ℕ) (f n : Bool) → Shape t → flags_bad t ≡ f → next_bad t ≡ n → cond f 22 (cond n 23 0) ≡ table_no t
unfolding table_no
past-21 t f n s p q = rw (shaped t s, p, q)

-- ---- a table that is taken
pub table-ok : (t : List ℕ) → table_no t ≡ 0 → WellFormed t
unfolding table_no
table-ok t e =
    let r₁ = cond-zero (shapeless t) 20 (cond (flags_bad t) 22 (cond (next_bad t) 23 0)) e in
    let r₂ = cond-zero (flags_bad t) 21 (cond (next_bad t) 23 0) r₁.1 in
    let r₃ = cond-zero (next_bad t) 22 0 r₂.1 in
    let s = shape t r₁.0 in
    record {
      some = s.some;
      few = s.few;
      long = s.long;
      flags = λ k h.
          let f = none_from 2 (take (states t) (drop 1 t)) r₂.0 k (simp (length-take, length-drop) (omega (arith, s.long))) in
          let g : flag t k < 2 = simp (get_or-take, get_or-drop) at f in
          omega arith;
      closed = λ k b hk hb.
          let f = none_from (states t) (drop (1 + states t) t) r₃.0 (k * 256 + b) (simp length-drop (omega (arith, s.long))) in
          let q : 1 + states t + (k * 256 + b) ≡ 1 + states t + k * 256 + b = omega arith in
          subst (λ (i : ℕ). get_or t i 0 < states t) q (rw get_or-drop at f);
    }

pub ok-table : (t : List ℕ) → WellFormed t → table_no t ≡ 0
unfolding table_no
ok-table t w =
    let f : flags_bad t ≡ false = all-below 2 (take (states t) (drop 1 t)) (λ i h. flags-at i (simp length-take at h)) in
    let n : next_bad t ≡ false = all-below (states t) (drop (1 + states t) t) (λ i h. next-at i (simp length-drop at h)) in
    sym (past-21 t false false (record { some = w.some; few = w.few; long = w.long }) f n)
  where
    flags-at : (i : ℕ) → i < min (states t) (length (drop 1 t)) → get_or (take (states t) (drop 1 t)) i 0 < 2
    flags-at i h =
        let l : i < states t = omega arith in
        let g = w.flags i l in
        rw (get_or-take, get_or-drop) (omega arith)

    next-at : (i : ℕ) → i < length t - (1 + states t) → get_or (drop (1 + states t) t) i 0 < states t
    next-at i h =
        let q : 1 + states t + i / 256 * 256 + i % 256 ≡ 1 + states t + i = omega arith in
        rw get_or-drop (subst (λ (k : ℕ). get_or t k 0 < states t) q (w.closed (i / 256) (i % 256) (omega (arith, w.long)) (omega arith)))

-- ---- the parts that the check looks at, as their ranges give them
pub flags-tested : (t : List ℕ) (r : Bool) → r ≡ any_from 2 (take (1 + states t - 1) (drop 1 t)) → flags_bad t ≡ r
flags-tested t r e = let n : 1 + states t - 1 ≡ states t = omega arith in sym (rw n at e)

pub next-tested : (t : List ℕ) (r : Bool) → r ≡ any_from (states t) (take (length t - (1 + states t)) (drop (1 + states t) t))
    → next_bad t ≡ r
next-tested t r e = sym (rw (take_rest t (1 + states t)) at e)
