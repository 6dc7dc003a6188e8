-- The worklist: f has the states found, w those of them that wait; each state that leads by a byte to a found state that does not
-- wait is found.
use mathlib.Core.Path.{◌≡◌, sym, ◌∙◌, subst}
use mathlib.Core.List.{List, [], ◌∷◌}
use mathlib.Core.Logic.{◌≢◌, ⊎_elim}
use Prim.Native.Nat.{ℕ, ◌+◌, ◌-◌, ◌^◌, ◌≤◌, ◌<◌, min}
use native.Mathlib.Omega.{arith}
use lib.Bits.{bit_and, bit_or, and_lt, and_le_l, or_lt, or_disjoint}
use lib.Pow.{pow_pos, pow_mono}
use Rattle.std.proofs.lemmas.Bool.{cases_eq}
use Rattle.automaton.specs.Bits.{bit}
use Rattle.automaton.specs.Table.{WellFormed, states, flag, next}
use Rattle.automaton.specs.Words.{Bytes, run, CanMatch, Reach}
use Rattle.automaton.proofs.Word.{bit-lt, bit-off, bit-zero, bit_below, bit-has, bit-clear-other}
use Rattle.automaton.proofs.Word.{bit-cleared, bit-or, or-keeps, bit-and, bit_not, bits-zero}
use Rattle.automaton.proofs.Strings.{can-match-here, can-match-step}

pub record Work (t : List ℕ) (f w : ℕ) : Type 0 where
  pub small : f < 2 ^ states t
  pub small-w : w < 2 ^ states t
  pub sub : (q : ℕ) → bit w q ≡ 1 → bit f q ≡ 1
  pub sound : (q : ℕ) → bit f q ≡ 1 → CanMatch t q
  pub flags : (q : ℕ) → q < states t → flag t q ≡ 1 → bit f q ≡ 1
  pub closed : (q b : ℕ) → q < states t → b < 256 → bit f (next t q b) ≡ 1 → bit w (next t q b) ≡ 0 → bit f q ≡ 1

-- what is added: the states of l that f has not
abbrev pub added : ℕ → ℕ → ℕ
added l f = bit_and l (2 ^ 64 - 1 - f)

-- l is put to the states found, and to v, which is left of those that wait; the measure falls
abbrev pub Turned : List ℕ → (f w l v : ℕ) → Type 0
Turned t f w l v =
    Work t (bit_or f (added l f)) (bit_or v (added l f)) × (2 ^ 64 + bit_or v (added l f) - bit_or f (added l f) < 2 ^ 64 + w - f)

module _ (l f : ℕ) (hl : l < 2 ^ 64) (hf : f < 2 ^ 64) where
  pub added_new : (q : ℕ) → bit (added l f) q ≡ 1 → (bit l q ≡ 1) × (bit f q ≡ 0)
  added_new q e =
      let a = bit-and l (2 ^ 64 - 1 - f) q in
      let b : bit l q ≡ 1 = omega (arith, bit-lt l q) in
      let n = bit_not 64 f q hf (bit_below 64 l q hl b) in
      (b, omega (arith, bit-lt f q))

  pub added-all : (q : ℕ) → bit l q ≡ 1 → bit f q ≡ 0 → bit (added l f) q ≡ 1
  added-all q b z = bit-and l (2 ^ 64 - 1 - f) q ∙ omega (arith, bit_not 64 f q hf (bit_below 64 l q hl b))

or_apart : (k a b : ℕ) → a < 2 ^ k → b < 2 ^ k → ((q : ℕ) → bit a q ≡ 1 → bit b q ≡ 0) → bit_or a b ≡ a + b
or_apart k a b ha hb d = or_disjoint a b (bits-zero k (bit_and a b) (and_lt k a b ha hb) (λ q. bit-and a b q ∙ none q))
  where
    none : (q : ℕ) → min (bit a q) (bit b q) ≡ 0
    none q = ⊎_elim (λ e. let z = d q e in omega arith) (λ n. omega (arith, bit-lt a q)) (cases_eq (bit a q) 1)

module _ {t : List ℕ} where
  -- all that are found wait
  pub work_start : {f : ℕ} → f < 2 ^ states t → ((q : ℕ) → q < states t → flag t q ≡ 1 → bit f q ≡ 1)
      → ((q : ℕ) → bit f q ≡ 1 → CanMatch t q) → Work t f f
  work_start h g c = record {
    small = h;
    small-w = h;
    sub = λ q e. e;
    sound = c;
    flags = g;
    closed = λ q b hq hb e₁ e₀. absurd (omega arith);
  }

  pub fits : {f : ℕ} → WellFormed t → f < 2 ^ states t → f < 2 ^ 64
  fits wf h = let g : 2 ^ states t ≤ 2 ^ 64 = pow_mono {i = states t} {j = 64} wf.few in omega arith

  -- one turn: s no longer waits, and the states of l, which lead to s, are added: all that do so and are not found are in it
  module _ {f w : ℕ} (wf : WellFormed t) (i : Work t f w) (s : ℕ) (hs : bit w s ≡ 1) (l : ℕ) (hl : l < 2 ^ states t)
      (from : (q b : ℕ) → q < states t → bit f q ≡ 0 → b < 256 → next t q b ≡ s → bit l q ≡ 1)
      (to : (q : ℕ) → bit l q ≡ 1 → (b : ℕ) × (b < 256) × (next t q b ≡ s)) where
    added-small : added l f < 2 ^ states t
    added-small = omega (arith, and_le_l l (2 ^ 64 - 1 - f))

    left-waits : (q : ℕ) → bit (w - 2 ^ s) q ≡ 1 → bit w q ≡ 1
    left-waits q = bit-cleared w s q hs

    new : (q : ℕ) → bit (added l f) q ≡ 1 → (bit l q ≡ 1) × (bit f q ≡ 0)
    new = added_new l f (fits wf hl) (fits wf i.small)

    old-kept : (q : ℕ) → bit f q ≡ 1 → bit (bit_or f (added l f)) q ≡ 1
    old-kept q = or-keeps f (added l f) q

    new-kept : (q : ℕ) → bit (added l f) q ≡ 1 → bit (bit_or f (added l f)) q ≡ 1
    new-kept q e = bit-or f (added l f) q ∙ omega (arith, bit-lt f q)

    -- a state that leads to s is found already, or it is added
    from-kept : (q b : ℕ) → q < states t → b < 256 → next t q b ≡ s → bit (bit_or f (added l f)) q ≡ 1
    from-kept q b hq hb e =
        ⊎_elim (λ z. new-kept q (added-all l f (fits wf hl) (fits wf i.small) q (from q b hq z hb e) z))
        (λ n. old-kept q (omega (arith, bit-lt f q))) (cases_eq (bit f q) 0)

    in-or : (a q : ℕ) (C : Type 0) → (bit a q ≡ 1 → C) → (bit (added l f) q ≡ 1 → C) → bit (bit_or a (added l f)) q ≡ 1 → C
    in-or a q C g h e = ⊎_elim g (λ n. h (omega (arith, bit-or a (added l f) q, bit-lt a q, bit-lt (added l f) q))) (cases_eq (bit a q) 1)

    work-kept : Work t (bit_or f (added l f)) (bit_or (w - 2 ^ s) (added l f))
    work-kept = record {
      small = or_lt (states t) f (added l f) i.small added-small;
      small-w = or_lt (states t) (w - 2 ^ s) (added l f) (omega (arith, i.small-w)) added-small;
      sub = λ q e. in-or (w - 2 ^ s) q (bit (bit_or f (added l f)) q ≡ 1) (λ g. old-kept q (i.sub q (left-waits q g))) (new-kept q) e;
      sound = λ q e. in-or f q (CanMatch t q) (i.sound q) (λ g. leads q (to q (new q g).0)) e;
      flags = λ q h e. old-kept q (i.flags q h e);
      closed = λ q b hq hb e₁ e₀. ⊎_elim (from-kept q b hq hb) (λ n. old-kept q (still q b hq hb n e₁ e₀)) (cases_eq (next t q b) s);
    }
      where
        leads : (q : ℕ) → (b : ℕ) × (b < 256) × (next t q b ≡ s) → CanMatch t q
        leads q (b, h, e) = can-match-step q b h (subst (λ (x : ℕ). CanMatch t x) (sym e) (i.sound s (i.sub s hs)))

        still : (q b : ℕ) → q < states t → b < 256 → next t q b ≢ s → bit (bit_or f (added l f)) (next t q b) ≡ 1
            → bit (bit_or (w - 2 ^ s) (added l f)) (next t q b) ≡ 0 → bit f q ≡ 1
        still q b hq hb n e₁ e₀ =
            let x = next t q b in
            let o = bit-or (w - 2 ^ s) (added l f) x in
            let p = bit-or f (added l f) x in
            i.closed q b hq hb (omega arith) (sym (bit-clear-other w s x hs n) ∙ omega arith)

    -- both words grow by the same, so that only s counts
    work-less : 2 ^ 64 + bit_or (w - 2 ^ s) (added l f) - bit_or f (added l f) < 2 ^ 64 + w - f
    work-less =
        let hf = fits wf i.small in
        let p = pow_pos s in
        let h = bit-has w s hs in
        let e₁ = or_apart (states t) f (added l f) i.small added-small apart in
        let e₂ =
        or_apart (states t) (w - 2 ^ s) (added l f) (omega (arith, i.small-w)) added-small (λ q g. apart q (i.sub q (left-waits q g))) in
        omega arith
      where
        apart : (q : ℕ) → bit f q ≡ 1 → bit (added l f) q ≡ 0
        apart q g = bit-off (added l f) q (λ e. let z = (new q e).1 in omega arith)

    pub work-turn : (v : ℕ) → v ≡ w - 2 ^ s → Turned t f w l v
    work-turn v e = rw e (work-kept, work-less)

  -- ---- nothing waits any more
  all_found : {f : ℕ} → WellFormed t → Work t f 0 → (w : List ℕ) (q : ℕ) → q < states t → Bytes w → flag t (run t q w) ≡ 1 → bit f q ≡ 1
  unfolding run
  all_found wf i [] q hq bs e = i.flags q hq e
  all_found wf i (b ∷ w) q hq bs e =
      i.closed q b hq bs.0 (all_found wf i w (next t q b) (wf.closed q b hq bs.0) bs.1 e) (bit-zero (next t q b))

  pub work-done : {f : ℕ} → WellFormed t → Work t f 0 → Reach t f
  work-done wf i = record {
    up = λ q hq e. i.sound q e;
    down = λ q hq m. all_found wf i m.string q hq m.hits.bytes m.hits.ends;
  }

  -- ---- the accepting states, where none is there or no other
  module _ {f : ℕ} (wf : WellFormed t) (h : f < 2 ^ states t) (g : (s : ℕ) → s < states t → bit f s ≡ flag t s) where
    pub flags-match : (q : ℕ) → bit f q ≡ 1 → CanMatch t q
    flags-match q e = can-match-here (sym (g q (bit_below (states t) f q h e)) ∙ e)

    start : Work t f f
    start = work_start h (λ q l e. g q l ∙ e) flags-match

    pub work_none : f ≡ 0 → Reach t f
    work_none z = work-done wf (subst (Work t f) z start)

    pub work-all : ((q : ℕ) → q < states t → bit f q ≡ 1) → Reach t f
    work-all all =
        work-done wf (record {
          small = h;
          small-w = pow_pos (states t);
          sub = λ q e. let z = bit-zero q in absurd (omega arith);
          sound = start.sound;
          flags = start.flags;
          closed = λ q b hq hb e₁ e₀. all q hq;
        })

  -- a state that is not found does not accept
  pub not_found : {f w : ℕ} → WellFormed t → Work t f w → (q : ℕ) → q < states t → bit f q ≡ 0 → flag t q ≡ 0
  not_found wf i q hq z =
      ⊎_elim (λ e. let o = i.flags q hq e in absurd (omega arith)) (λ n. omega (arith, wf.flags q hq)) (cases_eq (flag t q) 1)
