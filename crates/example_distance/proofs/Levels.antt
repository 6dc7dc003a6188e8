-- The levels: f has the states found, whose distances stand in d; l the states at distance k. Each level adds a state, so that k
-- stays within 64.
use mathlib.Core.Path.{◌≡◌, refl, sym, ap, ◌∙◌, subst}
use mathlib.Core.List.{List, [], ◌∷◌}
use mathlib.Core.Logic.{◌⊎◌, inl, inr, ⊎_elim}
use Prim.Native.Nat.{ℕ, zero, suc, ◌+◌, ◌-◌, ◌/◌, ◌%◌, ◌^◌, ◌≤◌, ◌<◌, min, max, zero-le}
use native.Mathlib.Nat.{pow-suc}
use native.Mathlib.Omega.{arith}
use lib.Bits.{bit_and, bit_or, or_step, and_le_l, and_le_r, or_lt}
use lib.Count.{ones, ones_step, ones-le, count_trailing_zeros}
use lib.ListN.{length, get_or, set, replicate, length-set, length-replicate, get_or-replicate}
use lib.Seq.{get_or-set_same, get_or-set_other}
use Rattle.std.proofs.lemmas.Bool.{cases_eq, cases_lt}
use Rattle.automaton.specs.Bits.{bit}
use Rattle.automaton.specs.Table.{WellFormed, states, flag, next}
use Rattle.automaton.specs.Words.{run, Hits, Accepts}
use Rattle.automaton.proofs.Word.{bit-lt, bit-off, bit-zero, bit_below, bit-trailing, bit-or, bit-and}
use Rattle.automaton.proofs.SetBits.{Passed, passed-more}
use Rattle.automaton.proofs.Worklist.{added, added_new, added-all, fits}
use Rattle.automaton.proofs.Strings.{hits-tail, word-nil, word-cons}
use Rattle.example_distance.specs.Distance.{Distances}

-- ---- two words with a bit in common: 1, else 0
abbrev pub common : ℕ → ℕ → ℕ
common a b = min 1 (bit_and a b)

pub common-up : (a b : ℕ) → b < 2 ^ 64 → common a b ≡ 1 → (s : ℕ) × (bit a s ≡ 1) × (bit b s ≡ 1)
common-up a b h e =
    let s = count_trailing_zeros 64 (bit_and a b) in
    let i : bit (bit_and a b) s ≡ 1 = bit-trailing 64 (bit_and a b) (omega arith) (omega (arith, and_le_r a b)) in
    let j = bit-and a b s in
    (s, omega (arith, bit-lt a s), omega (arith, bit-lt b s))

pub common-down : (a b s : ℕ) → bit a s ≡ 1 → bit b s ≡ 1 → common a b ≡ 1
common-down a b s i j =
    ⊎_elim
    (λ z. let y : bit (bit_and a b) s ≡ 0 = ap (λ (x : ℕ). bit x s) z ∙ bit-zero s in absurd (omega (arith, bit-and a b s)))
    (λ n. omega (arith, n))
    (cases_eq (bit_and a b) 0)

-- ---- how many bits are set
ones_pos : (w s : ℕ) → bit w s ≡ 1 → 0 < ones w
unfolding bit
ones_pos w zero e = omega (arith, ones_step w)
ones_pos w (suc s) e = omega (arith, ones_step w, ones_pos (w / 2) s e)

ones-or : (k a b : ℕ) → a < 2 ^ k → b < 2 ^ k → ((q : ℕ) → bit b q ≡ 1 → bit a q ≡ 0) → ones (bit_or a b) ≡ ones a + ones b
unfolding bit ones
ones-or zero a b ha hb d =
    let p : a ≡ 0 = omega arith in
    let q : b ≡ 0 = omega arith in
    rw (p, q)
ones-or (suc k) a b ha hb d =
    let p = pow-suc 2 k in
    let i = ones-or k (a / 2) (b / 2) (omega arith) (omega arith) (λ q. d (suc q)) in
    let z = d 0 in
    let o = or_step a b in
    let h : bit_or a b / 2 ≡ bit_or (a / 2) (b / 2) = omega arith in
    let j : ones (bit_or a b / 2) ≡ ones (bit_or (a / 2) (b / 2)) = ap ones h in
    let m : max (a % 2) (b % 2) ≡ a % 2 + b % 2 = ⊎_elim (λ e. omega (arith, z e)) (λ n. omega (arith, n)) (cases_eq (b % 2) 1) in
    omega (arith, ones_step a, ones_step b, ones_step (bit_or a b))

-- ---- a shortest string from s to acceptance has n bytes
pub record Exact (t : List ℕ) (s n : ℕ) : Type 0 where
  pub near : Accepts t s (λ w. length w ≡ n)
  pub least : (w : List ℕ) → Hits t s w → n ≤ length w

pub record Levels (t d : List ℕ) (f l k : ℕ) : Type 0 where
  pub small : f < 2 ^ states t
  pub small-level : l < 2 ^ states t
  pub new : (q : ℕ) → bit l q ≡ 1 → bit f q ≡ 0
  pub long : length d ≡ 64
  pub done : (q : ℕ) → bit f q ≡ 1 → (get_or d q 0 < k) × Exact t q (get_or d q 0)
  pub none : (q : ℕ) → q < 64 → bit f q ≡ 0 → get_or d q 0 ≡ 64
  pub level : (q : ℕ) → bit l q ≡ 1 → Exact t q k
  pub all : (q : ℕ) (w : List ℕ) → q < states t → Hits t q w → length w ≤ k → (bit f q ≡ 1) ⊎ (bit l q ≡ 1)
  pub count : k ≤ ones f

module _ {t : List ℕ} where
  pub levels-start : (f : ℕ) → f < 2 ^ states t → ((s : ℕ) → s < states t → bit f s ≡ flag t s) → Levels t (replicate 64 64) 0 f 0
  unfolding run
  levels-start f h g = record {
    small = omega arith;
    small-level = h;
    new = λ q e. bit-zero q;
    long = length-replicate {A = ℕ} 64 64;
    done = λ q e. absurd (omega (arith, bit-zero q));
    none = λ q l e. get_or-replicate 64 q 64 0 l;
    level = λ q e. record
        { near = word-nil (λ w. length w ≡ 0) (sym (g q (bit_below (states t) f q h e)) ∙ e) refl; least = λ w i. zero-le };
    all = here;
    count = zero-le;
  }
    where
      here : (q : ℕ) (w : List ℕ) → q < states t → Hits t q w → length w ≤ 0 → (bit 0 q ≡ 1) ⊎ (bit f q ≡ 1)
      here q [] hq i l = inr (g q hq ∙ i.ends)
      here q (b ∷ w) hq i l = absurd (omega arith)

  -- a byte more
  exact-step : {s n : ℕ} (q b : ℕ) → b < 256 → next t q b ≡ s → Exact t s n → Accepts t q (λ w. length w ≡ n + 1)
  exact-step {s} {n} q b h e x =
      word-cons q b (λ w. length w ≡ n + 1) (λ w. length w ≡ n) h (λ w i. omega (arith, i))
      (subst (λ (y : ℕ). Accepts t y (λ w. length w ≡ n)) (sym e) x.near)

  module _ {d : List ℕ} {f l k : ℕ} (wf : WellFormed t) (i : Levels t d f l k) where
    -- a state from which a byte leads to one found is found, or of this level
    pub back : (q b : ℕ) → q < states t → b < 256 → bit f (next t q b) ≡ 1 → (bit f q ≡ 1) ⊎ (bit l q ≡ 1)
    back q b hq hb e =
        let (less, x) = i.done (next t q b) e in
        let m = exact-step q b hb refl x in
        i.all q m.string hq m.hits (omega (arith, m.good))

    -- ---- a turn: l is found, and the states of r, from which a byte leads to l, follow where they aren't found
    module _ (some : 0 < l) where
      more : ones f + 1 ≤ ones (bit_or f l)
      more =
          let p = ones_pos l (count_trailing_zeros 64 l) (bit-trailing 64 l some (fits wf i.small-level)) in
          omega (arith, ones-or (states t) f l i.small i.small-level i.new)

      pub within : k < 64
      within = omega (arith, more, i.count, ones-le 64 (bit_or f l) (fits wf (or_lt (states t) f l i.small i.small-level)))

      module _ (r : ℕ) (hr : r < 2 ^ states t)
          (from : (q b : ℕ) → q < states t → b < 256 → bit l (next t q b) ≡ 1 → bit r q ≡ 1)
          (to : (q : ℕ) → bit r q ≡ 1 → (b : ℕ) × (b < 256) × (bit l (next t q b) ≡ 1))
          (e : List ℕ) (long : length e ≡ 64)
          (set : (q : ℕ) → q < 64 → bit l q ≡ 1 → get_or e q 0 ≡ k)
          (kept : (q : ℕ) → bit l q ≡ 0 → get_or e q 0 ≡ get_or d q 0) where
        small' : bit_or f l < 2 ^ states t
        small' = or_lt (states t) f l i.small i.small-level

        in-new : (q : ℕ) → bit (added r (bit_or f l)) q ≡ 1 → (bit r q ≡ 1) × (bit (bit_or f l) q ≡ 0)
        in-new = added_new r (bit_or f l) (fits wf hr) (fits wf small')

        to-new : (q : ℕ) → bit r q ≡ 1 → (bit (bit_or f l) q ≡ 1) ⊎ (bit (added r (bit_or f l)) q ≡ 1)
        to-new q h =
            ⊎_elim inl
            (λ n. inr (added-all r (bit_or f l) (fits wf hr) (fits wf small') q h (bit-off (bit_or f l) q n)))
            (cases_eq (bit (bit_or f l) q) 1)

        found : (q : ℕ) → (bit f q ≡ 1) ⊎ (bit l q ≡ 1) → bit (bit_or f l) q ≡ 1
        found q (inl h) = bit-or f l q ∙ omega (arith, bit-lt l q)
        found q (inr h) = bit-or f l q ∙ omega (arith, bit-lt f q)

        pub levels-turn : Levels t e (bit_or f l) (added r (bit_or f l)) (k + 1)
        levels-turn = record {
          small = small';
          small-level = omega (arith, and_le_l r (2 ^ 64 - 1 - bit_or f l));
          new = λ q h. (in-new q h).1;
          long = long;
          done = λ q h. ⊎_elim
              (λ a.
              let g = set q (omega (arith, bit_below (states t) l q i.small-level a, wf.few)) a in
              (omega arith, subst (Exact t q) (sym g) (i.level q a)))
              (λ a.
              let g = kept q (bit-off l q a) in
              let (less, x) = i.done q (omega (arith, bit-or f l q, bit-lt l q, a, bit-lt f q)) in
              (omega arith, subst (Exact t q) (sym g) x))
              (cases_eq (bit l q) 1);
          none = λ q lt h. kept q (omega (arith, bit-or f l q)) ∙ i.none q lt (omega (arith, bit-or f l q));
          level = λ q h.
              let (a, z) = in-new q h in
              let (b, hb, g) = to q a in
              record {
                near = exact-step q b hb refl (i.level (next t q b) g);
                least = λ w hw. ⊎_elim
                    (λ s. omega arith)
                    (λ s. absurd (omega (arith, z, found q (i.all q w (bit_below (states t) r q hr a) hw s))))
                    (cases_lt k (length w));
              };
          all = reached;
          count = omega (arith, more, i.count);
        }
          where
            reached : (q : ℕ) (w : List ℕ) → q < states t → Hits t q w → length w ≤ k + 1
                → (bit (bit_or f l) q ≡ 1) ⊎ (bit (added r (bit_or f l)) q ≡ 1)
            reached q [] hq hw s = inl (found q (i.all q [] hq hw zero-le))
            reached q (b ∷ w) hq hw s =
                let (hb, h) = hits-tail q b hw in
                ⊎_elim
                (λ g. inl (found q (back q b hq hb g)))
                (λ g. to-new q (from q b hq hb g))
                (i.all (next t q b) w (wf.closed q b hq hb) h (omega arith))

  -- ---- an empty level: every state that can match is found
  module _ {d : List ℕ} {f k : ℕ} (wf : WellFormed t) (i : Levels t d f 0 k) where
    in-found : (q : ℕ) → (bit f q ≡ 1) ⊎ (bit 0 q ≡ 1) → bit f q ≡ 1
    in-found q (inl h) = h
    in-found q (inr h) = absurd (omega (arith, bit-zero q))

    all_found : (w : List ℕ) (q : ℕ) → q < states t → Hits t q w → bit f q ≡ 1
    all_found [] q hq hw = in-found q (i.all q [] hq hw zero-le)
    all_found (b ∷ w) q hq hw =
        let (hb, h) = hits-tail q b hw in
        in-found q (back wf i q b hq hb (all_found w (next t q b) (wf.closed q b hq hb) h))

    pub levels-done : Distances t d
    levels-done = record {
      long = i.long;
      near = λ s hs h. ⊎_elim
          (λ e. (i.done s e).1.near)
          (λ e. absurd (omega (arith, i.none s (omega (arith, wf.few)) (bit-off f s e))))
          (cases_eq (bit f s) 1);
      least = λ s w hs hw. (i.done s (all_found w s hs hw)).1.least w hw;
      far = λ s hs m. omega (arith, (i.done s (all_found m.string s hs m.hits)).0, i.count, ones-le 64 f (fits wf i.small));
    }

-- ---- the distance k written for the states of l, of which those of `left` are still to come
pub record PutTo (l left k : ℕ) (old new : List ℕ) : Type 0 where
  pub long : length new ≡ length old
  pub put : Passed (λ q. get_or new q 0 ≡ k) l left
  pub kept : (q : ℕ) → bit l q ≡ 0 → get_or new q 0 ≡ get_or old q 0

pub put-more : {l left k : ℕ} {old new : List ℕ} → PutTo l left k old new → (s : ℕ) → s < length new → bit left s ≡ 1 → (rest : ℕ)
    → rest ≡ left - 2 ^ s → PutTo l rest k old (set new s k)
put-more {l} {left} {k} {old} {new} i s h e rest is = rw is (record {
  long = length-set new s k ∙ i.long;
  put = passed-more i.put s e (λ q n f. get_or-set_other new s q k 0 n ∙ f) (get_or-set_same new s k 0 h);
  kept = λ q b. get_or-set_other new s q k 0 (λ z. let y = subst (λ (x : ℕ). bit l x ≡ 0) z b in let o = i.put.sub s e in omega arith)
      ∙ i.kept q b;
})
