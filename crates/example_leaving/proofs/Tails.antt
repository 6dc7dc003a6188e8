-- The first string from a state to acceptance: none is left at distance 0, and else it begins with the lowest byte that leads one nearer.
use mathlib.Core.Path.{◌≡◌, refl, sym, subst}
use mathlib.Core.List.{List, [], ◌∷◌, ◌++◌, append_assoc, append-nil}
use mathlib.Core.Logic.{◌⊎◌, inl, inr, ⊎_elim}
use Prim.Native.Nat.{ℕ, zero, suc, ◌+◌, ◌≤◌, ◌<◌, zero-le}
use native.Mathlib.Nat.{zero-add}
use native.Mathlib.Omega.{arith}
use borrow.Author.Count.{below_more}
use lib.ListN.{length, get_or, set, length-append}
use lib.Seq.{sets}
use Rattle.std.proofs.lemmas.Bool.{cases_lt}
use Rattle.keys.proofs.Order.{prefix-≼}
use Rattle.serialize.proofs.Stores.{sets-append}
use Rattle.automaton.specs.Table.{WellFormed, states, next}
use Rattle.automaton.specs.Words.{Hits}
use Rattle.automaton.proofs.Strings.{hits-nil, hits-cons, hits-tail, can-match-hits}
use Rattle.example_distance.specs.Distance.{Distances}
use Rattle.example_distance.proofs.Shortest.{at_zero, some-nearer, at_most-one, one-nearer}
use Rattle.example_leaving.specs.First.{FirstIn}
use Rattle.example_leaving.specs.Leaving.{NearestByte, Nearer}
use Rattle.example_leaving.proofs.Class.{InClass, class-first}
use Rattle.example_leaving.proofs.First.{not-after, first-map}

module _ {t d : List ℕ} (x : Distances t d) (wf : WellFormed t) where
  pub tail-none : (s : ℕ) → s < states t → get_or d s 0 ≡ 0 → FirstIn (Hits t s) []
  tail-none s hs e = record { is-one = hits-nil (at_zero x s hs e); first = λ u i. not-after [] u zero-le (prefix-≼ [] u) }

  -- ---- from a state that doesn't accept, the strings to acceptance are the class of all bytes behind nothing
  module _ (s b : ℕ) (hs : s < states t) (hb : b < 256) (n : Nearer t d s b) (v : List ℕ) (f : FirstIn (Hits t (next t s b)) v) where
    nearest : NearestByte t d s 0 256 b
    nearest = record {
      from-lo = zero-le;
      below-hi = hb;
      near = near;
      least = λ k l h. ⊎_elim
          (λ g. omega (arith, n.one, at_most-one x s k wf hs h g))
          (λ g. omega (arith, near))
          (cases_lt (get_or d (next t s k) 0) 64);
      lowest = λ k l h. omega (arith, n.one, n.lowest k h);
    }
      where
        near : get_or d (next t s b) 0 < 64
        near = x.far (next t s b) (wf.closed s b hs hb) (can-match-hits f.is-one)

    of-class : (u : List ℕ) → Hits t s u → InClass t [] s 0 256 u
    of-class [] i = absurd (omega (arith, n.one, x.least s [] hs i))
    of-class (c ∷ u) i =
        let (hc, h) = hits-tail s c i in
        record { byte = c; rest = u; low = zero-le; high = hc; hits = h; whole = refl }

    pub tail-more : FirstIn (Hits t s) (b ∷ v)
    tail-more =
        first-map (Hits t s) (λ c. subst (Hits t s) (sym c.whole) (hits-cons s c.byte c.high c.hits)) of-class
        (class-first x wf [] s 0 256 hs (omega arith) b nearest v f)

  -- ---- the bytes below n: none leads nearer, or one does that is the lowest
  lowest-nearer : (s n : ℕ) → s < states t → n ≤ 256 → get_or d s 0 < 64
      → ((k : ℕ) → k < n → get_or d s 0 ≤ get_or d (next t s k) 0) ⊎ ((b : ℕ) × (b < n) × Nearer t d s b)
  lowest-nearer s zero hs h near = inl (λ k l. absurd (omega arith))
  lowest-nearer s (suc n) hs h near =
      ⊎_elim
      (λ g. ⊎_elim
      (λ l. inr (n, omega arith, record { one = one-nearer x s n wf hs (omega arith) near l; lowest = g }))
      (λ l. inl (λ k h. below_more (λ (j : ℕ). get_or d s 0 ≤ get_or d (next t s j) 0) n g l k (omega arith)))
      (cases_lt (get_or d (next t s n) 0) (get_or d s 0)))
      (λ (b, l, g). inr (b, omega (arith, l), g))
      (lowest-nearer s n hs (omega arith) near)

  some-lowest : (s : ℕ) → s < states t → 0 < get_or d s 0 → get_or d s 0 < 64 → (b : ℕ) × (b < 256) × Nearer t d s b
  some-lowest s hs pos near =
      let (b, hb, less) = some-nearer x s wf hs pos near in
      ⊎_elim (λ g. absurd (omega (arith, g b hb, less))) (λ g. g) (lowest-nearer s 256 hs (omega arith) near)

  tail-far : (k s : ℕ) → s < states t → get_or d s 0 ≡ k → k < 64 → (v : List ℕ) × FirstIn (Hits t s) v
  tail-far zero s hs e l = ([], tail-none s hs e)
  tail-far (suc k) s hs e l =
      let (b, hb, n) = some-lowest s hs (omega arith) (omega arith) in
      let (v, f) = tail-far k (next t s b) (wf.closed s b hs hb) (omega (arith, n.one)) (omega arith) in
      (b ∷ v, tail-more s b hs hb n v f)

  pub tail-exists : (s : ℕ) → s < states t → get_or d s 0 < 64 → (v : List ℕ) × FirstIn (Hits t s) v
  tail-exists s hs near = tail-far (get_or d s 0) s hs refl near

-- ---- the string written so far, with the first tail of s behind it, is the first tail of the state at the start
pub record Sofar (t d old new : List ℕ) (state s i : ℕ) : Type 0 where
  pub string : List ℕ
  pub rest : (v : List ℕ) → FirstIn (Hits t s) v → FirstIn (Hits t state) (string ++ v)
  pub small : s < states t
  pub ends : i ≡ length string
  pub left : length string + get_or d s 0 ≡ get_or d state 0
  pub put : new ≡ sets old 0 string

module _ {t d old : List ℕ} where
  pub sofar-none : (state : ℕ) → state < states t → Sofar t d old old state state 0
  sofar-none state h = record { string = []; rest = λ v f. f; small = h; ends = refl; left = omega arith; put = refl }

  module _ {new : List ℕ} {state s i : ℕ} (z : Sofar t d old new state s i) (x : Distances t d) (wf : WellFormed t) where
    pub sofar-more : (b : ℕ) → b < 256 → Nearer t d s b → Sofar t d old (set new i b) state (next t s b) (i + 1)
    sofar-more b h n =
        let l = length-append z.string (b ∷ []) in
        record {
          string = z.string ++ (b ∷ []);
          rest = λ v f. subst (FirstIn (Hits t state)) (sym (append_assoc z.string (b ∷ []) v))
              (z.rest (b ∷ v) (tail-more x wf s b z.small h n v f));
          small = wf.closed s b z.small h;
          ends = omega (arith, z.ends);
          left = omega (arith, z.left, n.one);
          put = rw (z.put, z.ends, ← (zero-add (length z.string))) (sets-append old z.string (b ∷ []) 0);
        }

    pub sofar-done : get_or d s 0 ≡ 0 → FirstIn (Hits t state) z.string
    sofar-done e = subst (FirstIn (Hits t state)) (append-nil z.string) (z.rest [] (tail-none x wf s z.small e))
