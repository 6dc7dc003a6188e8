-- The end key's front alone: it is the only string between itself and itself with a 0 behind it.
use mathlib.Core.Path.{◌≡◌, refl, sym, ap, ◌∙◌, subst}
use mathlib.Core.List.{List, [], ◌∷◌, ◌++◌}
use mathlib.Core.Bool.{false≢true}
use mathlib.Core.Logic.{◌⊎◌, inl, inr, ⊎_elim}
use Prim.Native.Nat.{ℕ, ◌+◌, ◌^◌, ◌≤◌, ◌<◌}
use native.Mathlib.Nat.{eq-zero-or-pos}
use native.Mathlib.Omega.{arith}
use borrow.Table.Steps.{cases}
use lib.ListN.{length, get_or, take}
use lib.Seq.{length-take-le}
use Rattle.std.proofs.lemmas.List.{take_more}
use Rattle.keys.specs.Order.{less, ◌≼◌}
use Rattle.keys.proofs.Order.{less-total, ≼_refl, prefix-≼, prefix-≺}
use Rattle.automaton.specs.Table.{WellFormed, states, flag, next}
use Rattle.automaton.specs.Words.{Bytes, run}
use Rattle.automaton.proofs.Strings.{run_more, bytes_take}
use Rattle.example_distance.specs.Distance.{Distances}
use Rattle.example_distance.proofs.Shortest.{at_zero, zero-at}
use Rattle.example_leaving.specs.First.{NotAfter, FirstIn}
use Rattle.example_leaving.specs.Leaving.{AcceptedBetween, FirstBetween, LeavesTo, string_with}
use Rattle.example_leaving.specs.declared.Leaving.{Leaving}
use Rattle.example_leaving.proofs.Bounds.{next-string}
use Rattle.example_leaving.proofs.First.{not-after}
use Rattle.example_leaving.proofs.Class.{tail-length}
use Rattle.example_walk.specs.Walk.{high_edge, Reached}
use Rattle.example_walk.proofs.Keep.{keep, above-found, above-kept}

module _ (p : List ℕ) where
  alone : {t : List ℕ} (v : List ℕ) → AcceptedBetween t p (p ++ (0 ∷ [])) v → v ≡ p
  alone v i =
      cases (less p v)
      (λ g. absurd (false≢true (sym (next-string p v g) ∙ i.below-b)))
      (λ g. less-total v p i.from-a g)

-- one byte more of a key leads on
pub reached-more : (t key : List ℕ) (i s to : ℕ) → i < length key → s ≡ run t 0 (take i key) → to ≡ next t s (get_or key i 0)
    → to < states t → Reached t key (i + 1) to
reached-more t key i s to h e is small = record {
  small = small;
  led = λ g. is ∙ ap (λ (q : ℕ). next t q (get_or key i 0)) e ∙ sym (run_more t 0 key i h);
}

empty : (w : List ℕ) → length w ≡ 0 → w ≡ []
empty [] h = refl
empty (x ∷ w) h = absurd (let z : ⊥ = omega (arith, h) in z)

module _ {t d : List ℕ} (x : Distances t d) (wf : WellFormed t) (c : Leaving) (bytes : Bytes c.key.now)
    (inside : c.place < length c.key.now)
    (room : length c.key.now + 64 < 2 ^ 64) (fits : c.byte < 256) (is : c.byte ≡ get_or c.key.now c.place 0)
    (led : c.state ≡ run t 0 (take (c.place + 1) c.key.now)) (small : c.state < states t) (last : c.last ≡ c.place) where
  front-length : length (take (c.place + 1) c.key.now) ≡ c.place + 1
  front-length = length-take-le (c.place + 1) c.key.now (omega arith)

  whole : take c.place c.key.now ++ (c.byte ∷ []) ≡ take (c.place + 1) c.key.now
  whole = rw is (sym (take_more c.key.now c.place 0 inside))

  leads : get_or d c.state 0 ≡ 0 → LeavesTo t d c
  leads near = record {
    inside = omega arith;
    byte-fits = fits;
    led = led ∙ run_more t 0 c.key.now c.place inside ∙ ap (next t (run t 0 (take c.place c.key.now))) (sym is);
    small = small;
    near = omega (arith, near);
    whole = omega (arith, near, last);
  }

  -- where its state accepts it is the first of one
  pub front-accepted : get_or d c.state 0 ≡ 0 → FirstBetween t d (take (c.place + 1) c.key.now) (high_edge c.key.now (c.place + 1)) c
  front-accepted near =
      let p = take (c.place + 1) c.key.now in
      record {
        least = λ v i. (omega (arith, last), omega (arith, last, ap length (alone p v i), front-length));
        leads = λ h. leads near;
        first = λ h tail f.
            let e = empty tail (tail-length x c.state small (omega (arith, near)) tail f ∙ near) in
            let q : string_with c tail ≡ p = rw e whole in
            subst (FirstIn (AcceptedBetween t p (p ++ (0 ∷ [])))) (sym q) (record {
              is-one = record {
                hits = record {
                  bytes = bytes_take (c.place + 1) c.key.now bytes;
                  ends = subst (λ (y : ℕ). flag t y ≡ 1) led (at_zero x c.state small near);
                };
                from-a = ≼_refl p;
                below-b = prefix-≺ p 0 [];
              };
              first = λ v i. subst (NotAfter p) (sym (alone p v i)) (not-after p p (omega arith) (≼_refl p));
            });
      }

  -- the other strings are below it
  upto-front : {a : List ℕ} (v : List ℕ) → AcceptedBetween t a (high_edge c.key.now (c.place + 1)) v
      → AcceptedBetween t a (take (c.place + 1) c.key.now) v
      ⊎ AcceptedBetween t (take (c.place + 1) c.key.now) (high_edge c.key.now (c.place + 1)) v
  upto-front v i =
      cases (less v (take (c.place + 1) c.key.now))
      (λ g. inl (record { hits = i.hits; from-a = i.from-a; below-b = g }))
      (λ g. inr (record { hits = i.hits; from-a = g; below-b = i.below-b }))

  module _ {a : List ℕ} {best : Leaving} (low : a ≼ take (c.place + 1) c.key.now)
      (z : FirstBetween t d a (take (c.place + 1) c.key.now) best) where
    p≼ : take (c.place + 1) c.key.now ≼ high_edge c.key.now (c.place + 1)
    p≼ = prefix-≼ (take (c.place + 1) c.key.now) (0 ∷ [])

    pub front-taken : get_or d c.state 0 ≡ 0 → c.place < best.last → FirstBetween t d a (high_edge c.key.now (c.place + 1)) c
    front-taken near h =
        above-found x wf z (front-accepted near) (≼_refl (take (c.place + 1) c.key.now)) (≼_refl (high_edge c.key.now (c.place + 1))) low p≼
        (λ v i. ⊎_elim inl (λ j. inr (inl j)) (upto-front v i)) (omega (arith, last))

    pub front-left : (get_or d c.state 0 ≡ 0 → best.last ≤ c.place) → FirstBetween t d a (high_edge c.key.now (c.place + 1)) best
    front-left f = ⊎_elim
        (λ near. above-kept x wf z (front-accepted near) (≼_refl (take (c.place + 1) c.key.now))
        (≼_refl (high_edge c.key.now (c.place + 1))) low p≼
        (λ v i. ⊎_elim inl (λ j. inr (inl j)) (upto-front v i)) (omega (arith, last, f near)))
        (λ (far : 0 < get_or d c.state 0). keep x wf a (high_edge c.key.now (c.place + 1)) (≼_refl a) p≼ z
        (λ v i. ⊎_elim inl (λ j. absurd (none far v j)) (upto-front v i)))
        (eq-zero-or-pos (get_or d c.state 0))
      where
        none : 0 < get_or d c.state 0 → (v : List ℕ)
            → AcceptedBetween t (take (c.place + 1) c.key.now) (high_edge c.key.now (c.place + 1)) v → ⊥
        none far v j =
            let at = subst (λ (u : List ℕ). flag t (run t 0 u) ≡ 1) (alone (take (c.place + 1) c.key.now) v j) j.hits.ends in
            let z = zero-at x c.state small (subst (λ (y : ℕ). flag t y ≡ 1) (sym led) at) in
            omega (arith, z)
