-- The edges of what the walk has looked at: how they lie and move, and that what is left outside them is longer than the place.
use mathlib.Core.Path.{◌≡◌, refl, sym, ap, ◌∙◌, subst}
use mathlib.Core.List.{List, [], ◌∷◌, ◌++◌, append_assoc}
use mathlib.Core.Bool.{false≢true}
use mathlib.Core.Logic.{inl, inr, ⊎_elim}
use Prim.Native.Nat.{ℕ, zero, suc, ◌+◌, ◌^◌, ◌≤◌, ◌<◌, max}
use native.Mathlib.Omega.{arith}
use borrow.Table.Steps.{cases}
use lib.ListN.{length, get_or, take, drop, length-append, take-append-drop}
use lib.Seq.{take_all, length-take-le}
use borrow.Author.Tests.{lt-ltb, le-ltb}
use Rattle.std.proofs.lemmas.Bool.{cases_lt}
use Rattle.std.proofs.lemmas.List.{take_more}
use Rattle.keys.specs.Order.{less, ◌≺◌, ◌≼◌}
use Rattle.keys.proofs.Order.{less-asym, ≼_refl, ≼_trans}
use Rattle.automaton.specs.Table.{WellFormed}
use Rattle.automaton.specs.Words.{Bytes}
use Rattle.pruning.proofs.Intervals.{≺-lower, ≼-lower}
use Rattle.example_distance.specs.Distance.{Distances}
use Rattle.example_leaving.specs.Leaving.{FirstBetween}
use Rattle.example_leaving.specs.declared.Leaving.{Leaving}
use Rattle.example_leaving.proofs.Bounds.{≼-behind, next-string, next-byte, begins-with}
use Rattle.example_walk.specs.Walk.{low_edge, high_edge, BestBetween}
use Rattle.example_walk.specs.declared.Walk.{Walk}
use Rattle.example_walk.proofs.Keep.{After, keep}

-- ---- where the low edge is
module _ (start : List ℕ) (place : ℕ) where
  pub low-inside : place ≤ length start → low_edge start place ≡ take place start ++ (256 ∷ [])
  low-inside h = rw (le-ltb (length start) place h) refl

  pub low-behind : length start < place → low_edge start place ≡ start ++ (0 ∷ [])
  low-behind h = rw (lt-ltb (length start) place h) refl

-- behind the key's last byte
pub low-last : (key : List ℕ) (i : ℕ) → i ≡ length key → take i key ++ (0 ∷ []) ≡ low_edge key (i + 1)
low-last key i e = rw (low-behind key (i + 1) (omega arith), take_all i key (omega arith)) refl

-- the key with what stands behind it, by its front
fronted : (key w : List ℕ) (place : ℕ) → take place key ++ (drop place key ++ w) ≡ key ++ w
fronted key w place = sym (append_assoc (take place key) (drop place key) w) ∙ ap (λ (p : List ℕ). p ++ w) (take-append-drop place key)

-- a byte string with a 0 behind it is not empty, and below what is no byte
some-byte : (w : List ℕ) → [] ≺ (w ++ (0 ∷ []))
unfolding less
some-byte [] = refl
some-byte (x ∷ w) = refl

under-256 : (n : ℕ) (w : List ℕ) → Bytes w → (drop n w ++ (0 ∷ [])) ≺ (256 ∷ [])
under-256 zero [] h = ≺-lower 0 256 [] [] (omega arith)
under-256 zero (x ∷ w) h = ≺-lower x 256 (w ++ (0 ∷ [])) [] h.0
under-256 (suc n) [] h = ≺-lower 0 256 [] [] (omega arith)
under-256 (suc n) (x ∷ w) h = under-256 n w h.1

not-empty : (a w : List ℕ) → [] ≺ a → a ≼ w → 0 < length w
not-empty a [] h l = absurd (false≢true (sym l ∙ h))
not-empty a (x ∷ w) h l = omega arith

-- ---- what is left outside the edges
module _ (key : List ℕ) (place : ℕ) where
  rest : List ℕ
  rest = drop place key ++ (0 ∷ [])

  whole : take place key ++ rest ≡ key ++ (0 ∷ [])
  unfolding rest
  whole = fronted key (0 ∷ []) place

  -- a string that begins with the key's front and isn't it
  longer : (w v : List ℕ) → place ≤ length key → v ≡ take place key ++ w → 0 < length w → place < length v
  longer w v h is pos = omega (arith, ap length is, length-append (take place key) w, length-take-le place key h)

  pub above-start : Bytes key → (key ++ (0 ∷ [])) ≼ low_edge key place
  unfolding rest
  above-start bytes = ⊎_elim
      (λ h. rw (low-behind key place h) (≼_refl (key ++ (0 ∷ []))))
      (λ h. rw (low-inside key place h) (subst (λ (q : List ℕ). q ≼ (take place key ++ (256 ∷ []))) whole
      (≼-behind (take place key) rest (256 ∷ []) (less-asym rest (256 ∷ []) (under-256 place key bytes)))))
      (cases_lt (length key) place)

  pub left-low : (v : List ℕ) → (key ++ (0 ∷ [])) ≼ v → v ≺ low_edge key place → (place ≤ length key) × (place < length v)
  unfolding rest
  left-low v l u = ⊎_elim
      (λ h. absurd (false≢true (sym l ∙ subst (λ (q : List ℕ). v ≺ q) (low-behind key place h) u)))
      (λ h.
      let w = begins-with (take place key) rest (256 ∷ []) v (subst (λ (q : List ℕ). q ≼ v) (sym whole) l)
      (subst (λ (q : List ℕ). v ≺ q) (low-inside key place h) u) in
      (h, longer w.rest v h w.whole (not-empty rest w.rest (some-byte (drop place key)) w.from-a)))
      (cases_lt (length key) place)

  pub below-end : high_edge key place ≼ (key ++ (0 ∷ []))
  unfolding rest
  below-end = subst (λ (q : List ℕ). high_edge key place ≼ q) whole
      (≼-behind (take place key) (0 ∷ []) rest (next-string [] rest (some-byte (drop place key))))

  pub left-high : (v : List ℕ) → high_edge key place ≼ v → v ≺ (key ++ (0 ∷ [])) → (place ≤ length key) × (place < length v)
  unfolding less
  left-high v l u = ⊎_elim
      (λ h. absurd (false≢true (sym (subst (λ (q : List ℕ). (q ++ (0 ∷ [])) ≼ v) (take_all place key (omega arith)) l) ∙ u)))
      (λ h.
      let w = begins-with (take place key) (0 ∷ []) rest v l (subst (λ (q : List ℕ). v ≺ q) (sym whole) u) in
      (h, longer w.rest v h w.whole (not-empty (0 ∷ []) w.rest refl w.from-a)))
      (cases_lt (length key) place)

-- ---- one place further along the start key: no byte string lies between its front with the byte above its own, and the edge
module _ (key : List ℕ) (i : ℕ) (h : i < length key) where
  edge : take (i + 1) key ++ (256 ∷ []) ≡ take i key ++ (get_or key i 0 ∷ (256 ∷ []))
  edge = rw (take_more key i 0 h) (append_assoc (take i key) (get_or key i 0 ∷ []) (256 ∷ []))

  low-next : low_edge key (i + 1) ≡ take i key ++ (get_or key i 0 ∷ (256 ∷ []))
  low-next = low-inside key (i + 1) (omega arith) ∙ edge

  pub low-step : low_edge key (i + 1) ≼ (take i key ++ ((get_or key i 0 + 1) ∷ []))
  low-step = rw low-next
      (≼-behind (take i key) (get_or key i 0 ∷ (256 ∷ [])) ((get_or key i 0 + 1) ∷ [])
      (≼-lower (get_or key i 0) (get_or key i 0 + 1) (256 ∷ []) [] (omega arith)))

  pub none-between : (v : List ℕ) → Bytes v → low_edge key (i + 1) ≼ v → (take i key ++ ((get_or key i 0 + 1) ∷ [])) ≼ v
  none-between v bytes l = cases (less v (take i key ++ ((get_or key i 0 + 1) ∷ [])))
      (λ g. absurd (false≢true (sym (rw low-next at l) ∙ next-byte (take i key) (get_or key i 0) v bytes g)))
      (λ g. g)

-- ---- what was looked at, for all of the interval
module _ {t d : List ℕ} (x : Distances t d) (wf : WellFormed t) where
  -- one place further on the start's side, with the same strings
  pub lower-edge : {b : List ℕ} {c : Leaving} (key : List ℕ) (i : ℕ) → i < length key
      → FirstBetween t d (take i key ++ ((get_or key i 0 + 1) ∷ [])) b c → FirstBetween t d (low_edge key (i + 1)) b c
  lower-edge {b} key i h z =
      keep x wf (low_edge key (i + 1)) b (low-step key i h) (≼_refl b) z
      (λ v j. inl (record { hits = j.hits; from-a = none-between key i h v j.hits.bytes j.from-a; below-b = j.below-b }))

  pub looked-next : {b : List ℕ} {w : Walk} (key : List ℕ) (i : ℕ) → i < length key
      → BestBetween t d (take i key ++ ((get_or key i 0 + 1) ∷ [])) b w → BestBetween t d (low_edge key (i + 1)) b w
  looked-next {b} key i h z = record {
    ordered = ≼_trans (low_edge key (i + 1)) (take i key ++ ((get_or key i 0 + 1) ∷ [])) b (low-step key i h) z.ordered;
    first = lower-edge key i h z.first;
  }

  -- what is left is longer than the place
  pub all-looked : {c : Leaving} (start end : List ℕ) (place : ℕ) → Bytes start → max (length start) (length end) + 64 < 2 ^ 64
      → (place ≤ max (length start) (length end) → c.last < place)
      → FirstBetween t d (low_edge start place) (high_edge end place) c → FirstBetween t d (start ++ (0 ∷ [])) (end ++ (0 ∷ [])) c
  all-looked {c} start end place bytes room stop z =
      keep x wf (start ++ (0 ∷ [])) (end ++ (0 ∷ [])) (above-start start place bytes) (below-end end place) z
      (λ v i. cases (less v (low_edge start place))
      (λ g. inr (after (left-low start place v i.from-a g)))
      (λ g. cases (less v (high_edge end place))
      (λ k. inl (record { hits = i.hits; from-a = g; below-b = k }))
      (λ k. inr (after' (left-high end place v k i.below-b)))))
    where
      after : {v : List ℕ} → (place ≤ length start) × (place < length v) → After (high_edge end place) c v
      after p = let h = stop (omega (arith, p.0)) in record { there = omega (arith, p.0); comes = inl (omega (arith, p.1)) }

      after' : {v : List ℕ} → (place ≤ length end) × (place < length v) → After (high_edge end place) c v
      after' p = let h = stop (omega (arith, p.0)) in record { there = omega (arith, p.0); comes = inl (omega (arith, p.1)) }
