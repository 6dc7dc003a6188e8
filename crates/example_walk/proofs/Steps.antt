-- What a look leaves: the first string of an interval that is longer by a class, below or above.
use mathlib.Core.Path.{◌≡◌, sym, ◌∙◌}
use mathlib.Core.List.{List, [], ◌∷◌, ◌++◌}
use mathlib.Core.Bool.{false≢true}
use mathlib.Core.Logic.{◌⊎◌, inl, inr, ⊎_elim}
use Prim.Native.Nat.{ℕ, ◌+◌, ◌-◌, ◌^◌, ◌≤◌, ◌<◌, max, min, zero-le}
use native.Mathlib.Omega.{arith}
use borrow.Table.Steps.{cases}
use lib.ListN.{length, get_or, take}
use lib.Seq.{length-take-le}
use Rattle.keys.specs.Order.{less, ◌≼◌}
use Rattle.keys.proofs.Order.{≼_refl, ≼_trans}
use Rattle.automaton.specs.Table.{WellFormed, states}
use Rattle.automaton.specs.Words.{Bytes, run}
use Rattle.example_distance.specs.Distance.{Distances}
use Rattle.example_distance.proofs.Shortest.{at_most-one}
use Rattle.example_leaving.specs.Leaving.{AcceptedBetween, FirstBetween, no_place}
use Rattle.example_leaving.specs.declared.Leaving.{Leaving}
use Rattle.example_leaving.proofs.Bounds.{≼-behind, ≼-byte}
use Rattle.example_leaving.proofs.Class.{class-byte}
use Rattle.example_walk.specs.Walk.{BestBetween, Covers}
use Rattle.example_walk.specs.declared.Walk.{Walk}
use Rattle.example_walk.proofs.Keep.{keep, below-found, below-kept, above-found, above-kept}
use Rattle.example_walk.proofs.Looks.{parted}

-- a front with a byte lies no higher with a higher byte
pub ordered : (p : List ℕ) (x y : ℕ) → x ≤ y → (p ++ (x ∷ [])) ≼ (p ++ (y ∷ []))
ordered p x y h = ≼-behind p (x ∷ []) (y ∷ []) (≼-byte x y [] h)

-- no string lies between a string and itself
none-inside : {t : List ℕ} (a v : List ℕ) → AcceptedBetween t a a v → ⊥
none-inside a v i = false≢true (sym i.from-a ∙ i.below-b)

module _ {t d : List ℕ} (x : Distances t d) (wf : WellFormed t) (key : List ℕ) (bytes : Bytes key) (place s : ℕ) (hs : s < states t)
    (e : s ≡ run t 0 (take place key)) (inside : place ≤ length key) (room : length key + 64 < 2 ^ 64) (w : Walk) where
  front-length : length (take place key) ≡ place
  front-length = length-take-le place key inside

  -- ---- below
  module _ (lo : ℕ) (fits : lo ≤ 256) {b : List ℕ} (z : BestBetween t d (take place key ++ (256 ∷ [])) b w) where
    lower : (take place key ++ (lo ∷ [])) ≼ (take place key ++ (256 ∷ []))
    lower = ordered (take place key) lo 256 fits

    pub ends : (take place key ++ (lo ∷ [])) ≼ b
    ends = ≼_trans (take place key ++ (lo ∷ [])) (take place key ++ (256 ∷ [])) b lower z.ordered

    -- no string of the class is short enough
    pub below-skipped : w.best.last < place + (get_or d s 0 - 1) → BestBetween t d (take place key ++ (lo ∷ [])) b w
    below-skipped h = record {
      ordered = ends;
      first = keep x wf (take place key ++ (lo ∷ [])) b lower (≼_refl b) z.first
          (λ v i. cases (less v (take place key ++ (256 ∷ [])))
          (λ g.
          let c = class-byte x wf (take place key) s lo 256 e hs (omega arith) v
          (record { hits = i.hits; from-a = i.from-a; below-b = g }) in
          inr (record {
            there = omega (arith, h, at_most-one x s c.byte wf hs c.fits c.near, c.near, room);
            comes = inl (omega (arith, h, c.longer, c.from-state, front-length));
          }))
          (λ g. inl (record { hits = i.hits; from-a = g; below-b = i.below-b })));
    }

    -- all bytes of the class were looked at
    pub below-passed : Covers t d place w → get_or w.passed_from s 0 ≤ lo → BestBetween t d (take place key ++ (lo ∷ [])) b w
    below-passed covers h = record {
      ordered = ends;
      first = keep x wf (take place key ++ (lo ∷ [])) b lower (≼_refl b) z.first
          (λ v i. cases (less v (take place key ++ (256 ∷ [])))
          (λ g. inr (⊎_elim
          (λ j. absurd (none-inside (take place key ++ (lo ∷ [])) v j))
          (λ p. record { there = p.0; comes = inl (omega (arith, p.1)) })
          (parted x wf key bytes place s hs e inside room w place covers (omega arith) lo 256 lo lo v (omega arith) (omega arith)
          (omega (arith, h)) (record { hits = i.hits; from-a = i.from-a; below-b = g }))))
          (λ g. inl (record { hits = i.hits; from-a = g; below-b = i.below-b })));
    }

    module _ (covers : Covers t d place w) (from to : ℕ) (found : Leaving)
        (y : FirstBetween t d (take place key ++ (from ∷ [])) (take place key ++ (to ∷ [])) found)
        (ef : from ≡ max lo (get_or w.passed_below s 0)) (et : to ≡ get_or w.passed_from s 0) where
      others : (v : List ℕ) → AcceptedBetween t (take place key ++ (lo ∷ [])) b v
          → AcceptedBetween t (take place key ++ (256 ∷ [])) b v
          ⊎ (AcceptedBetween t (take place key ++ (from ∷ [])) (take place key ++ (to ∷ [])) v
          ⊎ ((w.best.last < no_place) × (w.best.last + 1 < length v)))
      others v i =
          cases (less v (take place key ++ (256 ∷ [])))
          (λ g. inr (⊎_elim inl (λ p. inr (p.0, omega (arith, p.1)))
          (parted x wf key bytes place s hs e inside room w place covers (omega arith) lo 256 from to v (omega arith) (omega (arith, ef))
          (omega (arith, et)) (record { hits = i.hits; from-a = i.from-a; below-b = g }))))
          (λ g. inl (record { hits = i.hits; from-a = g; below-b = i.below-b }))

      from-lo : (take place key ++ (lo ∷ [])) ≼ (take place key ++ (from ∷ []))
      from-lo = ordered (take place key) lo from (omega (arith, ef))

      to-256 : (take place key ++ (to ∷ [])) ≼ (take place key ++ (256 ∷ []))
      to-256 = ordered (take place key) to 256 (omega (arith, et, covers.from-fits s))

      pub looked-below-found : found.last ≤ w.best.last → FirstBetween t d (take place key ++ (lo ∷ [])) b found
      looked-below-found h = below-found x wf z.first y from-lo to-256 z.ordered lower others h

      pub looked-below-kept : w.best.last < found.last → FirstBetween t d (take place key ++ (lo ∷ [])) b w.best
      looked-below-kept h = below-kept x wf z.first y from-lo to-256 z.ordered lower others h

  -- ---- above
  module _ (hi : ℕ) (fits : hi ≤ 256) {a : List ℕ} (z : BestBetween t d a (take place key ++ (0 ∷ [])) w) where
    higher : (take place key ++ (0 ∷ [])) ≼ (take place key ++ (hi ∷ []))
    higher = ordered (take place key) 0 hi zero-le

    pub begins : a ≼ (take place key ++ (hi ∷ []))
    begins = ≼_trans a (take place key ++ (0 ∷ [])) (take place key ++ (hi ∷ [])) z.ordered higher

    -- no string of the class is shorter
    pub above-skipped : w.best.last ≤ place + (get_or d s 0 - 1) → BestBetween t d a (take place key ++ (hi ∷ [])) w
    above-skipped h = record {
      ordered = begins;
      first = keep x wf a (take place key ++ (hi ∷ [])) (≼_refl a) higher z.first
          (λ v i. cases (less v (take place key ++ (0 ∷ [])))
          (λ g. inl (record { hits = i.hits; from-a = i.from-a; below-b = g }))
          (λ g.
          let c = class-byte x wf (take place key) s 0 hi e hs fits v (record { hits = i.hits; from-a = g; below-b = i.below-b }) in
          inr (record {
            there = omega (arith, h, at_most-one x s c.byte wf hs c.fits c.near, c.near, room);
            comes = inr (omega (arith, h, c.longer, c.from-state, front-length), g);
          })));
    }

    -- all bytes of the class were looked at
    pub above-passed : Covers t d (place + 1) w → hi ≤ get_or w.passed_below s 0 → BestBetween t d a (take place key ++ (hi ∷ [])) w
    above-passed covers h = record {
      ordered = begins;
      first = keep x wf a (take place key ++ (hi ∷ [])) (≼_refl a) higher z.first
          (λ v i. cases (less v (take place key ++ (0 ∷ [])))
          (λ g. inl (record { hits = i.hits; from-a = i.from-a; below-b = g }))
          (λ g. inr (⊎_elim
          (λ j. absurd (none-inside (take place key ++ (hi ∷ [])) v j))
          (λ p. record { there = p.0; comes = inr (omega (arith, p.1), g) })
          (parted x wf key bytes place s hs e inside room w (place + 1) covers (omega arith) 0 hi hi hi v fits (omega (arith, h))
          (omega arith) (record { hits = i.hits; from-a = g; below-b = i.below-b })))));
    }

    module _ (covers : Covers t d (place + 1) w) (from to : ℕ) (found : Leaving)
        (y : FirstBetween t d (take place key ++ (from ∷ [])) (take place key ++ (to ∷ [])) found)
        (ef : from ≡ get_or w.passed_below s 0) (et : to ≡ min hi (get_or w.passed_from s 0)) where
      others-above : (v : List ℕ) → AcceptedBetween t a (take place key ++ (hi ∷ [])) v
          → AcceptedBetween t a (take place key ++ (0 ∷ [])) v
          ⊎ (AcceptedBetween t (take place key ++ (from ∷ [])) (take place key ++ (to ∷ [])) v
          ⊎ ((w.best.last < no_place) × (w.best.last < length v) × ((take place key ++ (0 ∷ [])) ≼ v)))
      others-above v i =
          cases (less v (take place key ++ (0 ∷ [])))
          (λ g. inl (record { hits = i.hits; from-a = i.from-a; below-b = g }))
          (λ g. inr (⊎_elim inl (λ p. inr (p.0, omega (arith, p.1), g))
          (parted x wf key bytes place s hs e inside room w (place + 1) covers (omega arith) 0 hi from to v fits (omega (arith, ef))
          (omega (arith, et)) (record { hits = i.hits; from-a = g; below-b = i.below-b }))))

      from-0 : (take place key ++ (0 ∷ [])) ≼ (take place key ++ (from ∷ []))
      from-0 = ordered (take place key) 0 from zero-le

      to-hi : (take place key ++ (to ∷ [])) ≼ (take place key ++ (hi ∷ []))
      to-hi = ordered (take place key) to hi (omega (arith, et))

      pub looked-above-found : found.last < w.best.last → FirstBetween t d a (take place key ++ (hi ∷ [])) found
      looked-above-found h = above-found x wf z.first y from-0 to-hi z.ordered higher others-above h

      pub looked-above-kept : w.best.last ≤ found.last → FirstBetween t d a (take place key ++ (hi ∷ [])) w.best
      looked-above-kept h = above-kept x wf z.first y from-0 to-hi z.ordered higher others-above h
