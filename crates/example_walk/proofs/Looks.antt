-- What a look at the strings of a class finds, where bytes that were looked at before are left out, and that it covers the class.
use mathlib.Core.Path.{◌≡◌, sym, subst, ◌∙◌}
use mathlib.Core.List.{List, [], ◌∷◌, ◌++◌}
use mathlib.Core.Logic.{◌⊎◌, inl, inr, ⊎_elim}
use Prim.Native.Nat.{ℕ, ◌+◌, ◌^◌, ◌≤◌, ◌<◌, max, min}
use native.Mathlib.Omega.{arith}
use lib.ListN.{length, get_or, set, take, length-append, length-set}
use lib.Seq.{length-take-le, get_or-set_same, get_or-set_other}
use Rattle.std.proofs.lemmas.Bool.{cases_eq, cases_lt}
use Rattle.automaton.specs.Table.{WellFormed, states, next}
use Rattle.automaton.specs.Words.{Bytes, run, Hits}
use Rattle.automaton.proofs.Strings.{hits-cons, hits-append, bytes_take}
use Rattle.example_distance.specs.Distance.{Distances}
use Rattle.example_leaving.specs.Leaving.{AcceptedBetween, FirstBetween, no_place}
use Rattle.example_leaving.specs.declared.Leaving.{Leaving}
use Rattle.example_leaving.proofs.Bounds.{leaving}
use Rattle.example_walk.specs.Walk.{LookedAt, Covers}
use Rattle.example_walk.specs.declared.Walk.{Walk}
use Rattle.example_leaving.proofs.Class.{class-byte}

module _ {t d : List ℕ} (x : Distances t d) (wf : WellFormed t) (key : List ℕ) (bytes : Bytes key) (place s : ℕ) (hs : s < states t)
    (e : s ≡ run t 0 (take place key)) (inside : place ≤ length key) (room : length key + 64 < 2 ^ 64) where
  front-length : length (take place key) ≡ place
  front-length = length-take-le place key inside

  -- a byte that leads on gives a string of the class
  shortest : (lo b hi : ℕ) → lo ≤ b → b < hi → b < 256 → get_or d (next t s b) 0 < 64
      → (v : List ℕ) × AcceptedBetween t (take place key ++ (lo ∷ [])) (take place key ++ (hi ∷ [])) v
      × (length v ≡ place + 1 + get_or d (next t s b) 0)
  shortest lo b hi l h fits near =
      let m = x.near (next t s b) (wf.closed s b hs fits) near in
      let (low, high) = leaving (take place key) m.string b lo hi l h in
      let i : Hits t s (b ∷ m.string) = hits-cons s b fits m.hits in (
        take place key ++ (b ∷ m.string),
        record {
          hits = hits-append 0 (take place key) (bytes_take place key bytes) (subst (λ (q : ℕ). Hits t q (b ∷ m.string)) e i);
          from-a = low;
          below-b = high;
        },
        omega (arith, length-append (take place key) (b ∷ m.string), front-length, m.good),
      )

  -- ---- a string of a class leaves the key by a byte of the part that is looked at, or by one looked at before
  module _ (w : Walk) (k : ℕ) (covers : Covers t d k w) (near : k ≤ place + 1) where
    pub parted : (lo hi from to : ℕ) (v : List ℕ) → hi ≤ 256 → from ≤ max lo (get_or w.passed_below s 0)
        → min hi (get_or w.passed_from s 0) ≤ to
        → AcceptedBetween t (take place key ++ (lo ∷ [])) (take place key ++ (hi ∷ [])) v
        → AcceptedBetween t (take place key ++ (from ∷ [])) (take place key ++ (to ∷ [])) v
        ⊎ ((w.best.last < no_place) × (w.best.last + place + 1 < k + length v))
    parted lo hi from to v fits el eh i =
        let c = class-byte x wf (take place key) s lo hi e hs fits v i in
        let long = λ (h : LookedAt w s c.byte). covers.longer s c.byte hs c.fits h c.near in
        let passed : LookedAt w s c.byte → (w.best.last < no_place) × (w.best.last + place + 1 < k + length v) =
        λ h. (omega (arith, long h, c.near, room), omega (arith, long h, c.longer, front-length)) in
        ⊎_elim
        (λ h. inr (passed (inl (omega (arith, c.low, el)))))
        (λ h. ⊎_elim
        (λ g. let (low, high) = leaving (take place key) c.rest c.byte from to h g in
        inl (record { hits = i.hits; from-a = rw c.whole low; below-b = rw c.whole high }))
        (λ g. inr (passed (inr (omega (arith, c.high, eh)))))
        (cases_lt c.byte to))
        (cases_lt c.byte from)

    -- the bytes of the part, and those looked at before, are covered for the next place
    covered : (from to b : ℕ) (found : Leaving) (last : ℕ)
        → FirstBetween t d (take place key ++ (from ∷ [])) (take place key ++ (to ∷ [])) found → last ≤ w.best.last → last ≤ found.last
        → b < 256 → get_or d (next t s b) 0 < 64 → ((from ≤ b) × (b < to)) ⊎ LookedAt w s b
        → last < place + 1 + get_or d (next t s b) 0
    covered from to b found last y hb hf fits small =
        ⊎_elim
        (λ h. let (v, i, long) = shortest from b to h.0 h.1 fits small in omega (arith, (y.least v i).1, long))
        (λ h. omega (arith, covers.longer s b hs fits h small))

    -- what was covered in the other states stays so, with a best string that ends no later
    pub covers-below : (from to lo : ℕ) (found best : Leaving)
        → FirstBetween t d (take place key ++ (from ∷ [])) (take place key ++ (to ∷ [])) found
        → best.last ≤ w.best.last → best.last ≤ found.last
        → from ≡ max lo (get_or w.passed_below s 0) → to ≡ get_or w.passed_from s 0 → lo < to → states t ≤ 64
        → Covers t d (place + 1) (record { best = best; passed_below = w.passed_below; passed_from = set w.passed_from s lo })
    covers-below from to lo found best y hb hf ef et new few = record {
      long-below = covers.long-below;
      long-from = length-set w.passed_from s lo ∙ covers.long-from;
      from-fits = λ q. ⊎_elim
          (λ (is : q ≡ s). subst (λ (z : ℕ). get_or (set w.passed_from s lo) z 0 ≤ 256) (sym is)
          (omega (arith, get_or-set_same w.passed_from s lo 0 (omega (arith, covers.long-from)), et, covers.from-fits s)))
          (λ other. omega (arith, get_or-set_other w.passed_from s q lo 0 other, covers.from-fits q))
          (cases_eq q s);
      longer = λ q b hq fits h small. ⊎_elim
          (λ (is : q ≡ s). subst (λ (z : ℕ). best.last < place + 1 + get_or d (next t z b) 0) (sym is)
          (covered from to b found best.last y hb hf fits (subst (λ (z : ℕ). get_or d (next t z b) 0 < 64) is small)
          (here b (subst (λ (z : ℕ). (b < get_or w.passed_below z 0) ⊎ (get_or (set w.passed_from s lo) z 0 ≤ b)) is h))))
          (λ other. omega (
            arith,
            covers.longer q b hq fits
                (⊎_elim inl (λ g. inr (omega (arith, g, get_or-set_other w.passed_from s q lo 0 other))) h) small,
          ))
          (cases_eq q s);
    }
      where
        here : (b : ℕ) → (b < get_or w.passed_below s 0) ⊎ (get_or (set w.passed_from s lo) s 0 ≤ b)
            → ((from ≤ b) × (b < to)) ⊎ LookedAt w s b
        here b (inl h) = inr (inl h)
        here b (inr h) =
            let put = get_or-set_same w.passed_from s lo 0 (omega (arith, covers.long-from)) in
            ⊎_elim
            (λ (g : b < to). ⊎_elim (λ k. inr (inl k)) (λ k. inl (omega (arith, ef, put), g)) (cases_lt b (get_or w.passed_below s 0)))
            (λ g. inr (inr (omega (arith, et))))
            (cases_lt b to)

    pub covers-above : (from to hi : ℕ) (found best : Leaving)
        → FirstBetween t d (take place key ++ (from ∷ [])) (take place key ++ (to ∷ [])) found
        → best.last ≤ w.best.last → best.last ≤ found.last
        → from ≡ get_or w.passed_below s 0 → to ≡ min hi (get_or w.passed_from s 0) → from < hi → states t ≤ 64
        → Covers t d (place + 1) (record { best = best; passed_below = set w.passed_below s hi; passed_from = w.passed_from })
    covers-above from to hi found best y hb hf ef et new few = record {
      long-below = length-set w.passed_below s hi ∙ covers.long-below;
      long-from = covers.long-from;
      from-fits = covers.from-fits;
      longer = λ q b hq fits h small. ⊎_elim
          (λ (is : q ≡ s). subst (λ (z : ℕ). best.last < place + 1 + get_or d (next t z b) 0) (sym is)
          (covered from to b found best.last y hb hf fits (subst (λ (z : ℕ). get_or d (next t z b) 0 < 64) is small)
          (here b (subst (λ (z : ℕ). (b < get_or (set w.passed_below s hi) z 0) ⊎ (get_or w.passed_from z 0 ≤ b)) is h))))
          (λ other. omega (
            arith,
            covers.longer q b hq fits
                (⊎_elim (λ g. inl (omega (arith, g, get_or-set_other w.passed_below s q hi 0 other))) inr h) small,
          ))
          (cases_eq q s);
    }
      where
        here : (b : ℕ) → (b < get_or (set w.passed_below s hi) s 0) ⊎ (get_or w.passed_from s 0 ≤ b)
            → ((from ≤ b) × (b < to)) ⊎ LookedAt w s b
        here b (inr h) = inr (inr h)
        here b (inl h) =
            let put = get_or-set_same w.passed_below s hi 0 (omega (arith, covers.long-below)) in
            ⊎_elim
            (λ (g : b < from). inr (inl (omega (arith, ef))))
            (λ (g : from ≤ b). ⊎_elim (λ k. inl (g, omega (arith, et, put))) (λ k. inr (inr k)) (cases_lt b (get_or w.passed_from s 0)))
            (cases_lt b from)

    -- where no look is needed, all stays covered for a later place
    pub covers-later : (m : ℕ) → k ≤ m → Covers t d m w
    covers-later m h = record {
      long-below = covers.long-below;
      long-from = covers.long-from;
      from-fits = covers.from-fits;
      longer = λ q b hq fits p small. omega (arith, covers.longer q b hq fits p small);
    }
