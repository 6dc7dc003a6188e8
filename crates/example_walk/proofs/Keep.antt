-- The first string of an interval stays the first while the interval grows by strings that come after it.
use mathlib.Core.Path.{◌≡◌}
use mathlib.Core.List.{List, ◌∷◌}
use mathlib.Core.Logic.{◌⊎◌, inl, inr, ⊎_elim}
use Prim.Native.Nat.{ℕ, ◌+◌, ◌≤◌, ◌<◌}
use native.Mathlib.Omega.{arith}
use lib.ListN.{length, take, length-append}
use lib.Seq.{length-take-le}
use Rattle.keys.specs.Order.{◌≼◌}
use Rattle.keys.proofs.Order.{less-asym, ≺-≼-trans, ≼_refl, ≼_trans}
use Rattle.automaton.specs.Words.{Hits}
use Rattle.automaton.specs.Table.{WellFormed}
use Rattle.example_distance.specs.Distance.{Distances}
use Rattle.example_leaving.specs.First.{FirstIn}
use Rattle.example_leaving.specs.Leaving.{AcceptedBetween, FirstBetween, LeavesTo, string_with, no_place}
use Rattle.example_leaving.specs.declared.Leaving.{Leaving}
use Rattle.example_leaving.proofs.First.{not-after}
use Rattle.example_leaving.proofs.Class.{tail-length}

-- ---- a longer interval
pub between-wider : {t a b : List ℕ} (a' b' : List ℕ) → a' ≼ a → b ≼ b' → (v : List ℕ) → AcceptedBetween t a b v → AcceptedBetween t a' b' v
between-wider {t} {a} {b} a' b' l r v i =
    record { hits = i.hits; from-a = ≼_trans a' a v l i.from-a; below-b = ≺-≼-trans v b b' i.below-b r }

-- c is there, and v is longer, or no shorter and from b on
pub record After (b : List ℕ) (c : Leaving) (v : List ℕ) : Type 0 where
  pub there : c.last < no_place
  pub comes : (c.last + 1 < length v) ⊎ ((c.last < length v) × (b ≼ v))

module _ {t d : List ℕ} (x : Distances t d) (wf : WellFormed t) where
  -- a string is as long as its last place says
  pub string-length : {c : Leaving} → LeavesTo t d c → (tail : List ℕ) → FirstIn (Hits t c.state) tail
      → length (string_with c tail) ≡ c.last + 1
  string-length {c} l tail f =
      omega (
        arith,
        length-append (take c.place c.key.now) (c.byte ∷ tail),
        length-take-le c.place c.key.now l.inside,
        tail-length x c.state l.small l.near tail f,
        l.whole,
      )

  pub keep : {a b : List ℕ} {c : Leaving} (a' b' : List ℕ) → a' ≼ a → b ≼ b' → FirstBetween t d a b c
      → ((v : List ℕ) → AcceptedBetween t a' b' v → AcceptedBetween t a b v ⊎ After b c v) → FirstBetween t d a' b' c
  keep {a} {b} {c} a' b' l r z f = record {
    least = λ v i. ⊎_elim (z.least v) (λ g. (g.there, ⊎_elim (λ h. omega (arith, h)) (λ h. h.0) g.comes)) (f v i);
    leads = z.leads;
    first = λ p tail q.
        let w = z.first p tail q in
        let long = string-length (z.leads p) tail q in
        let s = string_with c tail in
        record {
          is-one = between-wider a' b' l r s w.is-one;
          first = λ v i. ⊎_elim (w.first v) (λ g. ⊎_elim (λ h. inl (omega (arith, h, long)))
              (λ h. not-after s v (omega (arith, h.0, long)) (less-asym s v (≺-≼-trans s b v w.is-one.below-b h.1))) g.comes) (f v i);
        };
  }

  -- ---- strings found below: of two equally long ones the found one is lower
  module _ {m b l r a' : List ℕ} {best found : Leaving} (z : FirstBetween t d m b best) (y : FirstBetween t d l r found)
      (from : a' ≼ l) (under : r ≼ m) (over : m ≼ b) (low : a' ≼ m)
      (others : (v : List ℕ) → AcceptedBetween t a' b v
      → AcceptedBetween t m b v ⊎ (AcceptedBetween t l r v ⊎ ((best.last < no_place) × (best.last + 1 < length v)))) where
    pub below-found : found.last ≤ best.last → FirstBetween t d a' b found
    below-found h =
        keep a' b from (≼_trans r m b under over) y
        (λ v i. ⊎_elim
        (λ j.
        let (there, k) = z.least v j in
        inr (record { there = omega (arith, there); comes = inr (omega (arith, k), ≼_trans r m v under j.from-a) }))
        (λ g. ⊎_elim inl (λ k. inr (record { there = omega (arith, k.0); comes = inl (omega (arith, k.1)) })) g)
        (others v i))

    pub below-kept : best.last < found.last → FirstBetween t d a' b best
    below-kept h =
        keep a' b low (≼_refl b) z
        (λ v i. ⊎_elim inl
        (λ g. inr (⊎_elim
        (λ j. let (there, k) = y.least v j in record { there = omega (arith, there); comes = inl (omega (arith, k)) })
        (λ k. record { there = k.0; comes = inl k.1 }) g))
        (others v i))

  -- ---- strings found above: of two equally long ones the found one is higher
  module _ {a m l r b' : List ℕ} {best found : Leaving} (z : FirstBetween t d a m best) (y : FirstBetween t d l r found)
      (over : m ≼ l) (upto : r ≼ b') (under : a ≼ m) (high : m ≼ b')
      (others : (v : List ℕ) → AcceptedBetween t a b' v
      → AcceptedBetween t a m v ⊎ (AcceptedBetween t l r v ⊎ ((best.last < no_place) × (best.last < length v) × (m ≼ v)))) where
    pub above-found : found.last < best.last → FirstBetween t d a b' found
    above-found h =
        keep a b' (≼_trans a m l under over) upto y
        (λ v i. ⊎_elim
        (λ j. let (there, k) = z.least v j in inr (record { there = omega (arith, there); comes = inl (omega (arith, k)) }))
        (λ g. ⊎_elim inl (λ k. inr (record { there = omega (arith, k.0); comes = inl (omega (arith, k.1)) })) g)
        (others v i))

    pub above-kept : best.last ≤ found.last → FirstBetween t d a b' best
    above-kept h =
        keep a b' (≼_refl a) high z
        (λ v i. ⊎_elim inl
        (λ g. inr (⊎_elim
        (λ j.
        let (there, k) = y.least v j in
        record { there = omega (arith, there); comes = inr (omega (arith, k), ≼_trans m l v over j.from-a) })
        (λ k. record { there = k.0; comes = inr (k.1, k.2) }) g))
        (others v i))
