-- Each lookup has one answer: two that are exact for the same bytes are equal. An id below n has its block.
use mathlib.Core.Path.{◌≡◌, sym, ap, ◌∙◌}
use mathlib.Core.List.{List}
use mathlib.Core.Logic.{inl, inr}
use Prim.Native.Nat.{ℕ, zero, suc, ◌<◌}
use native.Mathlib.Omega.{arith}
use Rattle.group.specs.declared.BlockAddr.{BlockAddr}
use Rattle.group.specs.Legal.{Legal}
use Rattle.store.specs.Read.{Last}
use Rattle.store.proofs.Lookup.{last-unique, ordinals-rise}
use Rattle.directory.proofs.Reader.{first-unique, first_or_none}
use Rattle.index.specs.Lookups.{ByIdExact, ByOrdExact, ByKeyExact, AddrByKeyExact}

module _ (block : ℕ → BlockAddr) (n : ℕ) where
  -- each id below n has its block
  pub by-id-some : (id k : ℕ) (a : BlockAddr) → ByIdExact block n id k a → id < n → (k ≡ 0) × (a ≡ block id)
  by-id-some id k a (inl p) below = (p.0, p.2)
  by-id-some id k a (inr p) below = absurd (let z : ⊥ = omega arith in z)

  pub by-id-unique : (id k l : ℕ) (a b : BlockAddr) → ByIdExact block n id k a → ByIdExact block n id l b → (k ≡ l) × (a ≡ b)
  by-id-unique id k l a b (inl p) (inl q) = (p.0 ∙ sym q.0, p.2 ∙ sym q.2)
  by-id-unique id k l a b (inl p) (inr q) = absurd (let z : ⊥ = omega arith in z)
  by-id-unique id k l a b (inr p) (inl q) = absurd (let z : ⊥ = omega arith in z)
  by-id-unique id k l a b (inr p) (inr q) = (p.0 ∙ sym q.0, p.2 ∙ sym q.2)

  module _ (legal : Legal block n) where
    -- an ordinal below the first has no block at or below it
    none_below : (ord i : ℕ) → Last (λ j. (block j).first_ordinal) n ord i → ord < (block 0).first_ordinal → ⊥
    none_below ord zero p q = omega (arith, p.at_most)
    none_below ord (suc i) p q = omega (arith, p.at_most, ordinals-rise block n legal 0 (suc i) (omega arith) p.inside)

    -- the three cases of an ordinal exclude each other
    pub by-ord-unique : (terms ord k l i j : ℕ) (a b : BlockAddr) → ByOrdExact block n terms ord k i a → ByOrdExact block n terms ord l j b
        → (k ≡ l) × (i ≡ j) × (a ≡ b)
    by-ord-unique terms ord k l i j a b (inl p) (inl q) =
        let same : i ≡ j = last-unique (λ x. (block x).first_ordinal) n ord i j p.2 q.2 in
        (p.0 ∙ sym q.0, same, p.3 ∙ ap block same ∙ sym q.3)
    by-ord-unique terms ord k l i j a b (inl p) (inr (inl q)) = absurd (none_below ord i p.2 q.3)
    by-ord-unique terms ord k l i j a b (inl p) (inr (inr q)) = absurd (let z : ⊥ = omega (arith, p.1, q.4) in z)
    by-ord-unique terms ord k l i j a b (inr (inl p)) (inl q) = absurd (none_below ord j q.2 p.3)
    by-ord-unique terms ord k l i j a b (inr (inl p)) (inr (inl q)) = (p.0 ∙ sym q.0, p.1 ∙ sym q.1, p.2 ∙ sym q.2)
    by-ord-unique terms ord k l i j a b (inr (inl p)) (inr (inr q)) = absurd (let z : ⊥ = omega (arith, p.3, q.3) in z)
    by-ord-unique terms ord k l i j a b (inr (inr p)) (inl q) = absurd (let z : ⊥ = omega (arith, p.4, q.1) in z)
    by-ord-unique terms ord k l i j a b (inr (inr p)) (inr (inl q)) = absurd (let z : ⊥ = omega (arith, p.3, q.3) in z)
    by-ord-unique terms ord k l i j a b (inr (inr p)) (inr (inr q)) = (p.0 ∙ sym q.0, p.1 ∙ sym q.1, p.2 ∙ sym q.2)

module _ (separator : ℕ → List ℕ) (n : ℕ) (key : List ℕ) where
  pub by-key-unique : (k l i j : ℕ) → ByKeyExact separator n key k i → ByKeyExact separator n key l j → (k ≡ l) × (i ≡ j)
  by-key-unique k l i j (inl p) (inl q) = (p.0 ∙ sym q.0, first-unique separator n key i j p.1 q.1)
  by-key-unique k l i j (inl p) (inr q) = absurd (first_or_none separator n key i p.1 q.2)
  by-key-unique k l i j (inr p) (inl q) = absurd (first_or_none separator n key j q.1 p.2)
  by-key-unique k l i j (inr p) (inr q) = (p.0 ∙ sym q.0, p.1 ∙ sym q.1)

  pub addr-by-key-unique : (block : ℕ → BlockAddr) (k l i j : ℕ) (a b : BlockAddr)
      → AddrByKeyExact separator block n key k i a → AddrByKeyExact separator block n key l j b → (k ≡ l) × (i ≡ j) × (a ≡ b)
  addr-by-key-unique block k l i j a b (inl p) (inl q) =
      let same : i ≡ j = first-unique separator n key i j p.1 q.1 in
      (p.0 ∙ sym q.0, same, p.2 ∙ ap block same ∙ sym q.2)
  addr-by-key-unique block k l i j a b (inl p) (inr q) = absurd (first_or_none separator n key i p.1 q.3)
  addr-by-key-unique block k l i j a b (inr p) (inl q) = absurd (first_or_none separator n key j q.1 p.3)
  addr-by-key-unique block k l i j a b (inr p) (inr q) = (p.0 ∙ sym q.0, p.1 ∙ sym q.1, p.2 ∙ sym q.2)
