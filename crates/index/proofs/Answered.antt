-- Laws of the lookups: what the store and the directory find is what the index's lookups are defined to find.
use mathlib.Core.Path.{◌≡◌, refl, sym, ap, ◌∙◌}
use mathlib.Core.Bool.{true, cond, true≢false}
use mathlib.Core.List.{List}
use mathlib.Core.Logic.{◌⊎◌, inl, inr, ⊎_elim}
use Prim.Native.Nat.{ℕ, ◌≤◌, ◌<◌}
use native.Mathlib.Nat.{mul-zero}
use native.Mathlib.Omega.{arith}
use lib.Dec.{ltb}
use borrow.Author.Tests.{ltb-true, ltb-false}
use borrow.Table.Steps.{cases}
use Rattle.std.specs.Prelude.{Result}
use lib.ListN.{length, drop, length-take, length-drop}
use Rattle.group.specs.declared.BlockAddr.{BlockAddr}
use Rattle.group.specs.Legal.{Legal}
use Rattle.group.specs.Blocks.{no_block}
use Rattle.group.specs.Rows.{are_numbers_bad}
use Rattle.group.proofs.Legal.{numbers-good}
use Rattle.store.specs.Read.{group_meta, store_block, block_or, StoreOk, OrdFoundAs}
use Rattle.store.specs.Facts.{GroupLenOk, GroupRecordsOk}
use Rattle.store.specs.declared.Located.{Located}
use Rattle.store.proofs.Lookup.{read-block, first-of-group}
use Rattle.directory.specs.Read.{key_of, Sorted, FoundAs}
use Rattle.layout.specs.declared.refusals.Refusal.{Refusal}
use Rattle.index.specs.declared.SSTableIndexV3.{SSTableIndexV3}
use Rattle.index.specs.Parts.{group_records_part, addrs_part, directory_part, count_in, block_in, separator_in}
use Rattle.index.specs.Opening.{OpensBy}
use Rattle.index.specs.Lookups.{opened_bad_by, OpenedFits, directory_at, metas_at, addrs_at, first_ordinal_at, Refuses, OrdRefuses, ByOrdExact}
use Rattle.index.proofs.Fits.{bad-unfit}
use Rattle.index.proofs.OpenFacts.{OpenFacts, opens-facts-by}

-- a record that row 20 refuses comes from no opening of the bytes
pub bad-unopened : (L : ℕ) (f : List ℕ) (opened : SSTableIndexV3) → GroupLenOk L → opened_bad_by L opened (length f) ≡ true
    → OpensBy L f opened → ⊥
bad-unopened L f opened len e o = bad-unfit L opened (length f) e (opens-facts-by L f opened len o).fits

-- group records enough
pub enough-records : (L : ℕ) (f : List ℕ) (opened : SSTableIndexV3) (recs : List ℕ) → OpenedFits L opened (length f) → recs ≡ metas_at opened f
    → GroupRecordsOk L recs opened.n
enough-records L f opened recs fits e = record {
  some = fits.some;
  few = fits.few;
  long = rw e (omega (arith, fits, length-take opened.metas_len (drop opened.metas f), length-drop opened.metas f));
}

-- ---- a block that was read

-- a legal one keeps row 3
pub kept : (block : ℕ → BlockAddr) (n i : ℕ) (b : BlockAddr) → Legal block n → i < n → b ≡ block i → are_numbers_bad b ≡ true → ⊥
kept block n i b legal h e bad = true≢false (sym bad ∙ numbers-good b (rw e (legal.numbers i h)))

-- ---- a refusal's number is above 0

pub refuses-above : (row k : ℕ) → 0 < row → Refuses row k → 0 < k
refuses-above row k h (inl e) = omega arith
refuses-above row k h (inr e) = omega arith

-- ---- an ordinal that isn't below the number of terms

module _ (terms first ord k : ℕ) (h : terms ≤ ord) (e : k ≡ cond (ltb ord first) 18 29) where
  -- below the first, or not
  beyond : ((k ≡ 18) × (ord < first)) ⊎ ((k ≡ 29) × (first ≤ ord))
  beyond = cases (ltb ord first) (λ t. inl (rw t at e, ltb-true ord first t)) (λ t. inr (rw t at e, ltb-false ord first t))

  pub beyond-refused : OrdRefuses terms first ord k
  beyond-refused = ⊎_elim (λ p. inl p) (λ p. inr (inl (p.0, p.1, h))) beyond

  pub beyond-exact : (block : ℕ → BlockAddr) (n : ℕ) → first ≡ (block 0).first_ordinal → ByOrdExact block n terms ord k 0 no_block
  beyond-exact block n same =
      ⊎_elim
      (λ p. inr (inl (p.0, refl, refl, rw same at p.1)))
      (λ p. inr (inr (p.0, refl, refl, rw same at p.1, h)))
      beyond

-- ---- bytes and record of one opening

module _ (L : ℕ) (f : List ℕ) (opened : SSTableIndexV3) (facts : OpenFacts L f opened) where
  module _ (recs addr : List ℕ) (p : recs ≡ metas_at opened f) (q : addr ≡ addrs_at opened f) where
    recs-are : recs ≡ group_records_part f
    recs-are = p ∙ facts.metas

    addr-are : addr ≡ addrs_part f
    addr-are = q ∙ facts.addrs

    -- by id
    pub got-as : (id : ℕ) (b : BlockAddr) → id < opened.n → b ≡ block_or L recs addr opened.n id → b ≡ block_in L f id
    unfolding block_in
    got-as id b h e =
        e
        ∙ rw (recs-are, addr-are, facts.count)
        (read-block L (group_records_part f) (addrs_part f) (count_in f) id facts.group.some facts.ok (rw facts.count at h))

    -- by ordinal
    pub located-as : (ord : ℕ) (r : Result Located Refusal)
        → (StoreOk L recs addr opened.n → OrdFoundAs (store_block L recs addr) opened.n ord r) → OrdFoundAs (block_in L f) opened.n ord r
    unfolding block_in
    located-as ord r h = rw (recs-are, addr-are) at (h (rw (recs-are, addr-are, facts.count) facts.ok))

  -- the first ordinal of the first group is the first block's
  pub first-as : first_ordinal_at opened f ≡ (block_in L f 0).first_ordinal
  unfolding block_in
  first-as =
      ap (λ (recs : List ℕ). (group_meta recs 0).first_ordinal) facts.metas
      ∙ sym (rw (mul-zero L) at (first-of-group L (group_records_part f) (addrs_part f) facts.group.some 0))

  -- by key
  pub found_as : (d : List ℕ) → d ≡ directory_at opened f → (key : List ℕ) (r : Result ℕ Refusal)
      → (Sorted d opened.n → FoundAs (key_of d opened.n) opened.n key r) → FoundAs (separator_in f) opened.n key r
  unfolding separator_in
  found_as d e key r h =
      let same : d ≡ directory_part f = e ∙ facts.directory in
      rw facts.count (rw (same, facts.count) at (h (rw (same, facts.count) facts.sorted)))
