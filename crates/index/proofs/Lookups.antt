-- What each lookup promises follows from what the store and the directory answer: of a record that row 20 refuses, and of one that fits.
use mathlib.Core.Path.{◌≡◌, refl}
use mathlib.Core.Bool.{true, cond}
use mathlib.Core.List.{List}
use mathlib.Core.Logic.{◌⊎◌, inl, inr}
use lib.Dec.{ltb}
use Prim.Native.Nat.{ℕ, ◌≤◌, ◌<◌}
use Rattle.std.specs.Prelude.{Result, Ok, Err, MatchResult}
use lib.ListN.{length}
use Rattle.layout.specs.declared.refusals.Refusal.{Refusal}
use Rattle.layout.specs.Refusals.{number_of}
use Rattle.group.specs.declared.BlockAddr.{BlockAddr}
use Rattle.group.specs.Blocks.{no_block}
use Rattle.group.specs.Legal.{NumbersOk}
use Rattle.store.specs.declared.Located.{Located}
use Rattle.store.specs.Read.{OrdFoundIn, OrdFoundAs}
use Rattle.store.specs.Facts.{GroupLenOk}
use Rattle.directory.specs.Read.{First, FoundIn, FoundAs}
use Rattle.index.specs.declared.SSTableIndexV3.{SSTableIndexV3}
use Rattle.index.specs.Parts.{block_in, separator_in}
use Rattle.index.specs.Opening.{OpensBy}
use Rattle.index.specs.Answers.{by_id_no, by_id_addr, id_no, id_of, located_no, located_id, located_addr}
use Rattle.index.specs.Lookups.{opened_bad_by, OpenedFits, first_ordinal_at}
use Rattle.index.specs.Lookups.{GetBlockBy, LocateWithOrdBy, LocateWithKeyBy, GetBlockWithKeyBy, OrdRefuses}
use Rattle.index.proofs.Fits.{bad-unfit}
use Rattle.index.proofs.OpenFacts.{opens-facts-by}
use Rattle.index.proofs.Answered.{bad-unopened, beyond-refused, beyond-exact, first-as}

module _ (L : ℕ) (f : List ℕ) (opened : SSTableIndexV3) where
  -- ---- a record that its own test refuses

  module _ (len : GroupLenOk L) (bad : opened_bad_by L opened (length f) ≡ true) (k : ℕ) (unfit : k ≡ 20) where
    pub block-unfit : (id : ℕ) → GetBlockBy L f opened id k no_block
    block-unfit id =
        record { allowed = inr (inr unfit, refl); unfit = λ e. unfit; exact = λ o. absurd (bad-unopened L f opened len bad o) }

    pub ord-unfit : (ord : ℕ) → LocateWithOrdBy L f opened ord k 0 no_block
    ord-unfit ord =
        record { allowed = inr (inr (inr unfit), refl, refl); unfit = λ e. unfit; exact = λ o. absurd (bad-unopened L f opened len bad o) }

    pub key-unfit : (key : List ℕ) → LocateWithKeyBy L f opened key k 0
    key-unfit key =
        record { allowed = inr (inr unfit, refl); unfit = λ e. unfit; exact = λ o. absurd (bad-unopened L f opened len bad o) }

    pub addr-unfit : (key : List ℕ) → GetBlockWithKeyBy L f opened key k 0 no_block
    addr-unfit key =
        record { allowed = inr (inr unfit, refl, refl); unfit = λ e. unfit; exact = λ o. absurd (bad-unopened L f opened len bad o) }

  -- ---- a record that fits

  -- what a block that is there is read as
  abbrev pub BlockRead : ℕ → Result BlockAddr Refusal → Type 0
  BlockRead id r =
      MatchResult r (λ addr. NumbersOk addr × (OpensBy L f opened → addr ≡ block_in L f id))
      (λ refusal. (number_of refusal ≡ 20) × (OpensBy L f opened → ⊥))

  module _ (fits : OpenedFits L opened (length f)) where
    fit : (k : ℕ) → opened_bad_by L opened (length f) ≡ true → k ≡ 20
    fit k e = absurd (bad-unfit L opened (length f) e fits)

    -- by id
    pub block-unknown : (id : ℕ) → opened.n ≤ id → GetBlockBy L f opened id 17 no_block
    block-unknown id h = record { allowed = inr (inl refl, refl); unfit = fit 17; exact = λ o. inr (refl, h, refl) }

    pub block-answer : (id : ℕ) → id < opened.n → (r : Result BlockAddr Refusal) → BlockRead id r
        → GetBlockBy L f opened id (by_id_no r) (by_id_addr r)
    block-answer id h (Ok addr) p = record { allowed = inl (refl, h, p.0); unfit = fit 0; exact = λ o. inl (refl, h, p.1 o) }
    block-answer id h (Err refusal) p = record { allowed = inr (inr p.0, refl); unfit = λ e. p.0; exact = λ o. absurd (p.1 o) }

    -- by ordinal: not below the number of terms,
    pub ord-beyond : GroupLenOk L → (ord k : ℕ) → opened.terms ≤ ord → k ≡ cond (ltb ord (first_ordinal_at opened f)) 18 29
        → LocateWithOrdBy L f opened ord k 0 no_block
    ord-beyond len ord k h e =
        record {
          allowed = inr (beyond-refused opened.terms (first_ordinal_at opened f) ord k h e, refl, refl);
          unfit = fit k;
          exact = λ o. beyond-exact opened.terms (first_ordinal_at opened f) ord k h e (block_in L f) opened.n
              (first-as L f opened (opens-facts-by L f opened len o));
        }

    -- and below it
    refuses : (ord k : ℕ) → ((k ≡ 18) × (ord < first_ordinal_at opened f)) ⊎ (k ≡ 20)
        → OrdRefuses opened.terms (first_ordinal_at opened f) ord k
    refuses ord k (inl p) = inl p
    refuses ord k (inr e) = inr (inr e)

    pub ord-answer : (ord : ℕ) (r : Result Located Refusal) → ord < opened.terms → OrdFoundIn opened.n (first_ordinal_at opened f) ord r
        → (OpensBy L f opened → OrdFoundAs (block_in L f) opened.n ord r)
        → LocateWithOrdBy L f opened ord (located_no r) (located_id r) (located_addr r)
    unfolding OrdFoundIn OrdFoundAs
    ord-answer ord (Ok at) h p q =
        record { allowed = inl (refl, h, p.0, p.1); unfit = fit 0; exact = λ o. inl (refl, h, (q o).0, (q o).1) }
    ord-answer ord (Err refusal) h p q =
        record {
          allowed = inr (refuses ord (number_of refusal) p, refl, refl);
          unfit = fit (number_of refusal);
          exact = λ o. inr (inl ((q o).0, refl, refl, (q o).1));
        }

    module _ (key : List ℕ) where
      -- by key
      pub key-answer : (r : Result ℕ Refusal) → FoundIn opened.n r → (OpensBy L f opened → FoundAs (separator_in f) opened.n key r)
          → LocateWithKeyBy L f opened key (id_no r) (id_of r)
      unfolding FoundIn FoundAs
      key-answer (Ok id) p q = record { allowed = inl (refl, p); unfit = fit 0; exact = λ o. inl (refl, q o) }
      key-answer (Err refusal) p q =
          record { allowed = inr (p, refl); unfit = fit (number_of refusal); exact = λ o. inr ((q o).0, refl, (q o).1) }

      -- by key with the block's address: no block, or one that is read
      pub addr-refused : (refusal : Refusal) → FoundIn opened.n (Err refusal)
          → (OpensBy L f opened → FoundAs (separator_in f) opened.n key (Err refusal))
          → GetBlockWithKeyBy L f opened key (number_of refusal) 0 no_block
      unfolding FoundIn FoundAs
      addr-refused refusal p q =
          record { allowed = inr (p, refl, refl); unfit = fit (number_of refusal); exact = λ o. inr ((q o).0, refl, refl, (q o).1) }

      pub addr-unread : (k : ℕ) → k ≡ 20 → (OpensBy L f opened → ⊥) → GetBlockWithKeyBy L f opened key k 0 no_block
      addr-unread k e p = record { allowed = inr (inr e, refl, refl); unfit = λ u. e; exact = λ o. absurd (p o) }

      pub addr-answer : (id : ℕ) (addr : BlockAddr) → id < opened.n → (OpensBy L f opened → First (separator_in f) opened.n key id)
          → NumbersOk addr
          → (OpensBy L f opened → addr ≡ block_in L f id) → GetBlockWithKeyBy L f opened key 0 id addr
      addr-answer id addr h p numbers q =
          record { allowed = inl (refl, h, numbers); unfit = fit 0; exact = λ o. inl (refl, p o, q o) }
