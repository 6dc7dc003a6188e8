-- Rows 15 and 16 over a whole store, as tests and as facts: a store that has no number keeps the rules, and one that keeps them has none.
use mathlib.Core.Path.{◌≡◌, refl}
use mathlib.Core.Bool.{Bool, false, ◌||◌}
use mathlib.Core.List.{List}
use Prim.Native.Nat.{ℕ, zero, suc, ◌≤◌, ◌<◌}
use lib.ListN.{length}
use Rattle.std.proofs.lemmas.Bool.{or_parts}
use Rattle.layout.proofs.Fronts.{Fronts, each-kept, all-kept}
use Rattle.layout.proofs.Rows.{cond-zero}
use Rattle.group.specs.declared.BlockAddr.{BlockAddr}
use Rattle.group.specs.Legal.{NumbersOk, Follows, Legal}
use Rattle.group.specs.Rows.{are_numbers_bad, is_join_bad, is_ordinal_bad}
use Rattle.group.specs.Read.{group_bad, first_values_bad}
use Rattle.group.proofs.Legal.{numbers-ok, numbers-good, follows, joins, ordinal-rises}
use Rattle.store.specs.Store.{group_count}
use Rattle.store.specs.Read.{group_meta, len_of_group, store_block, meta_bad, StoreOk}
use Rattle.store.specs.Check.{groups_bad, firsts_bad, blocks_bad, store_no}

-- ---- row 15

module _ (L : ℕ) (recs addr : List ℕ) (n : ℕ) where
  abbrev pub group_rule : ℕ → Bool
  group_rule g = group_bad (group_meta recs g) (len_of_group L n g) (length addr)

  pub groups-fronts : Fronts (groups_bad L recs addr n) group_rule
  unfolding groups_bad
  groups-fronts = record { none = refl; more = λ k. refl }

-- ---- row 16: first values

module _ (recs : List ℕ) where
  abbrev first_rule : ℕ → Bool
  first_rule g = first_values_bad (group_meta recs g)

  pub firsts-fronts : Fronts (firsts_bad recs) first_rule
  unfolding firsts_bad
  firsts-fronts = record { none = refl; more = λ k. refl }

-- ---- row 16: blocks

module _ (block : ℕ → BlockAddr) where
  block_rule : ℕ → Bool
  block_rule zero = are_numbers_bad (block 0)
  block_rule (suc m) =
      are_numbers_bad (block (suc m)) || (is_join_bad (block m) (block (suc m)) || is_ordinal_bad (block m) (block (suc m)))

  more-blocks : (k : ℕ) → blocks_bad block (suc k) ≡ (blocks_bad block k || block_rule k)
  unfolding blocks_bad block_rule
  more-blocks zero = refl
  more-blocks (suc k) = refl

  blocks-fronts : Fronts (blocks_bad block) block_rule
  unfolding blocks_bad
  blocks-fronts = record { none = refl; more = more-blocks }

  rule-numbers : (i : ℕ) → block_rule i ≡ false → NumbersOk (block i)
  unfolding block_rule
  rule-numbers zero e = numbers-ok (block 0) e
  rule-numbers (suc i) e = numbers-ok (block (suc i)) (or_parts (are_numbers_bad (block (suc i))) _ e).0

  rule-follows : (i : ℕ) → block_rule (suc i) ≡ false → Follows (block i) (block (suc i))
  unfolding block_rule
  rule-follows i e =
      let both = or_parts (is_join_bad (block i) (block (suc i))) _ (or_parts (are_numbers_bad (block (suc i))) _ e).1 in
      follows (block i) (block (suc i)) both.0 both.1

  pub blocks-kept : (n : ℕ) → blocks_bad block n ≡ false → Legal block n
  blocks-kept n e = record {
    numbers = λ i h. rule-numbers i (each-kept blocks-fronts n e i h);
    follows = λ i h. rule-follows i (each-kept blocks-fronts n e (suc i) h);
  }

  rule-kept : (n i : ℕ) → Legal block n → i < n → block_rule i ≡ false
  unfolding block_rule
  rule-kept n zero legal h = numbers-good (block 0) (legal.numbers 0 h)
  rule-kept n (suc i) legal h =
      let next = legal.follows i h in
      rw (
        numbers-good (block (suc i)) (legal.numbers (suc i) h),
        joins (block i) (block (suc i)) next,
        ordinal-rises (block i) (block (suc i)) next,
      )

  pub blocks-keep : (n : ℕ) → Legal block n → blocks_bad block n ≡ false
  blocks-keep n legal = all-kept blocks-fronts n (λ i h. rule-kept n i legal h)

-- ---- both rows

pub store_kept : (L : ℕ) (recs addr : List ℕ) (n : ℕ) → 1 ≤ L → 1 ≤ n → store_no L recs addr n ≡ 0 → StoreOk L recs addr n
unfolding store_no meta_bad
store_kept L recs addr n some more e =
    let row15 = cond-zero (groups_bad L recs addr n (group_count L n)) 14 _ e in
    let row16 = or_parts (firsts_bad recs (group_count L n)) (blocks_bad (store_block L recs addr) n) (cond-zero _ 15 0 row15.1).0 in
    record {
      groups = λ g h. rw (each-kept (groups-fronts L recs addr n) _ row15.0 g h, each-kept (firsts-fronts recs) _ row16.0 g h) refl;
      legal = blocks-kept (store_block L recs addr) n row16.1;
    }

pub store_keeps : (L : ℕ) (recs addr : List ℕ) (n : ℕ) → 1 ≤ L → 1 ≤ n → StoreOk L recs addr n → store_no L recs addr n ≡ 0
unfolding store_no meta_bad
store_keeps L recs addr n some more ok =
    rw (
      all-kept (groups-fronts L recs addr n) (group_count L n) (λ g h. (or_parts _ (first_rule recs g) (ok.groups g h)).0),
      all-kept (firsts-fronts recs) (group_count L n) (λ g h. (or_parts (group_rule L recs addr n g) _ (ok.groups g h)).1),
      blocks-keep (store_block L recs addr) n ok.legal,
    )
