-- The last group at or below the ordinal, and in it the last block at or below.
use Rattle.std.proofs.Common.{◌≡◌, ◌≤◌, ◌<◌, ◌+◌, ◌*◌, ℕ, zero, suc, List, drop, arith, sym, ap, ◌∙◌, true≢false, refl}
use native.Mathlib.Nat.{mul-zero}
use Rattle.serialize.specs.Digits.{le_val}
use Rattle.group.specs.declared.BlockAddr.{BlockAddr}
use Rattle.group.specs.declared.BlockAddrBlockMetadata.{BlockAddrBlockMetadata}
use Rattle.group.specs.Rows.{are_numbers_bad}
use Rattle.group.specs.Read.{ordinal_read, block_read}
use Rattle.group.proofs.Legal.{numbers-ok, numbers-good}
use Rattle.store.specs.Store.{group_count}
use Rattle.store.specs.Read.{group_meta, len_of_group, store_block, StoreOk, Last, OrdFoundIn, OrdFoundAs}
use Rattle.store.proofs.Groups.{group-first-lt}
use Rattle.store.proofs.Lookup.{block-of-group, first-of-group, last_found}
use Rattle.store_read.proofs.BlockAddrStore.binary_search_ord.Goals as goal

module _ (L : ℕ) (recs addr : List ℕ) (some : 1 ≤ L) (ord g : ℕ) where
  -- no group but the first is found above the ordinal
  below-first : (k : ℕ) → g ≡ k → (0 < k → (group_meta recs k).first_ordinal ≤ ord) → ord < (group_meta recs k).first_ordinal
      → ord < (store_block L recs addr 0).first_ordinal
  below-first zero e low h = rw (rw (mul-zero L) at (first-of-group L recs addr some 0)) h
  below-first (suc k) e low h = absurd (let l = low (omega arith) in let z : ⊥ = omega arith in z)

  module _ (m : BlockAddrBlockMetadata) (part : List ℕ) (em : m ≡ group_meta recs g)
      (ep : part ≡ drop (group_meta recs g).offset addr) where
    -- the block read is the definition's
    read-as : (j : ℕ) → j < L → (b : BlockAddr) → b ≡ block_read m (le_val part) j → b ≡ store_block L recs addr (L * g + j)
    read-as j h b r = rw (ep, em) at r ∙ sym (block-of-group L recs addr some g j h)

    -- what the search in group g found, said of the definitions
    found : (n j : ℕ) → StoreOk L recs addr n → L * g < n → m.block_len + 1 ≡ len_of_group L n g
        → (j ≤ m.block_len) × (ordinal_read m (le_val part) j ≤ ord) × (j < m.block_len → ord < ordinal_read m (le_val part) (j + 1))
        → (g + 1 < group_count L n → ord < (group_meta recs (g + 1)).first_ordinal)
        → Last (λ i. (store_block L recs addr i).first_ordinal) n ord (L * g + j)
    found n j ok begins blocks f next =
        last_found L recs addr n ord g j some ok begins (omega arith) (rw (ep, em) at f.1) (λ h. rw (ep, em) at (f.2 (omega arith))) next

pub returns-then-group-ord-clause-ord_found_as : goal.returns-then-group-ord-clause-ord_found_as
unfolding OrdFoundAs
returns-then-group-ord-clause-ord_found_as c ok =
    let s = c.args.self.now in
    let some = rw c.in_ok-group.ensures.ok_part at c.group.ensures in (
      omega arith,
      below-first s.group_len s.metas.now s.addrs.now s.len.some c.args.ord _ _ refl c.bisect_groups-g.ensures.low
          (rw some.1 at c.if-group-ord.true),
    )

pub returns-then-numbers_bad-clause-ord_found_as : goal.returns-then-numbers_bad-clause-ord_found_as
unfolding OrdFoundAs
returns-then-numbers_bad-clause-ord_found_as c ok =
    let s = c.args.self.now in
    let some = rw c.in_ok-group.ensures.ok_part at c.group.ensures in
    let g = c.bisect_groups-g.result in
    let j = c.bisect_for_ord-inner.result in
    let begins : s.group_len * g < s.n = group-first-lt s.len.some s.n g c.bisect_groups-g.ensures.there in
    let inside : j < len_of_group s.group_len s.n g = omega (arith, c.bisect_for_ord-inner.ensures.0, some.2) in
    let read =
    read-as s.group_len s.metas.now s.addrs.now s.len.some c.args.ord g _ _ some.1 some.3 j
    (omega (arith, inside)) _ c.deserialize_block_addr-addr.ensures in
    absurd (true≢false
    (sym c.if-numbers_bad.true ∙ c.numbers_bad.ensures ∙ ap are_numbers_bad read
    ∙ numbers-good _ (ok.legal.numbers _ (omega (arith, inside, begins)))))

pub returns-clause-ord_found_in : goal.returns-clause-ord_found_in
unfolding OrdFoundIn
returns-clause-ord_found_in c =
    let s = c.args.self.now in
    let some = rw c.in_ok-group.ensures.ok_part at c.group.ensures in
    let g = c.bisect_groups-g.result in
    let begins : s.group_len * g < s.n = group-first-lt s.len.some s.n g c.bisect_groups-g.ensures.there in (
      omega (arith, begins, c.bisect_for_ord-inner.ensures.0, some.2),
      numbers-ok _ (sym c.numbers_bad.ensures ∙ c.if-numbers_bad.false),
    )

pub returns-clause-ord_found_as : goal.returns-clause-ord_found_as
unfolding OrdFoundAs
returns-clause-ord_found_as c ok =
    let s = c.args.self.now in
    let some = rw c.in_ok-group.ensures.ok_part at c.group.ensures in
    let g = c.bisect_groups-g.result in
    let j = c.bisect_for_ord-inner.result in
    let begins : s.group_len * g < s.n = group-first-lt s.len.some s.n g c.bisect_groups-g.ensures.there in (
      found s.group_len s.metas.now s.addrs.now s.len.some c.args.ord g _ _ some.1 some.3 s.n j ok begins
          some.2 c.bisect_for_ord-inner.ensures c.bisect_groups-g.ensures.high,
      read-as s.group_len s.metas.now s.addrs.now s.len.some c.args.ord g _ _ some.1 some.3 j
          (omega (arith, c.bisect_for_ord-inner.ensures.0, some.2)) _ c.deserialize_block_addr-addr.ensures,
    )
