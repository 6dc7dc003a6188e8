-- A group of a store whose groups keep row 15, as the code reads its record.
use borrow.Author.Tests.{lt-ltb}
use Prim.Native.Nat.{ℕ, ◌+◌, ◌-◌, ◌*◌, ◌≤◌, ◌<◌}
use native.Mathlib.Nat.{mul-zero}
use native.Mathlib.Omega.{arith}
use mathlib.Core.Path.{◌≡◌, refl, sym, ◌∙◌}
use mathlib.Core.List.{List}
use mathlib.Core.Bool.{Bool, true, false, not, ◌||◌}
use lib.Dec.{eqb, leb}
use Rattle.std.proofs.Math.Bool.{or-false}
use lib.ListN.{length, take, drop}
use Rattle.std.specs.Prelude.{Option, Some, None, MatchOption}
use Rattle.std.specs.Option.{unwrap_or}
use Rattle.serialize.specs.Digits.{le_val}
use Rattle.layout.proofs.Fronts.{each-kept}
use Rattle.group.specs.declared.BlockAddr.{BlockAddr}
use Rattle.group.specs.Blocks.{no_block}
use Rattle.group.specs.Legal.{limit}
use Rattle.group.specs.declared.BlockAddrBlockMetadata.{BlockAddrBlockMetadata}
use Rattle.group.specs.Read.{block_read}
use Rattle.group.specs.Facts.{Readable}
use Rattle.store.specs.Store.{group_count}
use Rattle.store.specs.Read.{group_meta}
use Rattle.store.specs.Check.{groups_bad}
use Rattle.store.proofs.Groups.{group-count-above, group-first-lt}
use Rattle.store.proofs.Rows.{groups-fronts}
use Rattle.std.proofs.lemmas.List.{take_rest}
use Rattle.store.proofs.Passed.{
  Group,
  Passed,
  first_bad,
  passed_none,
  passed-all,
  group-kept,
  group-readable,
  group-refused,
  first-refused,
  passed-turn,
  last_of,
  last_of_all,
}
use Rattle.store_read.specs.declared.BlockAddrStore.{BlockAddrStore}

-- before group g, which stands behind a block or is the first
abbrev pub Before : BlockAddrStore → Option BlockAddr → ℕ → Type 0
Before s None g = g ≡ 0
Before s (Some b) g = (0 < g) × Passed s.group_len s.metas.now s.addrs.now s.n g b

abbrev pub block_before : Option BlockAddr → BlockAddr
block_before o = unwrap_or o no_block

pub before-passed : (s : BlockAddrStore) (o : Option BlockAddr) (g : ℕ) → Before s o g → Passed s.group_len s.metas.now s.addrs.now s.n g
    (block_before o)
before-passed s None g e = rw e (passed_none s.group_len s.metas.now s.addrs.now s.n no_block)
before-passed s (Some b) g e = e.1

-- the code's test of a group's first values
pub first-tested : (s : BlockAddrStore) (m : BlockAddrBlockMetadata) (o : Option BlockAddr) (g : ℕ) (t : Bool) → Before s o g
    → MatchOption o (t ≡ (leb limit m.range_start || leb limit m.first_ordinal))
    (λ last. t ≡ ((leb limit m.range_start || leb limit m.first_ordinal) || (not (eqb m.range_start last.end) || leb m.first_ordinal
    last.first_ordinal)))
    → t ≡ first_bad m g (block_before o)
first-tested s m None g t e h = h ∙ rw e (sym (or-false (leb limit m.range_start || leb limit m.first_ordinal)))
first-tested s m (Some b) g t e h = h ∙ rw (lt-ltb 0 g e.0) refl

-- what row 16 says of a store: its last block, or that the row is hit
abbrev last_of_store : BlockAddrStore → Option BlockAddr
last_of_store s = last_of_all s.group_len s.metas.now s.addrs.now s.n (group_count s.group_len s.n)

-- the last block before the end is the last of all: a store has a group
pub all-passed : (s : BlockAddrStore) (o : Option BlockAddr) (g : ℕ) → Before s o g → g ≡ group_count s.group_len s.n
    → o ≡ last_of_store s
all-passed s None g e is =
    let none : s.n ≤ s.group_len * 0 = rw (sym is ∙ e) at (group-count-above s.len.some s.n) in
    absurd (let z : ⊥ = omega (arith, none, mul-zero s.group_len, s.records.some) in z)
all-passed s (Some b) g e is =
    passed-all s.group_len s.metas.now s.addrs.now s.n (group_count s.group_len s.n) (omega (arith, e.0)) (group-count-above s.len.some s.n)
    (rw is at e.1)

-- a group that the code goes on to: m is the record of group g of the store's `count`
module _ (s : BlockAddrStore) {g count : ℕ} {m : BlockAddrBlockMetadata} (counted : count ≡ group_count s.group_len s.n) (below : g < count)
    (is : m ≡ group_meta s.metas.now g)
    (kept : groups_bad s.group_len s.metas.now s.addrs.now s.n (group_count s.group_len s.n) ≡ false) where
  there : g < group_count s.group_len s.n
  there = rw counted at below

  group : Group s.group_len s.metas.now s.addrs.now s.n g m
  group = record {
    some = s.len.some;
    few = s.len.few;
    there = group-first-lt s.len.some s.n g there;
    is = is;
    keeps = rw is (each-kept (groups-fronts s.group_len s.metas.now s.addrs.now s.n) (group_count s.group_len s.n) kept g there);
  }

  -- the answer of its blocks, as its bytes were lent
  told : {lent : BlockAddrBlockMetadata} {d : List ℕ} → (lent ≡ m) × (d ≡ drop m.offset s.addrs.now) → {r : Option BlockAddr}
      → r ≡ last_of (block_read lent (le_val d)) lent.block_len
      → r ≡ last_of (block_read m (le_val (take (length s.addrs.now - m.offset) (drop m.offset s.addrs.now)))) m.block_len
  told e h = rw (take_rest s.addrs.now m.offset, ← e.1, ← e.0) h

  pub blocks-refused : {lent : BlockAddrBlockMetadata} {d : List ℕ} → (lent ≡ m) × (d ≡ drop m.offset s.addrs.now) → {r : Option BlockAddr}
      → r ≡ last_of (block_read lent (le_val d)) lent.block_len → r ≡ None → None ≡ last_of_store s
  blocks-refused e h none = group-refused group _ _ (told e h) none

  module _ (o : Option BlockAddr) (before : Before s o g) {t : Bool}
      (test : MatchOption o (t ≡ (leb limit m.range_start || leb limit m.first_ordinal))
      (λ last. t ≡ ((leb limit m.range_start || leb limit m.first_ordinal) || (not (eqb m.range_start last.end) || leb m.first_ordinal
      last.first_ordinal)))) where
    tested : t ≡ first_bad m g (block_before o)
    tested = first-tested s m o g t before test

    pub first-values-refused : t ≡ true → None ≡ last_of_store s
    first-values-refused h = first-refused group (before-passed s o g before) _ there (sym tested ∙ h)

    module _ (good : t ≡ false) where
      pub lends : (m.offset ≤ length s.addrs.now) × Readable m (length (drop m.offset s.addrs.now))
      lends = (
        omega (arith, (group-kept group).inside),
        rw (take_rest s.addrs.now m.offset) at (group-readable group (before-passed s o g before) (sym tested ∙ good)),
      )

      pub blocks-passed : {lent : BlockAddrBlockMetadata} {d : List ℕ} → (lent ≡ m) × (d ≡ drop m.offset s.addrs.now)
          → {r : Option BlockAddr} → r ≡ last_of (block_read lent (le_val d)) lent.block_len → {last : BlockAddr} → r ≡ Some last
          → Before s (Some last) (g + 1)
      blocks-passed e h some =
          (omega arith, passed-turn group (before-passed s o g before) (sym tested ∙ good) _ _ (told e h) some)
