-- The store's own lookup, over the parts that the record names; a block of an opening keeps row 3.
use Rattle.std.proofs.Common.{◌≡◌, sym, ◌∙◌, arith, ℕ, ◌<◌, List}
use Rattle.group.specs.declared.BlockAddr.{BlockAddr}
use Rattle.group.proofs.Legal.{numbers-ok}
use Rattle.store.specs.Read.{block_or}
use Rattle.index.specs.Opening.{OpensBy}
use Rattle.index.specs.Parts.{block_in}
use Rattle.index.specs.declared.SSTableIndexV3.{SSTableIndexV3}
use Rattle.store.specs.Facts.{GroupLenOk}
use Rattle.index.specs.Lookups.{metas_at, addrs_at}
use Rattle.index.proofs.OpenFacts.{opens-facts-by}
use Rattle.index.proofs.Answered.{got-as, kept}
use Rattle.index.proofs.LookupLaws.{opened-legal}
use Rattle.index_lookup.proofs.grouped.OpenedIndex.block.Goals as goal

-- the block read, by the store's parts
read-as : (L : ℕ) (f : List ℕ) (opened : SSTableIndexV3) → GroupLenOk L → (L' n : ℕ) (metas addrs : List ℕ)
    → (n ≡ opened.n) × (L' ≡ L) × (metas ≡ metas_at opened f) × (addrs ≡ addrs_at opened f)
    → (id : ℕ) → id < opened.n → (b : BlockAddr) → b ≡ block_or L' metas addrs n id → OpensBy L f opened → b ≡ block_in L f id
read-as L f opened len L' n metas addrs is id h b e o =
    got-as L f opened (opens-facts-by L f opened len o) metas addrs is.2 is.3 id b h (rw (is.0, is.1) at e)

pub returns-then-numbers_bad : goal.returns-then-numbers_bad
returns-then-numbers_bad c =
    let s = c.args.self.now in (
      omega arith,
      λ o.
          kept (block_in s.group_len s.«data».now) s.opened.n c.args.id _
          (opened-legal _ _ _ (opens-facts-by s.group_len s.«data».now s.opened s.len o)) c.requires
          (read-as s.group_len s.«data».now s.opened s.len _ _ _ _ c.store.ensures c.args.id c.requires _ c.block-addr.ensures o)
          (sym c.numbers_bad.ensures ∙ c.if-numbers_bad.true),
    )

pub returns : goal.returns
returns c =
    let s = c.args.self.now in (
      numbers-ok _ (sym c.numbers_bad.ensures ∙ c.if-numbers_bad.false),
      read-as s.group_len s.«data».now s.opened s.len _ _ _ _ c.store.ensures c.args.id c.requires _ c.block-addr.ensures,
    )
