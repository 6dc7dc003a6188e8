-- A group that the test lets pass keeps its rule, and the bytes from its offset on can be read.
use Rattle.std.proofs.Common.{arith, sym, ◌∙◌}
use Rattle.store.proofs.Lookup.{group-kept, part-readable, bad-is}
use Rattle.std.proofs.lemmas.List.{take_rest}
use Rattle.store_read.proofs.BlockAddrStore.group.Goals as goal

pub group_of-requires : goal.group_of-requires
group_of-requires c =
    let s = c.args.self.now in
    let passed = sym c.meta_bad.ensures ∙ c.if-meta_bad.false in (
      omega (arith, (group-kept _ _ s.addrs.now passed).inside),
      rw (take_rest s.addrs.now c.deserialize-meta.result.offset) at (part-readable _ _ s.addrs.now passed
          (omega (arith, c.blocks_in-count.ensures, s.len.few))),
    )

pub returns : goal.returns
returns c =
    let s = c.args.self.now in
    let m = c.deserialize-meta.ensures in
    let passed = sym c.meta_bad.ensures ∙ c.if-meta_bad.false in (
      sym (bad-is s.metas.now s.addrs.now c.args.g _ m s.group_len s.n _ _ c.blocks_in-count.ensures c.meta_bad.ensures)
          ∙ c.if-meta_bad.false,
      rw c.group_of.ensures.0 m,
      rw c.group_of.ensures.0 ((group-kept _ _ s.addrs.now passed).blocks ∙ c.blocks_in-count.ensures),
      rw m at c.group_of.ensures.1,
    )
