-- A group of a store's area is a group's area.
use Rattle.store.proofs.Groups.{group-area}
use Rattle.store_write.proofs.AreaStore.group.Goals as goal

pub invariant_of-result : goal.invariant_of-result
invariant_of-result c = let s = c.args.self.now in
    record { ok = group-area s.ok.0 s.ok.1 _ _ (rw (c.grouping.ensures.0, c.grouping.ensures.1) at c.blocks_in.ensures) c.requires }
