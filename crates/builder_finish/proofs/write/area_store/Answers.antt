-- `area_store` meets its contract: a checked list has what the store's writers ask.
use Rattle.builder.proofs.Row8.{list-ok, store-area}
use Rattle.builder_finish.proofs.write.area_store.Goals as goal

pub invariant_of-result : goal.invariant_of-result
invariant_of-result c = record { ok = (store-area _ _ _ (list-ok _ _ _ c.args.list.now.checked), c.requires) }
