-- `key_records` meets its contract: a checked list has what the directory's writers ask.
use Rattle.builder.proofs.Row8.{list-ok, keys-area}
use Rattle.builder_finish.proofs.write.key_records.Goals as goal

pub invariant_of-result : goal.invariant_of-result
invariant_of-result c = record { stand = keys-area _ _ _ (list-ok _ _ _ c.args.list.now.checked) }
