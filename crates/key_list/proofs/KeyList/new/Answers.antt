-- A list that isn't bad is one in numbers.
use Rattle.std.proofs.Common.{sym, ◌∙◌}
use Rattle.key_list.proofs.Pairs.{key-list-ok}
use Rattle.key_list.proofs.KeyList.new.Goals as goal

pub invariant_of-result : goal.invariant_of-result
invariant_of-result c = record { ok = key-list-ok _ _ _ (sym c.key_list_bad.ensures ∙ c.if-key_list_bad.false) }
