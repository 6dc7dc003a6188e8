-- A record that passes its test fits.
use Rattle.std.proofs.Common.{sym, ◌∙◌}
use Rattle.index.proofs.Fits.{opened-fits}
use Rattle.index_lookup.proofs.grouped.OpenedIndex.check.Goals as goal

pub invariant_of-result : goal.invariant_of-result
invariant_of-result c =
    record { len = c.requires; fits = opened-fits _ _ _ (sym c.opened_bad.ensures ∙ c.if-opened_bad.false) }
