-- A record that its own test refuses gets 20.
use Rattle.std.proofs.lemmas.Result.{err_from_is_err_and}
use Rattle.index.proofs.Lookups.{block-unfit}
use Rattle.index_lookup.proofs.grouped.get_block.Goals as goal

pub returns-in_err-check : goal.returns-in_err-check
returns-in_err-check c =
    let a = c.args in
    let p = err_from_is_err_and c.from_residual.result c.from_residual.ensures.1 in
    rw (p.1, p.2)
    (block-unfit a.group_len a.«data».now a.opened c.requires c.in_err-check.ensures.1 _ c.in_err-check.ensures.0 c.args.block_id)
