-- Row 14, by the length that the groups of n blocks need.
use Rattle.std.proofs.Common.{arith, ap, ◌∙◌, not}
use borrow.Author.Tests.{ne_eqb}
use Rattle.index.proofs.OpeningRows.{records-other, records-same}
use Rattle.index_load.proofs.grouped.records_bad.Goals as goal

pub returns-then-deserialize_u64-metas_len : goal.returns-then-deserialize_u64-metas_len
returns-then-deserialize_u64-metas_len c =
    let a = c.args in
    ap not (ne_eqb _ _ (λ e. c.if-deserialize_u64-metas_len.true e))
    ∙ records-other a.group_len a.«data».now a.directory_len a.n c.group_count-metas_len.result c.deserialize_u64.result
    c.requires.1 c.requires.3 c.group_count-metas_len.ensures c.deserialize_u64.ensures (λ e. omega arith)

pub returns-else-deserialize_u64-metas_len : goal.returns-else-deserialize_u64-metas_len
returns-else-deserialize_u64-metas_len c =
    let a = c.args in
    records-same a.group_len a.«data».now a.directory_len a.n c.group_count-metas_len.result c.deserialize_u64.result
    c.requires.1 c.requires.3 c.group_count-metas_len.ensures c.deserialize_u64.ensures (omega arith)
