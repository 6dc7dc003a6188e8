-- `BlockAddrStoreWriter::serialize` meets its contract: a list that hits a row is refused before anything is written.
use Rattle.std.proofs.Common.{sym}
use Rattle.std.proofs.lemmas.Result.{err_from_is_err_and}
use Rattle.layout.specs.Refusals.{number_of}
use Rattle.layout.proofs.Numbers.{number_positive}
use Rattle.store_slice.proofs.Answer.{stored_refused}
use Rattle.store_slice.proofs.writer.BlockAddrStoreWriter.serialize.Goals as goal

pub returns-in_err-check_rows-clause-stored : goal.returns-in_err-check_rows-clause-stored
returns-in_err-check_rows-clause-stored g c =
    let e = c.in_err-check_rows.field-0.0 in
    let bs = g.R.Records.blocks c.args.self.now.records.now in
    let p = err_from_is_err_and c.from_residual.result c.from_residual.ensures.1 in
    let hit = sym c.in_err-check_rows.ensures in
    rw (p.1, p.2) (stored_refused c.args.self.now.group_len bs c.args.out.now (number_of e) hit (number_positive e)).0

pub returns-in_err-check_rows-clause-bytes : goal.returns-in_err-check_rows-clause-bytes
returns-in_err-check_rows-clause-bytes g c =
    let e = c.in_err-check_rows.field-0.0 in
    let bs = g.R.Records.blocks c.args.self.now.records.now in
    let hit = sym c.in_err-check_rows.ensures in
    (stored_refused c.args.self.now.group_len bs c.args.out.now (number_of e) hit (number_positive e)).1
