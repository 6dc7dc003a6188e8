-- `serialize` meets its contract where no index has the version: 30.
use Rattle.std.proofs.lemmas.Result.{err_from_is_err_and}
use Rattle.layout.proofs.Numbers.{number_positive}
use Rattle.store_slice.specs.Numbers.{blocks_of_numbers}
use Rattle.store_slice.proofs.Answer.{version_refused}
use Rattle.store_slice_numbers.proofs.serialize.Goals as goal

pub returns-in_err-check_version : goal.returns-in_err-check_version
returns-in_err-check_version c =
    let p = err_from_is_err_and c.from_residual.result c.from_residual.ensures.1 in
    rw (p.1, p.2) (version_refused c.args.version (blocks_of_numbers c.args.blocks.now) c.args.out.now _ c.in_err-check_version.ensures
    (number_positive c.in_err-check_version.field-0.0))
