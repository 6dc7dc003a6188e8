-- Opening with the least number of terms, then row 28 for the number that is given.
use Rattle.std.proofs.Common.{sym}
use Rattle.std.proofs.lemmas.Result.{err_from_is_err_and}
use Rattle.index.proofs.Terms.{least-none, least-few, least-enough}
use Rattle.index_load.proofs.grouped.load.Goals as goal

pub returns-in_err-least : goal.returns-in_err-least
returns-in_err-least c =
    let p = err_from_is_err_and c.from_residual.result c.from_residual.ensures.1 in
    rw (p.1, p.2) (least-none c.args.group_len c.args.version c.args.terms c.args.«data».now _ (sym c.in_err-least.ensures))

pub returns-then-terms-least : goal.returns-then-terms-least
returns-then-terms-least c =
    least-few c.args.group_len c.args.version c.args.terms c.args.«data».now _ (sym c.in_ok-least.ensures) c.if-terms-least.true

pub returns : goal.returns
returns c = least-enough c.args.group_len c.args.version c.args.terms c.args.«data».now _ (sym c.in_ok-least.ensures) c.if-terms-least.false
