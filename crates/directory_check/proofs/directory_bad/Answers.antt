-- The last test is the last of the rules.
use Rattle.std.proofs.Common.{◌≡◌, true, arith, sym, ◌∙◌, rules, tests}
use Rattle.std.specs.Prelude.{leb}
use Rattle.std.proofs.lemmas.Bool.{leb-true}
use Rattle.directory.proofs.Rules.{last-tested}
use Rattle.directory_check.proofs.directory_bad.Goals as goal

pub returns : goal.returns
returns c =
    let n = c.number-n.result in
    let within : (leb 2 n ≡ true) × (leb n 65536 ≡ true) = search (rules, tests) in
    last-tested c.args.directory.now n c.number.result c.number-2.result c.number-n.ensures.0 c.number.ensures.0
    c.number-2.ensures.0
    (leb-true 2 n within.0) (leb-true n 65536 within.1) (omega arith) (sym c.pairs_bad.ensures ∙ c.if-pairs_bad.false)
