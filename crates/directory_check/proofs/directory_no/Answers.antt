-- A directory that keeps row 12 has its count, which is that of an index.
use Rattle.std.proofs.Common.{arith, sym, ◌∙◌}
use Rattle.directory.proofs.Rules.{directory-kept}
use Rattle.directory_check.proofs.directory_no.Goals as goal

pub number-n-requires : goal.number-n-requires
number-n-requires c =
    omega (arith, (directory-kept c.args.directory.now (sym c.directory_bad.ensures ∙ c.if-directory_bad.false)).fits)

pub invariant_of-keys_bad : goal.invariant_of-keys_bad
invariant_of-keys_bad c =
    let kept = directory-kept c.args.directory.now (sym c.directory_bad.ensures ∙ c.if-directory_bad.false) in
    record { counted = (omega (arith, kept.some, c.number-n.ensures.0), omega (arith, kept.few, c.number-n.ensures.0)) }
