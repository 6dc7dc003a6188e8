-- The row's digits, behind `refused`.
use Rattle.std.proofs.Common.{[], ◌∷◌, ◌++◌, arith}
use Rattle.std.specs.Fmt.{HasWritten}
use Rattle.std.specs.Fmt as Fmt
use Rattle.line_text.specs.Lines.{refused_text, refused_line}
use Rattle.line_text.proofs.Decimal.{decimal_shown}
use Rattle.line_text.proofs.RefusedDisplay.fmt.Goals as goal

pub returns-clause-writes : goal.returns-clause-writes
unfolding refused_line
returns-clause-writes g c plain ok =
    let wrote : HasWritten g.W.Write.write_str_gives c.args.f.now
    (refused_text ++ (Fmt.decimal c.from-row.result ++ (10 ∷ []))) c.write.new.self = c.write.ensures.writes plain ok in
    rw (decimal_shown c.from-row.result (omega arith), c.from-row.ensures) at wrote
