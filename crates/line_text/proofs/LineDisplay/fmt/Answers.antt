-- The digits of each number, and the separator's text behind them.
use Rattle.std.proofs.Common.{[], ◌∷◌, ◌++◌, arith}
use Rattle.std.specs.Fmt.{HasWritten}
use Rattle.std.specs.Fmt as Fmt
use Rattle.line_text.specs.Lines.{line_of, separator_text}
use Rattle.line_text.proofs.Decimal.{decimal_shown}
use Rattle.line_text.proofs.LineDisplay.fmt.Goals as goal

pub returns-clause-writes : goal.returns-clause-writes
unfolding line_of
returns-clause-writes g c plain ok =
    let line = c.args.self.now in
    let wrote : HasWritten g.W.Write.write_str_gives c.args.f.now
    (Fmt.decimal line.id
    ++ (32 ∷ (Fmt.decimal line.block.start
    ++ (32 ∷ (Fmt.decimal line.block.end
    ++ (32 ∷ (Fmt.decimal line.block.first_ordinal
    ++ (32 ∷ (separator_text line.separator.bytes.now ++ (10 ∷ [])))))))))) c.write.new.self =
    c.write.ensures.writes plain ok in
    rw (
      decimal_shown line.id (omega arith),
      decimal_shown line.block.start (omega arith),
      decimal_shown line.block.end (omega arith),
      decimal_shown line.block.first_ordinal (omega arith),
    ) at wrote
