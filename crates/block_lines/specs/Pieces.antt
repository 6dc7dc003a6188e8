-- What a piece prints.
use Rattle.std.specs.Prelude.{ℕ, List}
use Rattle.layout.specs.Refusals.{number_of}
use Rattle.line_text.specs.Lines.{line_of, too_long_line, refused_line}
use Rattle.block_lines.specs.declared.text.Piece.{Piece}
use Rattle.block_lines.specs.declared.text.Piece.TheVariants.{TooLong, Refused, Block}

abbrev pub piece_text : Piece → List ℕ
piece_text TooLong = too_long_line
piece_text (Refused refused) = refused_line (number_of refused.refusal)
piece_text (Block line) = line_of line.id line.block line.separator.bytes.now
