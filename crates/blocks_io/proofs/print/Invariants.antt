-- The pieces before this one are written, one behind the other.
use Rattle.std.proofs.Common.{take}
use Rattle.std.specs.Io.KnownBytes.{Appends}
use mathlib.Core.List.{flatten}
use Rattle.block_lines.specs.Text.{blocks_pieces}
use Rattle.blocks_io.proofs.print.Given as goal

abbrev pub invariant-loop-i : goal.invariant-loop-i
invariant-loop-i g l = Appends (g.W.Write.contents l.initial.out) (g.W.Write.contents l.out) (flatten (take l.i (blocks_pieces l.«data»)))
