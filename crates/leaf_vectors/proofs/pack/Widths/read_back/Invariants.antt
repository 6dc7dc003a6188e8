-- The field before was read at a place of 16 bits.
use Rattle.std.proofs.Common.{◌≤◌}
use Rattle.leaf_vectors.proofs.pack.Widths.read_back.Given as goal

abbrev pub invariant-loop-i : goal.invariant-loop-i
invariant-loop-i l = l.at ≤ 65790
