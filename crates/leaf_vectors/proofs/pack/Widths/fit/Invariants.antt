-- Every field passed fits its width.
use Rattle.std.proofs.Common.{ℕ, ◌<◌, ◌^◌, get_or}
use Rattle.leaf_vectors.proofs.Widths.{width}
use Rattle.leaf_vectors.proofs.pack.Widths.fit.Given as goal

abbrev pub invariant-loop-i : goal.invariant-loop-i
invariant-loop-i l = (k : ℕ) → k < l.i → get_or l.fields k 0 < 2 ^ width l.self.range l.self.ordinal k
