-- The packer took the pairs passed.
use Rattle.leaf_vectors.proofs.Groups.{Pairs}
use Rattle.leaf_vectors.proofs.pack.Widths.pack_group.Given as goal

abbrev pub invariant-loop-i : goal.invariant-loop-i
invariant-loop-i l = Pairs l.self.range l.self.ordinal l.fields l.initial.out l.out l.packer l.i
