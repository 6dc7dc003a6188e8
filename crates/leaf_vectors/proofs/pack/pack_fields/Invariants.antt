-- The packer took the fields passed.
use Rattle.leaf_vectors.proofs.Runs.{Run}
use Rattle.leaf_vectors.proofs.pack.pack_fields.Given as goal

abbrev pub invariant-loop-field : goal.invariant-loop-field
invariant-loop-field l = Run l.width l.fields l.initial.out l.out l.packer l.field-index
