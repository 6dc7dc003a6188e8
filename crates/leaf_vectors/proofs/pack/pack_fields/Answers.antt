-- After i turns the packer took the first i fields.
use Rattle.std.proofs.Common.{length, arith}
use lib.Seq.{take-length}
use Rattle.bitpacker.proofs.Packed.{packed-flushed}
use Rattle.leaf_vectors.proofs.Runs.{run-all, run_none, run_room, run-wrote}
use Rattle.leaf_vectors.proofs.pack.pack_fields.Goals as goal

pub loop-field-init : goal.loop-field-init
loop-field-init c = run_none c.args.width c.args.fields.now c.args.out.now c.new-packer.ensures

pub write-packer-requires : goal.write-packer-requires
write-packer-requires c =
    let here = c.loop-field in
    run_room c.args.width c.args.fields.now c.requires.1 here.field-index here.invariant c.loop-field-test.true c.requires.0 c.requires.2

pub loop-field-preserved : goal.loop-field-preserved
loop-field-preserved c =
    run-wrote c.args.width c.args.fields.now c.requires.1 c.loop-field.field-index c.loop-field.invariant c.write-packer.ensures

pub returns : goal.returns
returns c =
    let all = run-all _ _ _ _ _ _ (length c.args.fields.now) c.loop-field.invariant (omega arith) in
    rw (take-length c.args.fields.now) at (packed-flushed all c.flush.ensures)
