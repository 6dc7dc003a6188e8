-- A turn writes the first of the pairs left.
use Rattle.std.proofs.Common.{arith, ap, ◌≡◌, length, ◌*◌, sym, ◌∙◌}
use Rattle.directory.specs.Keys.{length_at}
use Rattle.directory.proofs.Keys.{length-key_at}
use Rattle.directory.proofs.Written.{pairs-turn, pairs-none}
use Rattle.directory_write.proofs.KeyRecords.write_pairs.Goals as goal

pub loop-i-preserved : goal.loop-i-preserved
loop-i-preserved c =
    let r = c.args.self.now in
    let i = c.loop-i.i in
    let e : length c.key-len.result.now ≡ length_at r.area.now r.stride r.field i
    = ap length c.key-len.ensures ∙ length-key_at r.area.now r.stride r.field r.keys.now r.n r.stand i (omega arith) in
    record {
      most = omega (arith, e, r.stand.short i (omega arith), c.loop-i.invariant.most);
      whole = c.loop-i.invariant.whole ∙ rw e
          (pairs-turn r.area.now r.stride r.field r.keys.now r.n r.stand i
          (omega arith) c.loop-i.out c.serialize_u32.new.out c.serialize_u32-in-loop-i.new.out c.loop-i.offset
          c.serialize_u32.ensures (rw e at c.serialize_u32-in-loop-i.ensures));
    }

pub returns : goal.returns
returns c =
    let r = c.args.self.now in
    sym (c.loop-i.invariant.whole
    ∙ pairs-none r.area.now r.stride r.field r.keys.now r.n c.loop-i.i (omega arith) c.loop-i.out (8 * c.loop-i.i) c.loop-i.offset)
