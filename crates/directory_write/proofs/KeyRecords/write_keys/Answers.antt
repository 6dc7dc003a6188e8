-- A turn copies the first of the keys left.
use Rattle.std.proofs.Common.{arith, ap, length, sym, ◌∙◌}
use Rattle.directory.proofs.Keys.{length-key_at}
use Rattle.directory.proofs.Written.{length_rest, length-left, length_none, keys-turn, keys_none}
use Rattle.directory_write.proofs.KeyRecords.write_keys.Goals as goal

-- what is copied has key i's length, and is the first of what is left
pub copy-to-requires : goal.copy-to-requires
copy-to-requires c =
    let r = c.args.self.now in
    let i = c.loop-i.i in
    omega (
      arith,
      ap length c.key.ensures,
      length-key_at r.area.now r.stride r.field r.keys.now r.n r.stand i (omega arith),
      length-left r.area.now r.stride r.field r.keys.now r.n r.stand i (omega arith),
      length_rest c.loop-i.out c.loop-i.to,
      c.loop-i.invariant.place,
      c.requires,
    )

pub loop-i-preserved : goal.loop-i-preserved
loop-i-preserved c =
    let r = c.args.self.now in
    let i = c.loop-i.i in
    record {
      place = omega (
        arith,
        ap length c.key.ensures,
        length-key_at r.area.now r.stride r.field r.keys.now r.n r.stand i (omega arith),
        length-left r.area.now r.stride r.field r.keys.now r.n r.stand i (omega arith),
        c.loop-i.invariant.place,
        c.copy-to.ensures.count,
      );
      whole = c.loop-i.invariant.whole
          ∙ rw c.copy-to.ensures.count
          (keys-turn r.area.now r.stride r.field r.keys.now r.n r.stand i
          (omega arith) c.loop-i.out c.key.result.now c.copy-to.new.to c.loop-i.to c.key.ensures
          (omega (arith, c.loop-i.invariant.place, c.requires)) c.copy-to.ensures.copied);
    }

pub returns : goal.returns
returns c =
    let r = c.args.self.now in (
      omega (arith, c.loop-i.invariant.place, length_none r.area.now r.stride r.field r.keys.now r.n c.loop-i.i (omega arith)),
      sym (c.loop-i.invariant.whole
          ∙ keys_none r.area.now r.stride r.field r.keys.now r.n c.loop-i.i (omega arith) c.loop-i.out c.loop-i.to),
    )
