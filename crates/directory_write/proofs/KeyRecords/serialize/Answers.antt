-- The number of keys, the pairs and the keys stand one behind the other, in an output that has room for each.
use Rattle.std.proofs.Common.{arith, List, ℕ, ◌+◌, ◌*◌, ◌-◌, ◌≤◌, length}
use borrow.Rule.Slice.PartMut.{put_mid}
use Rattle.directory.specs.Directory.{directory_bytes, key_bytes}
use Rattle.directory.proofs.Keys.{length-keys_at}
use Rattle.directory.proofs.Lengths.{length-keys_at-directory}
use Rattle.directory.proofs.Written.{length_rest, directory-written}
use Rattle.directory_write.specs.Records.{record_keys}
use Rattle.directory_write.specs.declared.KeyRecords as code
use Rattle.directory_write.proofs.KeyRecords.serialize.Goals as goal

room : (r : code.KeyRecords) (out : List ℕ) → length (directory_bytes (record_keys r)) ≤ length out
    → 4 + 8 * r.n + length (key_bytes (record_keys r)) ≤ length out
room r out h = omega (arith, length-keys_at-directory r.area.now r.stride r.field r.keys.now r.n)

pub serialize_u32-requires : goal.serialize_u32-requires
serialize_u32-requires c = omega (arith, room c.args.self.now _ c.requires)

pub slice_bounds-write_pairs-count : goal.slice_bounds-write_pairs-count
slice_bounds-write_pairs-count c = omega (arith, room c.args.self.now _ c.requires)

pub slice_bounds-write_pairs-start : goal.slice_bounds-write_pairs-start
slice_bounds-write_pairs-start c = omega (arith, room c.args.self.now _ c.requires)

pub write_pairs-requires : goal.write_pairs-requires
write_pairs-requires c = omega (arith, room c.args.self.now _ c.requires, length_rest c.serialize_u32.new.out 4)

pub slice_bounds-write_keys-count : goal.slice_bounds-write_keys-count
slice_bounds-write_keys-count c = omega (arith, room c.args.self.now _ c.requires)

pub slice_bounds-write_keys-start : goal.slice_bounds-write_keys-start
slice_bounds-write_keys-start c = omega (arith, room c.args.self.now _ c.requires)

pub write_keys-requires : goal.write_keys-requires
write_keys-requires c =
    let a = c.serialize_u32.new.out in
    let p = c.write_pairs.new.out in
    omega (arith, room c.args.self.now _ c.requires, length_rest (put_mid 4 (length a - 4) a p) (4 + 8 * c.args.self.now.n))

pub overflow_add-result : goal.overflow_add-result
overflow_add-result c = omega (arith, room c.args.self.now _ c.requires, c.write_keys.ensures.0)

pub returns : goal.returns
returns c =
    let r = c.args.self.now in (
      omega (arith, c.write_keys.ensures.0, length-keys_at-directory r.area.now r.stride r.field r.keys.now r.n),
      directory-written (record_keys r) r.n c.args.out.now c.serialize_u32.new.out c.write_pairs.new.out c.write_keys.new.out
          (length-keys_at r.area.now r.stride r.field r.keys.now 0 r.n)
          c.serialize_u32.ensures c.write_pairs.ensures c.write_keys.ensures.1,
    )
