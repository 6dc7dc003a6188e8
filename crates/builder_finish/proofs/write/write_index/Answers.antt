-- `write_index` meets its contract: directory, store and the directory's length stand one after the other.
use Rattle.std.proofs.Common.{◌≡◌, refl, ℕ, ◌+◌, ◌≤◌, List, length, sym, ap, ◌∙◌, arith}
use Rattle.builder.specs.Index.{settings_of}
use Rattle.builder.specs.Finish.{area_index}
use Rattle.builder_list.specs.declared.CheckedList.{CheckedList}
use Rattle.builder.proofs.IndexWritten.{directory_of, store_of, directory-some, index-some, index-length, length_rest, index-written}
use Rattle.builder_finish.proofs.write.write_index.Goals as goal

-- the output has room for each part, where the directory is laid
module _ (list : CheckedList) (group_len : ℕ) (out : List ℕ) where
  abbrev store : List ℕ
  store = store_of (settings_of group_len) list.areas.builder list.areas.blocks.now list.areas.keys.now

  room : 2 ≤ list.areas.builder.n
      → length (area_index (settings_of group_len) list.areas.builder list.areas.blocks.now list.areas.keys.now) ≤ length out
      → {laid : ℕ} → laid ≡ length (directory_of list.areas.builder list.areas.blocks.now list.areas.keys.now)
      → laid + length store + 8 ≤ length out
  room some fits e =
      omega (arith, index-length (settings_of group_len) list.areas.builder list.areas.blocks.now list.areas.keys.now some)

pub serialize-directory-requires : goal.serialize-directory-requires
serialize-directory-requires c =
    rw c.key_records.ensures (omega (arith, room c.args.list.now c.args.group_len c.args.out.now c.requires.0 c.requires.3 refl))

pub slice_bounds-serialize-start : goal.slice_bounds-serialize-start
slice_bounds-serialize-start c =
    let laid = rw c.key_records.ensures at c.serialize-directory.ensures.0 in
    omega (arith, room c.args.list.now c.args.group_len c.args.out.now c.requires.0 c.requires.3 laid)

pub slice_bounds-serialize-count : goal.slice_bounds-serialize-count
slice_bounds-serialize-count c =
    let laid = rw c.key_records.ensures at c.serialize-directory.ensures.0 in
    omega (arith, room c.args.list.now c.args.group_len c.args.out.now c.requires.0 c.requires.3 laid)

pub serialize-store-requires : goal.serialize-store-requires
serialize-store-requires c =
    let first = c.serialize-directory in
    let laid = rw c.key_records.ensures at first.ensures in
    let e = c.area_store.ensures in
    let left = room c.args.list.now c.args.group_len c.args.out.now c.requires.0 c.requires.3 laid.0 in
    rw (e.0, e.1, e.2, e.3) (c.requires.2, omega (arith, left, length_rest first.new.out first.result))

pub overflow_add-directory : goal.overflow_add-directory
overflow_add-directory c =
    let laid = rw c.key_records.ensures at c.serialize-directory.ensures.0 in
    let e = c.area_store.ensures in
    let stored = rw (e.0, e.1, e.2, e.3) at c.serialize-store.ensures in
    omega (arith, room c.args.list.now c.args.group_len c.args.out.now c.requires.0 c.requires.3 laid, stored.value)

pub serialize_u64-requires : goal.serialize_u64-requires
serialize_u64-requires c =
    let laid = rw c.key_records.ensures at c.serialize-directory.ensures.0 in
    let e = c.area_store.ensures in
    let stored = rw (e.0, e.1, e.2, e.3) at c.serialize-store.ensures in
    omega (arith, room c.args.list.now c.args.group_len c.args.out.now c.requires.0 c.requires.3 laid, stored.value)

pub returns : goal.returns
returns c =
    let a = c.args.list.now.areas in
    let some = c.requires.0 in
    let first = c.serialize-directory in
    let laid = rw c.key_records.ensures at first.ensures in
    let second = c.serialize-store in
    let e = c.area_store.ensures in
    let stored = rw (e.0, e.1, e.2, e.3) at second.ensures in
    let third = c.serialize_u64 in
    record {
      directory = laid.0 ∙ sym (ap length (directory-some a.builder a.blocks.now a.keys.now some));
      written =
          rw (index-some (settings_of c.args.group_len) a.builder a.blocks.now a.keys.now some)
          (index-written (directory_of a.builder a.blocks.now a.keys.now)
          (store_of (settings_of c.args.group_len) a.builder a.blocks.now a.keys.now) c.args.out.now
          first.new.out second.new.out third.new.out first.result second.result
          laid.0 stored.value laid.1 stored.out_after third.ensures);
    }
