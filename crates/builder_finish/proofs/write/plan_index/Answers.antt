-- `plan_index` meets its contract: the lengths of the three parts, and the store's plans at the front of what is kept.
use Rattle.std.proofs.Common.{ℕ, ◌+◌, ◌≤◌, List, length, sym, ap, arith}
use Rattle.slope.specs.Slope.{best_slope}
use Rattle.store.specs.Facts.{GroupLenOk}
use Rattle.store.proofs.Plans.{plans-stand}
use Rattle.builder.specs.Index.{settings_of}
use Rattle.builder.specs.declared.SSTableIndexBuilder.{SSTableIndexBuilder}
use Rattle.builder.proofs.Row8.{ListOk, list-ok}
use Rattle.builder.proofs.IndexWritten.{settings-of-ok, directory_of, store_of, index-none, index-length, index-small}
use Rattle.builder_finish.proofs.write.plan_index.Goals as goal

-- the sum doesn't wrap
small : (group_len : ℕ) (b : SSTableIndexBuilder) (B K : List ℕ) → GroupLenOk group_len → ListOk b.n B K
    → length (directory_of b B K) + length (store_of (settings_of group_len) b B K) + 8 ≤ 400000000
small group_len b B K group ok = index-small (settings_of group_len) b B K (settings-of-ok group_len group) ok

pub returns-then-n-lt2 : goal.returns-then-n-lt2
returns-then-n-lt2 c =
    let a = c.args.list.now.areas in
    record {
      value = sym (ap length (index-none (settings_of c.args.group_len) a.builder a.blocks.now a.keys.now c.if-n-lt2.true));
      stands_at = λ some. absurd (let z : ⊥ = omega (arith, some, c.if-n-lt2.true) in z);
    }

pub overflow_add-result : goal.overflow_add-result
overflow_add-result c =
    let a = c.args.list.now.areas in
    let e = c.area_store.ensures in
    let planned = rw (e.0, e.1, e.2, e.3) at c.plan.ensures in
    let directory = rw c.key_records.ensures at c.directory_len-directory.ensures in
    omega (
      arith,
      planned.0,
      small c.args.group_len a.builder a.blocks.now a.keys.now c.requires.0 (list-ok _ _ _ c.args.list.now.checked),
    )

pub overflow_add-result-2 : goal.overflow_add-result-2
overflow_add-result-2 c =
    let a = c.args.list.now.areas in
    let e = c.area_store.ensures in
    let planned = rw (e.0, e.1, e.2, e.3) at c.plan.ensures in
    let directory = rw c.key_records.ensures at c.directory_len-directory.ensures in
    omega (
      arith,
      planned.0,
      small c.args.group_len a.builder a.blocks.now a.keys.now c.requires.0 (list-ok _ _ _ c.args.list.now.checked),
    )

pub returns : goal.returns
returns c =
    let a = c.args.list.now.areas in
    let e = c.area_store.ensures in
    let planned = rw (e.0, e.1, e.2, e.3) at c.plan.ensures in
    let directory = rw c.key_records.ensures at c.directory_len-directory.ensures in
    record {
      value =
          omega (
            arith,
            planned.0,
            index-length (settings_of c.args.group_len) a.builder a.blocks.now a.keys.now c.if-n-lt2.false,
          );
      stands_at = λ some. plans-stand best_slope c.requires.0.some a.blocks.now 5 a.builder.n c.args.kept.now _ c.requires.1 planned.1;
    }
