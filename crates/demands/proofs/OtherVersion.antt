-- The two versions of a file: up to 128 blocks a finish of either answers and writes the same; of more blocks no file opens with both, and
-- the other version gets 14.
use Prim.Native.Nat.{ℕ, suc, ◌-◌, ◌≤◌, ◌<◌}
use mathlib.Core.Path.{◌≡◌, refl, sym, ap, ◌∙◌}
use mathlib.Core.Bool.{false}
use mathlib.Core.List.{List, [], ◌++◌}
use mathlib.Core.Logic.{◌⊎◌, inl, inr, ⊎_elim}
use native.Mathlib.Omega.{arith}
use borrow.Author.Tests.{eqb-true, ltb-false, not-false}
use borrow.Table.Steps.{cases}
use lib.Dec.{eqb, ltb}
use lib.ListN.{length}
use lib.Seq.{take_all}
use Rattle.std.specs.Prelude.{Ok, Err}
use Rattle.layout.specs.Layout.{store_block_len, store_block_len_v4}
use Rattle.layout.specs.Versions.{version_bad, group_len_of}
use Rattle.layout.proofs.GroupLengths.{version-good}
use Rattle.layout.specs.declared.refusals.Refusal.TheVariants.{RecordsBad}
use Rattle.serialize.specs.Digits.{le_bytes}
use Rattle.slope.specs.Slope.{best_slope}
use Rattle.group.specs.declared.BlockAddr.{BlockAddr}
use Rattle.store.specs.Store.{group_count, group_record, group_addrs, group_records, addrs, store_bytes}
use Rattle.store.proofs.Groups.{group-count-zero, group-count-suc, group-count-above, group-count-below}
use Rattle.builder.specs.Calls.{State}
use Rattle.builder.specs.Index.{settings, settings_of, index_bytes}
use Rattle.machine.specs.Plain.{Call, Entry, blocks_of, separators_of, plain_index}
use Rattle.machine.specs.Finished.{plain_finish}
use Rattle.machine.specs.Runs.{FreshState, finished_in}
use Rattle.machine.proofs.Indexed.{length-oldest}
use Rattle.machine.proofs.FinishIn.{plain-known, finish-in-plain}
use Rattle.index.specs.declared.SSTableIndexV3.{SSTableIndexV3}
use Rattle.index.specs.Parts.{count_in}
use Rattle.index.specs.Opening.{file_no, open_no, opened_of, open_def, load_def}
use Rattle.index.proofs.OpeningRows.{records-ok, records-inexact, file-records, file-ok, open-known, open-refused, terms-file}
use Rattle.index.proofs.OpenFacts.{opens-no}
use Rattle.index.proofs.Terms.{own-file}
use Rattle.demands.specs.Demand3.{entries_of_calls}

-- ---- the versions

known-version : (version : ℕ) → version_bad version ≡ false → (version ≡ 3) ⊎ (version ≡ 4)
unfolding version_bad
known-version version e =
    cases (eqb version 3) (λ t. inl (eqb-true version 3 t)) (λ t. inr (eqb-true version 4 (not-false (eqb version 4) (rw t at e))))

group-3 : group_len_of 3 ≡ store_block_len
unfolding group_len_of
group-3 = refl

group-4 : group_len_of 4 ≡ store_block_len_v4
unfolding group_len_of
group-4 = refl

-- ---- more than 128 blocks

-- they make fewer groups of 256 than of 128
counts-differ : (n : ℕ) → store_block_len < n → group_count store_block_len n ≡ group_count store_block_len_v4 n → ⊥
counts-differ n more e =
    let three = group-count-above {L = store_block_len} (omega arith) n in
    let four = group-count-below {L = store_block_len_v4} (omega arith) n in
    omega (arith, e, three, four)

groups-differ : (v w n : ℕ) → version_bad v ≡ false → version_bad w ≡ false → (v ≡ w → ⊥) → store_block_len < n
    → group_count (group_len_of v) n ≡ group_count (group_len_of w) n → ⊥
groups-differ v w n known known' other more e =
    ⊎_elim
    (λ (a : v ≡ 3).
    ⊎_elim
    (λ (b : w ≡ 3). other (a ∙ sym b))
    (λ (b : w ≡ 4). counts-differ n more (rw (a, b, group-3, group-4) at e))
    (known-version w known'))
    (λ (a : v ≡ 4).
    ⊎_elim
    (λ (b : w ≡ 3). counts-differ n more (sym (rw (a, b, group-3, group-4) at e)))
    (λ (b : w ≡ 4). other (a ∙ sym b))
    (known-version w known'))
    (known-version v known)

-- any file, whoever wrote it, that opens with one version and has more than 128 blocks gets 14 with the other
module _ (version other terms : ℕ) (f : List ℕ) (opened : SSTableIndexV3) (opens : load_def version terms f ≡ Ok opened)
    (known : version_bad version ≡ false) (known' : version_bad other ≡ false) (differ : version ≡ other → ⊥)
    (more : store_block_len < opened.n) where
  count : opened.n ≡ count_in f
  unfolding open_def opened_of
  count = ap (λ (o : SSTableIndexV3). o.n) (opens-no version terms f (open_no (group_len_of version) version terms f) opened opens).1

  file : 14 ≡ file_no (group_len_of other) f
  file =
      let K = group_len_of other in
      let ok = file-ok (group_len_of version) f (own-file (group_len_of version) version terms f opened opens) in
      let exact = (records-ok (group_len_of version) f ok.records).exact in
      file-records K f ok.footer ok.directory
      (sym (records-inexact K f (λ e.
      let same : group_count (group_len_of version) (count_in f) ≡ group_count K (count_in f) = omega (arith, exact, e) in
      groups-differ version other (count_in f) known known' differ (rw count at more) same)))

  pub wrong-version : (t : ℕ) → load_def other t f ≡ Err RecordsBad
  wrong-version t =
      let K = group_len_of other in
      sym (open-refused K other t f RecordsBad
      (file ∙ sym (open-known K other t f (version-good other known') ∙ terms-file K t f (λ z. omega (arith, file, z)))))

-- ---- up to 128 blocks

pub one-count : (L n : ℕ) → 1 ≤ L → 1 ≤ n → n ≤ L → group_count L n ≡ 1
one-count L n some one few =
    let none : n - L ≡ 0 = omega arith in
    group-count-suc some n one ∙ ap (λ (m : ℕ). suc (group_count L m)) none ∙ ap suc (group-count-zero some)

module _ (choose : List ℕ → ℕ) (L : ℕ) (bs : List BlockAddr) (some : 1 ≤ L) (one : 1 ≤ length bs) (few : length bs ≤ L) where
  -- the store of one group has nothing of the group's length
  store-one : store_bytes choose L bs ≡ le_bytes 8 36 ++ ((group_record choose 0 bs ++ []) ++ (group_addrs choose bs ++ []))
  unfolding store_bytes group_records addrs
  store-one = rw (one-count L (length bs) some one few, take_all L bs few) refl

pub index-one : (L K : ℕ) (bs : List BlockAddr) (ks : List (List ℕ)) → 1 ≤ length bs → length bs ≤ L → length bs ≤ K
    → index_bytes (settings_of L) bs ks ≡ index_bytes (settings_of K) bs ks
unfolding index_bytes
index-one L K bs ks one few few' =
    rw (store-one best_slope L bs (omega arith) one few, store-one best_slope K bs (omega arith) one few') refl

pub long-groups : (version : ℕ) → store_block_len ≤ group_len_of version
unfolding group_len_of
long-groups version = cases (eqb version 3) (λ t. rw t (omega arith)) (λ t. rw t (omega arith))

same-index : (v w : ℕ) (es : List Entry) → length es ≤ store_block_len → plain_index (settings v) es ≡ plain_index (settings w) es
unfolding plain_index
same-index v w es few =
    cases (ltb (length es) 2)
    (λ t. rw t refl)
    (λ t.
    let long = length-oldest (λ (e : Entry). e.block) es in
    rw t (index-one (group_len_of v) (group_len_of w) (blocks_of es) (separators_of es) (omega (arith, long, ltb-false (length es) 2 t))
    (omega (arith, long, long-groups v)) (omega (arith, long, long-groups w))))

-- after the same calls on a fresh builder a finish of either version answers and leaves the same
pub one-file : (version other : ℕ) (cs : List Call) (fresh : State) (out : List ℕ) → FreshState fresh
    → version_bad version ≡ false → version_bad other ≡ false → length (entries_of_calls cs fresh) ≤ store_block_len
    → finished_in version cs fresh out ≡ finished_in other cs fresh out
unfolding plain_finish
one-file version other cs fresh out none known known' few =
    let es = entries_of_calls cs fresh in
    finish-in-plain version cs fresh none out
    ∙ plain-known version es out known
    ∙ rw (same-index version other es few) refl
    ∙ sym (plain-known other es out known')
    ∙ sym (finish-in-plain other cs fresh none out)
