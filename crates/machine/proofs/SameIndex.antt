-- The indexes of two lists of calls have equal bytes exactly when their blocks and separators are equal.
use Prim.Native.Nat.{ℕ, zero, suc, ◌≤◌, ◌<◌}
use mathlib.Core.Path.{◌≡◌, sym, ap, ◌∙◌}
use mathlib.Core.List.{List, [], ◌++◌}
use native.Mathlib.Omega.{arith}
use lib.Dec.{eqb}
use lib.ListN.{length, get_or, take, length-append}
use lib.Seq.{take_at, take-append_seam}
use borrow.Author.Tests.{eqb-true, eqb-false}
use borrow.Table.Steps.{cases}
use Rattle.layout.specs.Layout.{max_blocks}
use Rattle.serialize.specs.Digits.{le_bytes}
use Rattle.serialize.proofs.Digits.{length-digits_of}
use Rattle.keys.specs.Order.{◌≺◌}
use Rattle.keys.proofs.Order.{less-trans}
use Rattle.group.specs.declared.BlockAddr.{BlockAddr}
use Rattle.directory.specs.Directory.{directory_bytes}
use Rattle.directory.proofs.Lengths.{Bounded}
use Rattle.directory.proofs.ReadBack.{directory_bytes-inj}
use Rattle.store.specs.Store.{store_bytes}
use Rattle.store.proofs.ReadBack.{Storable, store-inj}
use Rattle.builder.specs.Calls.{State}
use Rattle.builder.specs.Index.{Settings, SettingsOk, index_bytes}
use Rattle.builder.proofs.IndexBytes.{length-index_bytes}
use Rattle.machine.specs.Plain.{Entry, Call, plain_end, blocks_of, separators_of, SameLists, plain_index}
use Rattle.machine.specs.Runs.{FreshState, rooms_of}
use Rattle.machine.proofs.Rules.{EntriesOk, run-rules}
use Rattle.machine.proofs.Indexed.{length-oldest, entries-legal, separators-short, separators-rise}
use Rattle.machine.proofs.PlainFinish.{plain-none, plain-some}

-- ---- the entries' index

-- blocks and separators are such as an index is read back from
module _ (es : List Entry) (ok : EntriesOk es) where
  pub entries-storable : (S : Settings) → SettingsOk S → length es ≤ max_blocks → Storable S.choose S.len_of_group (blocks_of es)
  entries-storable S set few = record {
    slopes = set.slopes;
    group = set.group;
    few = omega (arith, length-oldest (λ (e : Entry). e.block) es);
    legal = rw (length-oldest (λ (e : Entry). e.block) es) (entries-legal es ok);
  }

  pub entries-bounded : length es ≤ max_blocks → Bounded (separators_of es)
  entries-bounded few = record {
    few = omega (arith, length-oldest (λ (e : Entry). e.key) es);
    short = λ i h. separators-short es ok i (omega (arith, length-oldest (λ (e : Entry). e.key) es));
  }

  -- a later separator is above each one before it
  pub separators-above : (i j : ℕ) → i < j → j < length es → get_or (separators_of es) i [] ≺ get_or (separators_of es) j []
  separators-above i zero h l = absurd (let z : ⊥ = omega arith in z)
  separators-above i (suc j) h l =
      let step = separators-rise es ok j l in
      cases (eqb i j)
      (λ t. rw (eqb-true i j t) step)
      (λ t. less-trans _ _ _ (separators-above i j (omega (arith, eqb-false i j t)) (omega arith)) step)

-- ---- equal bytes

-- fronts of lists whose ends are equally long
front-inj : (a a' b b' : List ℕ) → length b ≡ length b' → a ++ b ≡ a' ++ b' → a ≡ a'
front-inj a a' b b' l e =
    let same : length a' ≡ length a = omega (arith, simp length-append at (ap length e)) in
    sym (take-append_seam a b) ∙ ap (take (length a)) e ∙ take_at a' b' (length a) same

module _ (S S' : Settings) (groups : S.len_of_group ≡ S'.len_of_group) where
  index-inj : {bs bs' : List BlockAddr} {ks ks' : List (List ℕ)}
      → Storable S.choose S.len_of_group bs → Storable S'.choose S'.len_of_group bs' → Bounded ks → Bounded ks'
      → index_bytes S bs ks ≡ index_bytes S' bs' ks' → (bs ≡ bs') × (ks ≡ ks')
  unfolding index_bytes
  index-inj {bs} {bs'} {ks} {ks'} stored stored' bounded bounded' e =
      let len : List (List ℕ) → List ℕ = λ k. le_bytes 8 (length (directory_bytes k)) in
      let st : List ℕ = store_bytes S.choose S.len_of_group bs in
      let st' : List ℕ = store_bytes S'.choose S'.len_of_group bs' in
      let parts = directory_bytes-inj ks ks' (st ++ len ks) (st' ++ len ks') bounded bounded' e in
      let same : st ≡ st' = front-inj st st' (len ks) (len ks') (simp length-digits_of) parts.1 in
      let same-groups : store_bytes S.choose S.len_of_group bs ≡ store_bytes S'.choose S.len_of_group bs' = rw (← groups) at same in
      let stored-groups : Storable S'.choose S.len_of_group bs' = rw groups stored' in
      (store-inj stored stored-groups same-groups, parts.0)

  -- where one of two lists has an index and the other has none, the bytes differ
  two-both : (es es' : List Entry) → 2 ≤ length es → plain_index S es ≡ plain_index S' es' → 2 ≤ length es'
  two-both es es' two e =
      let some = ap length (plain-some es S two) ∙ length-index_bytes S (blocks_of es) (separators_of es) in
      grind (arith, plain-none es' S', some, ap length e)

  -- of two lists of calls, the indexes have equal bytes only when blocks and separators are equal, whatever slopes were chosen
  pub fresh-inj : SettingsOk S → SettingsOk S' → (cs cs' : List Call) (s s' : State) → FreshState s → FreshState s'
      → 2 ≤ length (plain_end (rooms_of s) cs [])
      → plain_index S (plain_end (rooms_of s) cs []) ≡ plain_index S' (plain_end (rooms_of s') cs' [])
      → SameLists (plain_end (rooms_of s) cs []) (plain_end (rooms_of s') cs' [])
  fresh-inj set set' cs cs' s s' e e' two same =
      let es : List Entry = plain_end (rooms_of s) cs [] in
      let es' : List Entry = plain_end (rooms_of s') cs' [] in
      let both = run-rules cs s e in
      let both' = run-rules cs' s' e' in
      let two' = two-both es es' two same in
      let lists =
      index-inj
      (entries-storable es both.1 S set both.0.rep.few)
      (entries-storable es' both'.1 S' set' both'.0.rep.few)
      (entries-bounded es both.1 both.0.rep.few)
      (entries-bounded es' both'.1 both'.0.rep.few)
      (sym (plain-some es S two) ∙ same ∙ plain-some es' S' two') in
      record { blocks = lists.0; separators = lists.1 }

-- equal blocks and separators, equal bytes
pub same_index : (S : Settings) (es es' : List Entry) → SameLists es es' → plain_index S es ≡ plain_index S es'
unfolding plain_index
same_index S es es' same =
    let long : length es ≡ length es' =
    sym (length-oldest (λ (e : Entry). e.block) es) ∙ ap length same.blocks ∙ length-oldest (λ (e : Entry). e.block) es' in
    rw (long, same.blocks, same.separators)
