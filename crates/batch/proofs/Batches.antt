-- A batch: its tests, what is written, and the entries that are found said of the file.
use mathlib.Core.Path.{◌≡◌, refl, sym, ◌∙◌}
use mathlib.Core.Bool.{Bool, true, false, cond, true≢false}
use mathlib.Core.Logic.{inl, inr}
use mathlib.Core.List.{List}
use Prim.Native.Nat.{ℕ, ◌≤◌, ◌<◌}
use native.Mathlib.Omega.{arith}
use lib.Dec.{ltb}
use lib.ListN.{length, get_or, take}
use lib.Seq.{sets, length-take-le, get_or-take}
use borrow.Author.Tests.{ltb-false}
use Rattle.std.proofs.lemmas.Bool.{or_parts}
use Rattle.directory.specs.Read.{key_of, Sorted}
use Rattle.store.specs.Facts.{GroupLenOk}
use Rattle.index.specs.declared.SSTableIndexV3.{SSTableIndexV3}
use Rattle.index.specs.Parts.{separator_in}
use Rattle.index.specs.Opening.{OpensBy}
use Rattle.index.specs.Lookups.{opened_bad_by, OpenedFits, directory_at}
use Rattle.index.proofs.Fits.{bad-unfit}
use Rattle.index.proofs.OpenFacts.{OpenFacts, opens-facts-by}
use Rattle.index.proofs.Answered.{bad-unopened}
use Rattle.key_list.specs.KeyList.{key_list_count, key_list_bad, KeyListOk}
use Rattle.key_list.proofs.Pairs.{key-list-ok}
use Rattle.batch_search.specs.Entries.{EntryExact, EntriesFound}
use Rattle.batch.specs.Batch.{batch_bad, EntriesWritten, BatchLeaves, LocateWithKeysBy}

-- ---- row 26

-- what a refused list's number says of its test, and what a list that is taken says
pub list-refused : (t : Bool) (k : ℕ) → k ≡ cond t 26 0 → 0 < k → (t ≡ true) × (k ≡ 26)
list-refused true k e h = (refl, e)
list-refused false k e h = absurd (let z : ⊥ = omega arith in z)

pub list-passed : (t : Bool) → ◌≡◌ {A = ℕ} 0 (cond t 26 0) → t ≡ false
list-passed true e = absurd (let z : ⊥ = omega arith in z)
list-passed false e = refl

module _ (pairs bytes : List ℕ) (room : ℕ) where
  pub list-bad : key_list_bad 64 pairs (length bytes) ≡ true → batch_bad pairs bytes room ≡ true
  unfolding batch_bad
  list-bad e = rw e

  pub ids_short : key_list_bad 64 pairs (length bytes) ≡ false → batch_bad pairs bytes room ≡ ltb room (key_list_count pairs)
  unfolding batch_bad
  ids_short e = rw e

  -- what a batch that passes it has
  pub record BatchOk : Type 0 where
    pub list : KeyListOk 64 pairs (length bytes)
    pub room-enough : key_list_count pairs ≤ room

  pub batch-ok : batch_bad pairs bytes room ≡ false → BatchOk
  unfolding batch_bad
  batch-ok e =
      let both = or_parts (key_list_bad 64 pairs (length bytes)) _ e in
      record { list = key-list-ok 64 pairs (length bytes) both.0; room-enough = ltb-false room (key_list_count pairs) both.1 }

-- ---- what is written

-- the entries found are those that are written
pub entries-of : (E : ℕ → ℕ → Type 0) (count : ℕ) (ids found : List ℕ) → count ≤ length found
    → ((i : ℕ) → i < count → E i (get_or found i 0)) → EntriesWritten E count ids (sets ids 0 (take count found))
entries-of E count ids found h p =
    record {
      list = take count found;
      long = length-take-le count found h;
      each = λ i g. rw (get_or-take count found i 0 g) (p i g);
      stands = refl;
    }

-- ---- what the searches find, said of the file

module _ (L : ℕ) (f : List ℕ) (opened : SSTableIndexV3) (facts : OpenFacts L f opened) (d : List ℕ) (is : d ≡ directory_at opened f) where
  pub file-sorted : Sorted d opened.n
  file-sorted = rw (is ∙ facts.directory, facts.count) facts.sorted

  pub file-exact : (key : List ℕ) (e : ℕ) → EntryExact (key_of d opened.n) opened.n key e → EntryExact (separator_in f) opened.n key e
  unfolding separator_in
  file-exact key e h = rw facts.count (rw (is ∙ facts.directory, facts.count) at h)

-- ---- the four answers

module _ (L : ℕ) (f : List ℕ) (opened : SSTableIndexV3) (pairs bytes ids : List ℕ) (group : GroupLenOk L) where
  -- a refusal leaves the ids
  stays : (E : ℕ → ℕ → Type 0) (k : ℕ) → 0 < k → BatchLeaves E (key_list_count pairs) ids ids k
  stays E k h = record { taken = λ e. absurd (let z : ⊥ = omega arith in z); refused = λ g. refl }

  pub unfit-answer : opened_bad_by L opened (length f) ≡ true → LocateWithKeysBy L f opened pairs bytes ids ids 20
  unfit-answer bad =
      record {
        allowed = inl refl;
        leaves = stays _ 20 (omega arith);
        unfit = λ e. refl;
        list-first = λ e. absurd (true≢false (sym bad ∙ e));
        exact-number = λ o. absurd (bad-unopened L f opened group bad o);
        exact = λ o. absurd (bad-unopened L f opened group bad o);
      }

  pub list-answer : OpenedFits L opened (length f) → batch_bad pairs bytes (length ids) ≡ true
      → LocateWithKeysBy L f opened pairs bytes ids ids 26
  list-answer fits bad =
      record {
        allowed = inr (rw bad refl);
        leaves = stays _ 26 (omega arith);
        unfit = λ e. absurd (bad-unfit L opened (length f) e fits);
        list-first = λ e g. refl;
        exact-number = λ o. rw bad refl;
        exact = λ o. stays _ 26 (omega arith);
      }

  module _ (fits : OpenedFits L opened (length f)) (good : batch_bad pairs bytes (length ids) ≡ false)
      (d found : List ℕ) (is : d ≡ directory_at opened f) (r : Bool) (searched : EntriesFound d opened.n pairs bytes found r) where
    -- a search met a key outside: then bytes and record aren't of one opening
    pub late-answer : r ≡ false → LocateWithKeysBy L f opened pairs bytes ids ids 20
    late-answer e =
        let never : OpensBy L f opened → ⊥ =
        λ o. true≢false (sym (searched.ends (file-sorted L f opened (opens-facts-by L f opened group o) d is)) ∙ e) in
        record {
          allowed = inl refl;
          leaves = stays _ 20 (omega arith);
          unfit = λ x. refl;
          list-first = λ x g. absurd (true≢false (sym g ∙ good));
          exact-number = λ o. absurd (never o);
          exact = λ o. absurd (never o);
        }

    pub taken-answer : r ≡ true → LocateWithKeysBy L f opened pairs bytes ids (sets ids 0 (take (key_list_count pairs) found)) 0
    taken-answer e =
        let few : key_list_count pairs ≤ length found =
        omega (arith, searched.long, (batch-ok pairs bytes (length ids) good).list.few) in
        record {
          allowed = inr (rw good refl);
          leaves = record {
            taken = λ z. entries-of _ _ ids found few (searched.allowed e);
            refused = λ h. absurd (let z : ⊥ = omega arith in z);
          };
          unfit = λ x. absurd (bad-unfit L opened (length f) x fits);
          list-first = λ x g. absurd (true≢false (sym g ∙ good));
          exact-number = λ o. rw good refl;
          exact =
              λ o.
              let facts = opens-facts-by L f opened group o in
              record {
                taken =
                    λ z. entries-of _ _ ids found few
                    (λ i h. file-exact L f opened facts d is _ _ (searched.exact (file-sorted L f opened facts d is) i h));
                refused = λ h. absurd (let z : ⊥ = omega arith in z);
              };
        }
