-- A batch of keys in one lookup, for all inputs.
use Rattle.std.specs.Prelude.{ℕ, ◌<◌, ◌≡◌, List, ◌⊎◌, Bool, true, false, ◌||◌, cond, ltb, length, get_or}
use Rattle.std.proofs.lemmas.List.Edits.{sets}
use Rattle.layout.specs.Layout.{max_batch_keys}
use Rattle.index.specs.declared.SSTableIndexV3.{SSTableIndexV3}
use Rattle.index.specs.Parts.{separator_in}
use Rattle.index.specs.Opening.{OpensBy, group_of}
use Rattle.index.specs.Lookups.{opened_bad_by}
use Rattle.key_list.specs.KeyList.{key_list_count, key_list_key, key_list_bad}
use Rattle.batch_search.specs.Entries.{EntryIn, EntryExact}

-- row 26: a list of keys that is bad, 64 being the most, or fewer places for ids than keys
unfoldable pub batch_bad : List ℕ → List ℕ → ℕ → Bool
batch_bad pairs bytes room = key_list_bad max_batch_keys pairs (length bytes) || ltb room (key_list_count pairs)

-- the number of a batch whose record and bytes are those of one opening
abbrev pub batch_no : List ℕ → List ℕ → ℕ → ℕ
batch_no pairs bytes room = cond (batch_bad pairs bytes room) 26 0

-- `count` entries, each as E says, were written at the front of the ids, and the ids after them stay
pub record EntriesWritten (E : ℕ → ℕ → Type 0) (count : ℕ) (ids written : List ℕ) : Type 0 where
  pub list : List ℕ
  pub long : length list ≡ count
  pub each : (i : ℕ) → i < count → E i (get_or list i 0)
  pub stands : written ≡ sets ids 0 list

-- what a call with number k leaves in the ids: the entries, or what was there
pub record BatchLeaves (E : ℕ → ℕ → Type 0) (count : ℕ) (ids written : List ℕ) (k : ℕ) : Type 0 where
  pub taken : k ≡ 0 → EntriesWritten E count ids written
  pub refused : 0 < k → written ≡ ids

-- each entry is what the single lookup of its key finds
abbrev pub BatchExact : (ℕ → List ℕ) → ℕ → List ℕ → List ℕ → List ℕ → List ℕ → ℕ → Type 0
BatchExact separator n pairs bytes ids written k =
    BatchLeaves (λ (i e : ℕ). EntryExact separator n (key_list_key pairs bytes i) e) (key_list_count pairs) ids written k

-- what the call promises of its number k and of the ids
pub record LocateWithKeysBy (L : ℕ) (f : List ℕ) (opened : SSTableIndexV3) (pairs bytes ids written : List ℕ) (k : ℕ) : Type 0 where
  -- in every case
  pub allowed : (k ≡ 20) ⊎ (k ≡ batch_no pairs bytes (length ids))
  pub leaves : BatchLeaves (λ (i e : ℕ). EntryIn opened.n e) (key_list_count pairs) ids written k
  -- a record that fails its own test gets exactly 20; where it passes, a bad list comes before what a search meets
  pub unfit : opened_bad_by L opened (length f) ≡ true → k ≡ 20
  pub list-first : opened_bad_by L opened (length f) ≡ false → batch_bad pairs bytes (length ids) ≡ true → k ≡ 26
  -- bytes and record of one opening
  pub exact-number : OpensBy L f opened → k ≡ batch_no pairs bytes (length ids)
  pub exact : OpensBy L f opened → BatchExact (separator_in f) opened.n pairs bytes ids written k

abbrev pub LocateWithKeys : List ℕ → SSTableIndexV3 → List ℕ → List ℕ → List ℕ → List ℕ → ℕ → Type 0
LocateWithKeys f opened pairs bytes ids written k = LocateWithKeysBy (group_of opened) f opened pairs bytes ids written k
