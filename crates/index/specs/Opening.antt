-- Opening (row 30, then 10 to 16, then 28): the number, and the opened record. L is the group's length.
use Rattle.std.specs.Prelude.{ℕ, zero, suc, ◌+◌, ◌-◌, ◌*◌, ◌≡◌, List, Bool, not, ◌||◌, cond, eqb, ltb, leb, length}
use Rattle.std.specs.Prelude.{◌∷◌, [], get_or, Result, Ok, Err}
use Rattle.layout.specs.Layout.{meta_len}
use Rattle.layout.specs.Versions.{version_no, group_len_of}
use Rattle.layout.specs.declared.refusals.Refusal.{Refusal}
use Rattle.layout.specs.declared.refusals.Refusal.TheVariants.{AreaBad, KeyLong, NumbersBad, JoinBad, OrdinalBad, KeyBad, RoomBad, ListBad}
use Rattle.layout.specs.declared.refusals.Refusal.TheVariants.{OutShort, FileShort, NoDirectory, DirectoryBad, KeysUnsorted, RecordsBad}
use Rattle.layout.specs.declared.refusals.Refusal.TheVariants.{GroupBad, BlockBad, UnknownId, OrdinalBelow, KeyAbove, Unfit, TableBad}
use Rattle.layout.specs.declared.refusals.Refusal.TheVariants.{FlagBad, StateBad, RoomShort, NoExample, KeyListBad, NotCanonical, TermsBad}
use Rattle.layout.specs.declared.refusals.Refusal.TheVariants.{OrdinalAbove, VersionBad}
use Rattle.group.specs.Rows.{or_row}
use Rattle.store.specs.Store.{group_count}
use Rattle.store.specs.Check.{store_no}
use Rattle.directory.specs.Read.{directory_no}
use Rattle.index.specs.Parts.{len_of_directory, directory_part, store_len, group_records_len, group_records_part, addrs_part, count_in}
use Rattle.index.specs.Parts.{last_first_ordinal}
use Rattle.index.specs.declared.SSTableIndexV3.{SSTableIndexV3}

-- rows 10 and 11 in their three steps (SPECIFICATION 12.8)
unfoldable pub footer_no : List ℕ → ℕ
footer_no f = cond (ltb (length f) 8) 10 (cond (eqb (len_of_directory f) 0) 11 (cond (ltb (length f) (len_of_directory f + 16)) 10 0))

-- row 14 (SPECIFICATION 13.14, 12.10): group records of another length than the groups', or more than the store holds
unfoldable pub group_records_bad : ℕ → List ℕ → Bool
group_records_bad L f =
    not (eqb (group_records_len f) (meta_len * group_count L (count_in f))) || ltb (store_len f) (8 + group_records_len f)

-- rows 10 to 16, which the file alone decides, in their order; 0 where none is hit
unfoldable pub file_no : ℕ → List ℕ → ℕ
file_no L f =
    or_row (footer_no f) (or_row (directory_no (directory_part f))
    (cond (group_records_bad L f) 14 (store_no L (group_records_part f) (addrs_part f) (count_in f))))

-- these, then 28: a number of terms that isn't above the last first ordinal
unfoldable pub terms_no : ℕ → ℕ → List ℕ → ℕ
terms_no L terms f = or_row (file_no L f) (cond (leb terms (last_first_ordinal L f)) 28 0)

-- before all of them 30: a version that no index has
unfoldable pub open_no : ℕ → ℕ → ℕ → List ℕ → ℕ
open_no L version terms f = or_row (version_no version) (terms_no L terms f)

-- the opened record (SPECIFICATION 8.2)
unfoldable pub opened_of : ℕ → ℕ → List ℕ → SSTableIndexV3
opened_of version terms f = record {
  n = count_in f;
  directory = 0;
  directory_len = len_of_directory f;
  metas = len_of_directory f + 8;
  metas_len = group_records_len f;
  addrs = len_of_directory f + 8 + group_records_len f;
  addrs_len = store_len f - (8 + group_records_len f);
  terms = terms;
  version = version;
}

-- the refusals in the order of their numbers, and the refusal with a number from 1 to 30
abbrev pub rows : List Refusal
rows =
    AreaBad ∷ KeyLong ∷ NumbersBad ∷ JoinBad ∷ OrdinalBad ∷ KeyBad ∷ RoomBad ∷ ListBad ∷ OutShort ∷ FileShort ∷ NoDirectory ∷ DirectoryBad
    ∷ KeysUnsorted ∷ RecordsBad ∷ GroupBad ∷ BlockBad ∷ UnknownId ∷ OrdinalBelow ∷ KeyAbove ∷ Unfit ∷ TableBad ∷ FlagBad ∷ StateBad
    ∷ RoomShort ∷ NoExample ∷ KeyListBad ∷ NotCanonical ∷ TermsBad ∷ OrdinalAbove ∷ VersionBad ∷ []

unfoldable pub refusal_of : ℕ → Refusal
refusal_of k = get_or rows (k - 1) Unfit

abbrev pub step_of_open : ℕ → ℕ → ℕ → List ℕ → Result SSTableIndexV3 Refusal
step_of_open zero version terms f = Ok (opened_of version terms f)
step_of_open (suc k) version terms f = Err (refusal_of (suc k))

-- what opening the bytes f of this version, which have so many terms, with groups of L blocks answers
unfoldable pub open_def : ℕ → ℕ → ℕ → List ℕ → Result SSTableIndexV3 Refusal
open_def L version terms f = step_of_open (open_no L version terms f) version terms f

-- a record that opening these bytes with its own version and number of terms gives (SPECIFICATION 10.1)
abbrev pub OpensBy : ℕ → List ℕ → SSTableIndexV3 → Type 0
OpensBy L f opened = open_def L opened.version opened.terms f ≡ Ok opened

-- the number of terms for a file of which nobody knows it: the last first ordinal plus one, the least that opens
abbrev pub least_terms : ℕ → List ℕ → ℕ
least_terms L f = last_first_ordinal L f + 1

-- ---- the index as it is used

-- the length of a record's groups: its version's
abbrev pub group_of : SSTableIndexV3 → ℕ
group_of opened = group_len_of opened.version

-- what `load` answers, and with the least number of terms `load_least`
abbrev pub load_def : ℕ → ℕ → List ℕ → Result SSTableIndexV3 Refusal
load_def version terms f = open_def (group_len_of version) version terms f

abbrev pub load_least_def : ℕ → List ℕ → Result SSTableIndexV3 Refusal
load_least_def version f = load_def version (least_terms (group_len_of version) f) f

abbrev pub Opens : List ℕ → SSTableIndexV3 → Type 0
Opens f opened = OpensBy (group_of opened) f opened
