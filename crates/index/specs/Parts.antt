-- The parts of an index f: directory, store, directory length 8. L is the group's length.
use Rattle.std.specs.Prelude.{ℕ, ◌+◌, ◌-◌, List, length, take, drop}
use Rattle.serialize.specs.Digits.{number_at}
use Rattle.group.specs.declared.BlockAddr.{BlockAddr}
use Rattle.store.specs.Read.{store_block}
use Rattle.directory.specs.Read.{count_of, key_of}

-- the directory's length, in the last 8 bytes
abbrev pub len_of_directory : List ℕ → ℕ
len_of_directory f = number_at f (length f - 8) 8

abbrev pub directory_part : List ℕ → List ℕ
directory_part f = take (len_of_directory f) f

-- the store's length: all between the directory and the last 8 bytes
abbrev pub store_len : List ℕ → ℕ
store_len f = length f - 8 - len_of_directory f

-- the length of all group records, in the store's first 8 bytes
abbrev pub group_records_len : List ℕ → ℕ
group_records_len f = number_at f (len_of_directory f) 8

abbrev pub group_records_part : List ℕ → List ℕ
group_records_part f = take (group_records_len f) (drop (len_of_directory f + 8) f)

abbrev pub addrs_part : List ℕ → List ℕ
addrs_part f = take (store_len f - (8 + group_records_len f)) (drop (len_of_directory f + 8 + group_records_len f) f)

-- n, block i and separator i
abbrev pub count_in : List ℕ → ℕ
count_in f = count_of (directory_part f)

unfoldable pub block_in : ℕ → List ℕ → ℕ → BlockAddr
block_in L f i = store_block L (group_records_part f) (addrs_part f) i

-- the first ordinal of the last block
unfoldable pub last_first_ordinal : ℕ → List ℕ → ℕ
last_first_ordinal L f = (block_in L f (count_in f - 1)).first_ordinal

unfoldable pub separator_in : List ℕ → ℕ → List ℕ
separator_in f i = key_of (directory_part f) (count_in f) i
