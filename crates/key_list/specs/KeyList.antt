-- A list of keys as a caller lends it (document 02, wish 1): pairs of offset and length, two numbers each, over one area of bytes.
use Rattle.std.specs.Prelude.{ℕ, zero, suc, ◌+◌, ◌*◌, ◌/◌, ◌%◌, ◌≤◌, ◌<◌, ◌≡◌, List, Bool, false, ◌||◌, eqb, ltb}
use Rattle.std.specs.Prelude.{length, get_or, take, drop}

-- how many pairs there are, and the offset and the length of pair i
abbrev pub key_list_count : List ℕ → ℕ
key_list_count pairs = length pairs / 2

abbrev pub key_list_offset : List ℕ → ℕ → ℕ
key_list_offset pairs i = get_or pairs (2 * i) 0

abbrev pub key_list_len : List ℕ → ℕ → ℕ
key_list_len pairs i = get_or pairs (2 * i + 1) 0

-- key i
abbrev pub key_list_key : List ℕ → List ℕ → ℕ → List ℕ
key_list_key pairs bytes i = take (key_list_len pairs i) (drop (key_list_offset pairs i) bytes)

-- the offset that pair i's may not be below: that of the pair before it
unfoldable pub offset_before : List ℕ → ℕ → ℕ
offset_before pairs zero = 0
offset_before pairs (suc i) = key_list_offset pairs i

-- pair i is bad: its offset falls, or its key ends beyond `room` bytes
unfoldable pub key_pair_bad : List ℕ → ℕ → ℕ → Bool
key_pair_bad pairs room i =
    ltb (key_list_offset pairs i) (offset_before pairs i) || ltb room (key_list_offset pairs i + key_list_len pairs i)

-- one of the first m pairs is
unfoldable pub key_pairs_bad : List ℕ → ℕ → ℕ → Bool
key_pairs_bad pairs room zero = false
key_pairs_bad pairs room (suc m) = key_pairs_bad pairs room m || key_pair_bad pairs room m

-- row 26 for a list of at most `limit` keys: an odd number of words, too many keys, or a pair that is bad
unfoldable pub key_list_bad : ℕ → List ℕ → ℕ → Bool
key_list_bad limit pairs room =
    eqb (length pairs % 2) 1 || (ltb limit (key_list_count pairs) || key_pairs_bad pairs room (key_list_count pairs))

-- what is used of a list that doesn't hit it, in numbers
pub record KeyListOk (limit : ℕ) (pairs : List ℕ) (room : ℕ) : Type 0 where
  pub even : 2 * key_list_count pairs ≡ length pairs
  pub few : key_list_count pairs ≤ limit
  pub inside : (i : ℕ) → i < key_list_count pairs → key_list_offset pairs i + key_list_len pairs i ≤ room
