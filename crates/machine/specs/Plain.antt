-- The plain machine (SPECIFICATION 4.1 to 4.6): a list of entries that grows with the calls. It sees their arguments and how long
-- the areas are, and nothing of the builder or of what the areas hold. Entries stand newest first.
use Rattle.std.specs.Prelude.{ℕ, zero, suc, ◌+◌, ◌≡◌, List, [], ◌∷◌, map, reverse, cond, ltb, length}
use Rattle.keys.specs.Shorten.{shorten}
use Rattle.group.specs.declared.BlockAddr.{BlockAddr}
use Rattle.group.specs.Blocks.{no_block}
use Rattle.directory.specs.Directory.{directory_bytes}
use Rattle.builder.specs.View.{missing_place, View}
use Rattle.builder.specs.Rows.{add_no, shorten_no}
use Rattle.builder.specs.Index.{Settings, index_bytes}

pub record Entry : Type 0 where
  pub block : BlockAddr
  pub key : List ℕ

-- a call with its arguments
pub data Call : Type 0 where
  add : List ℕ → BlockAddr → Call
  shorten_last : List ℕ → Call

-- both areas' lengths
pub record Rooms : Type 0 where
  pub blocks : ℕ
  pub keys : ℕ

-- up to where the entries' keys fill the key area
unfoldable pub key_bytes_taken : List Entry → ℕ
key_bytes_taken [] = 0
key_bytes_taken (e ∷ es) = key_bytes_taken es + length e.key

-- its n counts the entries, the last separator is the last key, which stands after the keys before it
unfoldable pub plain_view : Rooms → List Entry → View
plain_view rooms [] = record {
  n = 0;
  last = no_block;
  last_key = [];
  place = missing_place;
  next_key = 0;
  room = rooms.blocks;
  key_room = rooms.keys;
}
plain_view rooms (e ∷ es) = record {
  n = length (e ∷ es);
  last = e.block;
  last_key = e.key;
  place = record { offset = key_bytes_taken es; len = length e.key };
  next_key = key_bytes_taken (e ∷ es);
  room = rooms.blocks;
  key_room = rooms.keys;
}

-- the number that a call gets (SPECIFICATION 4.4)
unfoldable pub call_no : View → Call → ℕ
call_no v (add key block) = add_no v key block
call_no v (shorten_last next) = shorten_no v next

-- the entries after a call that is taken (SPECIFICATION 4.5)
unfoldable pub taken : Call → List Entry → List Entry
taken (add key block) es = record { block = block; key = key } ∷ es
taken (shorten_last next) [] = []
taken (shorten_last next) (e ∷ es) = record { block = e.block; key = shorten e.key next } ∷ es

-- the entries after a call with this number
unfoldable pub plain_next : ℕ → Call → List Entry → List Entry
plain_next zero c es = taken c es
plain_next (suc k) c es = es

-- a list of calls: the numbers that they answer, and the entries at the end
unfoldable pub plain_numbers : Rooms → List Call → List Entry → List ℕ
plain_numbers rooms [] es = []
plain_numbers rooms (c ∷ cs) es =
    call_no (plain_view rooms es) c ∷ plain_numbers rooms cs (plain_next (call_no (plain_view rooms es) c) c es)

unfoldable pub plain_end : Rooms → List Call → List Entry → List Entry
plain_end rooms [] es = es
plain_end rooms (c ∷ cs) es = plain_end rooms cs (plain_next (call_no (plain_view rooms es) c) c es)

-- the blocks and the separators of entries, the oldest first (SPECIFICATION 4.6)
abbrev pub blocks_of : List Entry → List BlockAddr
blocks_of es = reverse (map (λ (e : Entry). e.block) es)

abbrev pub separators_of : List Entry → List (List ℕ)
separators_of es = reverse (map (λ (e : Entry). e.key) es)

-- two lists of entries have equal blocks and separators
pub record SameLists (es es' : List Entry) : Type 0 where
  pub blocks : blocks_of es ≡ blocks_of es'
  pub separators : separators_of es ≡ separators_of es'

-- the index of entries and its directory; of 0 or 1 there is none
unfoldable pub plain_index : Settings → List Entry → List ℕ
plain_index S es = cond (ltb (length es) 2) [] (index_bytes S (blocks_of es) (separators_of es))

unfoldable pub plain_directory : List Entry → List ℕ
plain_directory es = cond (ltb (length es) 2) [] (directory_bytes (separators_of es))
