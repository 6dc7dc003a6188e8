-- Rows 1 to 7 of document 01's table, over what they look at.
use Rattle.std.specs.Prelude.{ℕ, ◌+◌, ◌*◌, ◌≤◌, List, Bool, not, ◌&&◌, ◌||◌, cond, eqb, ltb, length}
use Rattle.layout.specs.Layout.{max_blocks, max_key_len}
use Rattle.keys.specs.Order.{less}
use Rattle.group.specs.declared.BlockAddr.{BlockAddr}
use Rattle.group.specs.Rows.{are_numbers_bad, is_join_bad, is_ordinal_bad, or_row}
use Rattle.builder.specs.View.{stride, KeyPlace, View}

-- a record by itself: its key ends beyond the key area. Row 1 asks it of the last record, row 8 of each.
unfoldable pub record_bad : ℕ → KeyPlace → Bool
record_bad room place = ltb room (place.offset + place.len)

-- the same not hit, in numbers
pub record RecordOk (room : ℕ) (place : KeyPlace) : Type 0 where
  pub within : place.offset + place.len ≤ room

-- row 1: n > 65,536, 5 × n beyond the area, or the last record
unfoldable pub area_bad : View → Bool
area_bad v = ltb max_blocks v.n || (ltb v.room (stride * v.n) || record_bad v.key_room v.place)

-- row 1 isn't hit, in numbers
pub record AreaOk (v : View) : Type 0 where
  pub few : v.n ≤ max_blocks
  pub inside : stride * v.n ≤ v.room
  pub last : RecordOk v.key_room v.place

-- row 2 (SPECIFICATION 13.2): a key that is too long
unfoldable pub key_long : List ℕ → Bool
key_long key = ltb max_key_len (length key)

-- the rows on a key alone
unfoldable pub key_no : List ℕ → ℕ
key_no key = cond (key_long key) 2 0

-- row 6 (SPECIFICATION 13.6): a key at or below the last separator, if there is one
unfoldable pub key_bad : View → List ℕ → Bool
key_bad v key = ltb 0 v.n && not (less v.last_key key)

-- row 7 (SPECIFICATION 13.7): as many blocks as there may be, or too little room for one more
unfoldable pub room_bad : View → List ℕ → Bool
room_bad v key = eqb v.n max_blocks || (ltb v.room (stride * v.n + stride) || ltb v.key_room (v.next_key + length key))

-- rows 2 to 6 for a block after what is there; 0 where none is hit. 2 looks at the key as given, 6 at the separator.
unfoldable pub block_no : View → List ℕ → List ℕ → BlockAddr → ℕ
block_no v given key b =
    or_row (key_no given)
    (cond (are_numbers_bad b) 3
    (cond (ltb 0 v.n && is_join_bad v.last b) 4
    (cond (ltb 0 v.n && is_ordinal_bad v.last b) 5
    (cond (key_bad v key) 6 0))))

-- the number that an add answers
unfoldable pub add_no : View → List ℕ → BlockAddr → ℕ
add_no v key b = cond (area_bad v) 1 (or_row (block_no v key key b) (cond (room_bad v key) 7 0))

-- the number that a shorten answers
unfoldable pub shorten_no : View → List ℕ → ℕ
shorten_no v next = cond (area_bad v) 1 (or_row (key_no next) (cond (key_bad v next) 6 0))
