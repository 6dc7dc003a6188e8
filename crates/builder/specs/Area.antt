-- The builder's lent areas (SPECIFICATION 2.3): a block's three numbers and its key's place, five in all,
-- and the keys' bytes.
use Rattle.std.specs.Prelude.{ℕ, ◌+◌, ◌-◌, List, [], ◌∷◌, cond, eqb, length}
use Rattle.group.specs.declared.BlockAddr.{BlockAddr}
use Rattle.group.specs.Blocks.{no_block, block_at}
use Rattle.directory.specs.Keys.{offset_at, length_at, key_at}
use Rattle.builder.specs.View.{stride, KeyPlace, missing_place, View}
use Rattle.builder.specs.declared.SSTableIndexBuilder.{SSTableIndexBuilder}

-- the places of the key's offset and length in a block's record, after its three numbers
abbrev pub key_field : ℕ
key_field = 3

abbrev pub key_len_field : ℕ
key_len_field = key_field + 1

-- the five numbers of a block whose key stands at `place`
abbrev pub record_numbers : BlockAddr → KeyPlace → List ℕ
record_numbers b place = b.start ∷ b.end ∷ b.first_ordinal ∷ place.offset ∷ place.len ∷ []

-- block i, its key's place, and its key
abbrev pub area_block : List ℕ → ℕ → BlockAddr
area_block B i = block_at B stride i

abbrev pub area_place : List ℕ → ℕ → KeyPlace
area_place B i = record { offset = offset_at B stride key_field i; len = length_at B stride key_field i }

abbrev pub area_key : List ℕ → List ℕ → ℕ → List ℕ
area_key B K i = key_at B stride key_field K i

-- what the first m blocks of the areas show
unfoldable pub area_view : ℕ → List ℕ → List ℕ → View
area_view m B K = record {
  n = m;
  last = cond (eqb m 0) no_block (area_block B (m - 1));
  last_key = cond (eqb m 0) [] (area_key B K (m - 1));
  place = cond (eqb m 0) missing_place (area_place B (m - 1));
  next_key = cond (eqb m 0) 0 ((area_place B (m - 1)).offset + (area_place B (m - 1)).len);
  room = length B;
  key_room = length K;
}

-- what the builder's areas show
abbrev pub view_of : SSTableIndexBuilder → List ℕ → List ℕ → View
view_of builder B K = area_view builder.n B K
