-- The number and the values of each answer, as the C interface gives them: a refusal has all else zero, and a number above 0.
use Rattle.std.specs.Prelude.{ℕ, ◌<◌, List, take, drop, Option, Some, None, Result, Ok, Err}
use Rattle.layout.specs.declared.refusals.Refusal.{Refusal}
use Rattle.layout.specs.Refusals.{number_of, no_of}
use Rattle.group.specs.declared.BlockAddr.{BlockAddr}
use Rattle.group.specs.Blocks.{no_block}
use Rattle.store.specs.declared.Located.{Located}
use Rattle.index.specs.declared.SSTableIndexV3.{SSTableIndexV3}

-- the record of an opening that is refused
abbrev pub no_index : SSTableIndexV3
no_index = record { n = 0; directory = 0; directory_len = 0; metas = 0; metas_len = 0; addrs = 0; addrs_len = 0; terms = 0; version = 0 }

-- opening: its number and the opened record
abbrev pub load_no : Result SSTableIndexV3 Refusal → ℕ
load_no loaded = no_of loaded

abbrev pub load_opened : Result SSTableIndexV3 Refusal → SSTableIndexV3
load_opened (Ok opened) = opened
load_opened (Err refusal) = no_index

-- by id: its number and the address
abbrev pub by_id_no : Result BlockAddr Refusal → ℕ
by_id_no block = no_of block

abbrev pub by_id_addr : Result BlockAddr Refusal → BlockAddr
by_id_addr (Ok addr) = addr
by_id_addr (Err refusal) = no_block

abbrev pub BlockByIdCased : Result BlockAddr Refusal → Type 0
BlockByIdCased (Ok addr) = Unit {0}
BlockByIdCased (Err refusal) = 0 < number_of refusal

-- by ordinal, and an address by key: its number, the id and the address
abbrev pub located_no : Result Located Refusal → ℕ
located_no located = no_of located

abbrev pub located_id : Result Located Refusal → ℕ
located_id (Ok at) = at.block_id
located_id (Err refusal) = 0

abbrev pub located_addr : Result Located Refusal → BlockAddr
located_addr (Ok at) = at.addr
located_addr (Err refusal) = no_block

abbrev pub LocatedCased : Result Located Refusal → Type 0
LocatedCased (Ok at) = Unit {0}
LocatedCased (Err refusal) = 0 < number_of refusal

-- by key: its number and the id
abbrev pub id_no : Result ℕ Refusal → ℕ
id_no id = no_of id

abbrev pub id_of : Result ℕ Refusal → ℕ
id_of (Ok id) = id
id_of (Err refusal) = 0

abbrev pub LocatedIdCased : Result ℕ Refusal → Type 0
LocatedIdCased (Ok id) = Unit {0}
LocatedIdCased (Err refusal) = 0 < number_of refusal

-- a separator's place, its offset and its length, and the part of the bytes that stands there; a miss is the empty part
abbrev pub place_offset : Option (ℕ × ℕ) → ℕ
place_offset (Some place) = place.0
place_offset None = 0

abbrev pub place_len : Option (ℕ × ℕ) → ℕ
place_len (Some place) = place.1
place_len None = 0

abbrev pub part_at : List ℕ → Option (ℕ × ℕ) → List ℕ
part_at f p = take (place_len p) (drop (place_offset p) f)
