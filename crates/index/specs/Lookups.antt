-- The lookups (rows 17 to 20 and 29). What an answer may be in every case is held to `..Allowed`, what it is for bytes and record of one
-- opening to `..Exact`.
-- A name that ends in By takes the group's length L; the same name without is for the groups that a record has.
use Rattle.std.specs.Prelude.{ℕ, ◌+◌, ◌*◌, ◌≤◌, ◌<◌, ◌≡◌, List, ◌⊎◌, Bool, true, false, ◌||◌, cond, ltb, leb, length, take, drop}
use Rattle.std.specs.Prelude.{Option, Some, None}
use Rattle.layout.specs.Layout.{max_blocks, meta_len}
use Rattle.layout.specs.Versions.{version_bad}
use Rattle.keys.specs.Order.{◌≺◌}
use Rattle.group.specs.declared.BlockAddr.{BlockAddr}
use Rattle.group.specs.Legal.{NumbersOk}
use Rattle.group.specs.Blocks.{no_block}
use Rattle.store.specs.Store.{group_count}
use Rattle.store.specs.Read.{group_meta, Last}
use Rattle.directory.specs.Read.{First, key_position, key_length, key_outside}
use Rattle.index.specs.declared.SSTableIndexV3.{SSTableIndexV3}
use Rattle.index.specs.Parts.{block_in, separator_in}
use Rattle.index.specs.Opening.{OpensBy, group_of}

-- ---- row 20 for the record

-- a version or an n that no index has, a place that doesn't fit `len` bytes, or fewer group records than n blocks have
unfoldable pub opened_bad_by : ℕ → SSTableIndexV3 → ℕ → Bool
opened_bad_by L opened len =
    version_bad opened.version || (ltb opened.n 1 || (ltb max_blocks opened.n
    || (ltb len (opened.directory + opened.directory_len)
    || (ltb len (opened.metas + opened.metas_len)
    || (ltb len (opened.addrs + opened.addrs_len) || ltb opened.metas_len (meta_len * group_count L opened.n))))))

abbrev pub opened_bad : SSTableIndexV3 → ℕ → Bool
opened_bad opened len = opened_bad_by (group_of opened) opened len

-- a record that doesn't hit it, in numbers
pub record OpenedFits (L : ℕ) (opened : SSTableIndexV3) (len : ℕ) : Type 0 where
  pub version : version_bad opened.version ≡ false
  pub some : 1 ≤ opened.n
  pub few : opened.n ≤ max_blocks
  pub directory : opened.directory + opened.directory_len ≤ len
  pub metas : opened.metas + opened.metas_len ≤ len
  pub addrs : opened.addrs + opened.addrs_len ≤ len
  pub records : meta_len * group_count L opened.n ≤ opened.metas_len

-- the directory that a record names
abbrev pub directory_at : SSTableIndexV3 → List ℕ → List ℕ
directory_at opened f = take opened.directory_len (drop opened.directory f)

-- the group records and the address bytes that a record names
abbrev pub metas_at : SSTableIndexV3 → List ℕ → List ℕ
metas_at opened f = take opened.metas_len (drop opened.metas f)

abbrev pub addrs_at : SSTableIndexV3 → List ℕ → List ℕ
addrs_at opened f = take opened.addrs_len (drop opened.addrs f)

-- the first ordinal in the first of these group records
abbrev pub first_ordinal_at : SSTableIndexV3 → List ℕ → ℕ
first_ordinal_at opened f = (group_meta (metas_at opened f) 0).first_ordinal

-- ---- what an answer may be, and what it is

-- a refusal: the call's own row, or 20
abbrev pub Refuses : ℕ → ℕ → Type 0
Refuses row k = (k ≡ row) ⊎ (k ≡ 20)

-- by id
abbrev pub ByIdAllowed : ℕ → ℕ → ℕ → BlockAddr → Type 0
ByIdAllowed n id k addr = ((k ≡ 0) × (id < n) × NumbersOk addr) ⊎ (Refuses 17 k × (addr ≡ no_block))

abbrev pub ByIdExact : (ℕ → BlockAddr) → ℕ → ℕ → ℕ → BlockAddr → Type 0
ByIdExact block n id k addr = ((k ≡ 0) × (id < n) × (addr ≡ block id)) ⊎ ((k ≡ 17) × (n ≤ id) × (addr ≡ no_block))

-- an id with its address; `row` is the call's own
abbrev pub LocatedAllowed : ℕ → ℕ → ℕ → ℕ → BlockAddr → Type 0
LocatedAllowed row n k id addr = ((k ≡ 0) × (id < n) × NumbersOk addr) ⊎ (Refuses row k × (id ≡ 0) × (addr ≡ no_block))

-- by ordinal, a refusal: 18 below the first ordinal alone, 29 where it is neither below that nor below the number of terms, or 20
abbrev pub OrdRefuses : ℕ → ℕ → ℕ → ℕ → Type 0
OrdRefuses terms first ord k = ((k ≡ 18) × (ord < first)) ⊎ (((k ≡ 29) × (first ≤ ord) × (terms ≤ ord)) ⊎ (k ≡ 20))

-- an ordinal that isn't below the number of terms finds no block, whatever the record and the bytes are
abbrev pub ByOrdAllowed : ℕ → ℕ → ℕ → ℕ → ℕ → ℕ → BlockAddr → Type 0
ByOrdAllowed terms first n ord k id addr =
    ((k ≡ 0) × (ord < terms) × (id < n) × NumbersOk addr) ⊎ (OrdRefuses terms first ord k × (id ≡ 0) × (addr ≡ no_block))

-- by ordinal (SPECIFICATION 9.2): found, below the first ordinal, or not below the number of terms
abbrev pub ByOrdExact : (ℕ → BlockAddr) → ℕ → ℕ → ℕ → ℕ → ℕ → BlockAddr → Type 0
ByOrdExact block n terms ord k id addr =
    ((k ≡ 0) × (ord < terms) × Last (λ j. (block j).first_ordinal) n ord id × (addr ≡ block id))
    ⊎ (((k ≡ 18) × (id ≡ 0) × (addr ≡ no_block) × (ord < (block 0).first_ordinal))
    ⊎ ((k ≡ 29) × (id ≡ 0) × (addr ≡ no_block) × ((block 0).first_ordinal ≤ ord) × (terms ≤ ord)))

-- by key (SPECIFICATION 9.3)
abbrev pub ByKeyAllowed : ℕ → ℕ → ℕ → Type 0
ByKeyAllowed n k id = ((k ≡ 0) × (id < n)) ⊎ (Refuses 19 k × (id ≡ 0))

abbrev pub ByKeyExact : (ℕ → List ℕ) → ℕ → List ℕ → ℕ → ℕ → Type 0
ByKeyExact separator n key k id =
    ((k ≡ 0) × First separator n key id) ⊎ ((k ≡ 19) × (id ≡ 0) × ((i : ℕ) → i < n → separator i ≺ key))

-- by key with the block's address (SPECIFICATION 9.4)
abbrev pub AddrByKeyExact : (ℕ → List ℕ) → (ℕ → BlockAddr) → ℕ → List ℕ → ℕ → ℕ → BlockAddr → Type 0
AddrByKeyExact separator block n key k id addr =
    ((k ≡ 0) × First separator n key id × (addr ≡ block id))
    ⊎ ((k ≡ 19) × (id ≡ 0) × (addr ≡ no_block) × ((i : ℕ) → i < n → separator i ≺ key))

-- ---- what each lookup promises of its number k and its values

pub record GetBlockBy (L : ℕ) (f : List ℕ) (opened : SSTableIndexV3) (id k : ℕ) (addr : BlockAddr) : Type 0 where
  -- in every case
  pub allowed : ByIdAllowed opened.n id k addr
  -- a record that fails its own test gets exactly 20
  pub unfit : opened_bad_by L opened (length f) ≡ true → k ≡ 20
  -- bytes and record of one opening
  pub exact : OpensBy L f opened → ByIdExact (block_in L f) opened.n id k addr

abbrev pub GetBlock : List ℕ → SSTableIndexV3 → ℕ → ℕ → BlockAddr → Type 0
GetBlock f opened id k addr = GetBlockBy (group_of opened) f opened id k addr

pub record LocateWithOrdBy (L : ℕ) (f : List ℕ) (opened : SSTableIndexV3) (ord k id : ℕ) (addr : BlockAddr) : Type 0 where
  pub allowed : ByOrdAllowed opened.terms (first_ordinal_at opened f) opened.n ord k id addr
  pub unfit : opened_bad_by L opened (length f) ≡ true → k ≡ 20
  pub exact : OpensBy L f opened → ByOrdExact (block_in L f) opened.n opened.terms ord k id addr

abbrev pub LocateWithOrd : List ℕ → SSTableIndexV3 → ℕ → ℕ → ℕ → BlockAddr → Type 0
LocateWithOrd f opened ord k id addr = LocateWithOrdBy (group_of opened) f opened ord k id addr

pub record LocateWithKeyBy (L : ℕ) (f : List ℕ) (opened : SSTableIndexV3) (key : List ℕ) (k id : ℕ) : Type 0 where
  pub allowed : ByKeyAllowed opened.n k id
  pub unfit : opened_bad_by L opened (length f) ≡ true → k ≡ 20
  pub exact : OpensBy L f opened → ByKeyExact (separator_in f) opened.n key k id

abbrev pub LocateWithKey : List ℕ → SSTableIndexV3 → List ℕ → ℕ → ℕ → Type 0
LocateWithKey f opened key k id = LocateWithKeyBy (group_of opened) f opened key k id

pub record GetBlockWithKeyBy (L : ℕ) (f : List ℕ) (opened : SSTableIndexV3) (key : List ℕ) (k id : ℕ) (addr : BlockAddr) : Type 0 where
  pub allowed : LocatedAllowed 19 opened.n k id addr
  pub unfit : opened_bad_by L opened (length f) ≡ true → k ≡ 20
  pub exact : OpensBy L f opened → AddrByKeyExact (separator_in f) (block_in L f) opened.n key k id addr

abbrev pub GetBlockWithKey : List ℕ → SSTableIndexV3 → List ℕ → ℕ → ℕ → BlockAddr → Type 0
GetBlockWithKey f opened key k id addr = GetBlockWithKeyBy (group_of opened) f opened key k id addr

-- where the separator of a block stands, its offset and its length, or a miss (SPECIFICATION 9.5)
unfoldable pub place_by : ℕ → SSTableIndexV3 → List ℕ → ℕ → Option (ℕ × ℕ)
place_by L opened f id =
    cond (opened_bad_by L opened (length f) || leb opened.n id || key_outside (directory_at opened f) opened.n id) None
    (Some (opened.directory + key_position (directory_at opened f) opened.n id, key_length (directory_at opened f) id))

abbrev pub place_def : SSTableIndexV3 → List ℕ → ℕ → Option (ℕ × ℕ)
place_def opened f id = place_by (group_of opened) opened f id
