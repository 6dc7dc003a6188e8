-- A written index, opened with its version and a number of terms: what is found in it are the blocks and separators that it was written
-- from. L is the group's length.
use Rattle.std.specs.Prelude.{ℕ, zero, suc, ◌+◌, ◌-◌, ◌*◌, ◌^◌, ◌≤◌, ◌<◌, ◌≡◌, List, [], ◌++◌, cond, ltb, length, get_or, Some, None, Ok}
use Rattle.layout.specs.Layout.{max_blocks, max_key_len, pair_len}
use Rattle.serialize.specs.Digits.{le_bytes}
use Rattle.keys.specs.Order.{◌≺◌}
use Rattle.group.specs.declared.BlockAddr.{BlockAddr}
use Rattle.group.specs.Blocks.{block_of}
use Rattle.group.specs.Legal.{Legal}
use Rattle.group.specs.Rows.{or_row}
use Rattle.store.specs.Store.{store_bytes}
use Rattle.store.specs.Facts.{GroupLenOk}
use Rattle.directory.specs.Directory.{directory_bytes}
use Rattle.automaton.specs.Table.{table_no}
use Rattle.index.specs.Parts.{block_in, separator_in}
use Rattle.index.specs.Opening.{opened_of, open_def}
use Rattle.index.specs.Lookups.{place_by}
use Rattle.listing.specs.Listing.{listing_no, ListingLeaves, GetBlockForAutomaton}

-- f is the index of these blocks and separators, which keep the rows
pub record WrittenIndex (choose : List ℕ → ℕ) (L : ℕ) (blocks : List BlockAddr) (separators : List (List ℕ)) (f : List ℕ) : Type 0 where
  -- directory, store, directory length 8
  pub bytes : f ≡ directory_bytes separators ++ (store_bytes choose L blocks ++ le_bytes 8 (length (directory_bytes separators)))
  pub slopes : (vs : List ℕ) → choose vs < 2 ^ 32
  pub group : GroupLenOk L
  -- two blocks or more, which are legal
  pub two : 2 ≤ length blocks
  pub few : length blocks ≤ max_blocks
  pub legal : Legal (block_of blocks) (length blocks)
  -- as many separators, which are short and rise
  pub same : length separators ≡ length blocks
  pub short : (i : ℕ) → i < length separators → length (get_or separators i []) ≤ max_key_len
  pub rises : (i : ℕ) → suc i < length separators → get_or separators i [] ≺ get_or separators (suc i) []

-- the lengths of the separators before separator i added up
unfoldable pub lengths_before : List (List ℕ) → ℕ → ℕ
lengths_before separators zero = 0
lengths_before separators (suc i) = lengths_before separators i + length (get_or separators i [])

-- the first ordinal of the last block of a list
abbrev pub last_first : List BlockAddr → ℕ
last_first blocks = (block_of blocks (length blocks - 1)).first_ordinal

-- what is read in the index f of n blocks, opened with a version and a number of terms
pub record IndexRead (L n version terms : ℕ) (blocks : List BlockAddr) (separators : List (List ℕ)) (f : List ℕ) : Type 0 where
  pub opens : open_def L version terms f ≡ Ok (opened_of version terms f)
  pub count : (opened_of version terms f).n ≡ n
  pub block : (i : ℕ) → i < n → block_in L f i ≡ block_of blocks i
  pub separator : (i : ℕ) → i < n → separator_in f i ≡ get_or separators i []
  -- separator i stands after the pairs and the separators before it; other ids have none
  pub place : (i : ℕ) → i < n
      → place_by L (opened_of version terms f) f i ≡ Some (4 + pair_len * n + lengths_before separators i, length (get_or separators i []))
  pub no_place : (i : ℕ) → n ≤ i → place_by L (opened_of version terms f) f i ≡ None

-- what a listing in the index f of n blocks, opened with a version and a number of terms, answers and leaves, for every table and room
pub record ListingRead (n version terms : ℕ) (separators : List (List ℕ)) (f : List ℕ) : Type 0 where
  pub number : (t : List ℕ) (room : ℕ) → listing_no (opened_of version terms f) f t room ≡ or_row (table_no t) (cond (ltb room n) 24 0)
  pub leaves : (t marks written : List ℕ) (k count : ℕ) → GetBlockForAutomaton f (opened_of version terms f) t marks written k count
      → ListingLeaves t (λ i. get_or separators i []) n marks written k count
