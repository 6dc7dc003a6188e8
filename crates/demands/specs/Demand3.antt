-- Demand 3 (SPECIFICATION 18.3 to 18.10, 18.14, 18.15, 18.17, 18.18): one claim about any list of calls that begins with a fresh builder,
-- then finish of a version, opening with that version and what is found there. The calls are those of the contracts; the plain machine
-- sees their arguments and the areas' lengths.
use Rattle.std.specs.Prelude.{ℕ, ◌+◌, ◌*◌, ◌≤◌, ◌<◌, ◌≡◌, cond, List, [], ltb, length, get_or, take, Option, Some, None, Ok, Err}
use Rattle.layout.specs.Layout.{max_blocks, pair_len}
use Rattle.group.specs.declared.BlockAddr.{BlockAddr}
use Rattle.group.specs.Rows.{or_row}
use Rattle.group.specs.Blocks.{block_of}
use Rattle.builder.specs.Calls.{State}
use Rattle.machine.specs.Plain.{Call, Entry, SameLists, plain_numbers, plain_end, blocks_of, separators_of}
use Rattle.machine.specs.Finished.{plain_finish_in}
use Rattle.machine.specs.Runs.{FreshState, rooms_of, run_numbers, finished_in}
use Rattle.automaton.specs.Table.{table_no}
use Rattle.index.specs.declared.SSTableIndexV3.{SSTableIndexV3}
use Rattle.layout.specs.declared.refusals.Refusal.TheVariants.{TermsBad}
use Rattle.index.specs.Opening.{load_def, opened_of}
use Rattle.index.specs.Answers.{part_at}
use Rattle.index.specs.Lookups.{
  ByIdExact,
  ByOrdExact,
  ByKeyExact,
  AddrByKeyExact,
  GetBlock,
  LocateWithOrd,
  LocateWithKey,
  GetBlockWithKey,
  place_def,
}
use Rattle.batch.specs.Batch.{batch_no, BatchExact, LocateWithKeys}
use Rattle.listing.specs.Listing.{ListingLeaves, GetBlockForAutomaton}
use Rattle.written_index.specs.Written.{lengths_before, last_first}
use Rattle.canonical.specs.Canonical.{check_no}

-- the block and the separator of an entry, the oldest being 0 (SPECIFICATION 4.6)
abbrev pub entry_block : List Entry → ℕ → BlockAddr
entry_block es i = block_of (blocks_of es) i

abbrev pub entry_separator : List Entry → ℕ → List ℕ
entry_separator es i = get_or (separators_of es) i []

-- where separator i stands in the index: after n, the pairs and the separators before it; other ids have no place
unfoldable pub entry_place : List Entry → ℕ → Option (ℕ × ℕ)
entry_place es i =
    cond (ltb i (length es)) (Some (4 + pair_len * length es + lengths_before (separators_of es) i, length (entry_separator es i))) None

-- the first ordinal of the last entry
abbrev pub last_first_of : List Entry → ℕ
last_first_of es = last_first (blocks_of es)

-- what is found in the index f of the entries, opened with a number of terms
pub record Finds (es : List Entry) (f : List ℕ) (terms : ℕ) (opened : SSTableIndexV3) : Type 0 where
  -- 18.6: every id that there is finds its block, any other gets 17
  pub by-id : (id k : ℕ) (addr : BlockAddr) → GetBlock f opened id k addr → ByIdExact (entry_block es) (length es) id k addr
  -- 18.7: an ordinal below the number of terms gives the last block whose first ordinal is at or below it; none is 18 or 29
  pub by-ordinal : (ord k id : ℕ) (addr : BlockAddr) → LocateWithOrd f opened ord k id addr
      → ByOrdExact (entry_block es) (length es) terms ord k id addr
  -- a key gives the first block whose separator isn't below it, otherwise none (19); an address with it is that block's
  pub by_key : (key : List ℕ) (k id : ℕ) → LocateWithKey f opened key k id → ByKeyExact (entry_separator es) (length es) key k id
  pub address-by-key : (key : List ℕ) (k id : ℕ) (addr : BlockAddr) → GetBlockWithKey f opened key k id addr
      → AddrByKeyExact (entry_separator es) (entry_block es) (length es) key k id addr
  -- 18.14: a batch of keys is refused for its list or for fewer ids than keys (26) alone; else what is written for each key is the
  -- first block whose separator isn't below it, or 2^64 - 1 for none, and the ids after the last one stay
  pub by-keys : (pairs bytes ids written : List ℕ) (k : ℕ) → LocateWithKeys f opened pairs bytes ids written k
      → (k ≡ batch_no pairs bytes (length ids)) × BatchExact (entry_separator es) (length es) pairs bytes ids written k
  -- the separator by id is separator i, at its own place; other ids have none
  pub separator-place : (id : ℕ) → place_def opened f id ≡ entry_place es id
  pub separator : (id : ℕ) → id < length es → part_at f (place_def opened f id) ≡ entry_separator es id
  -- a listing is refused for its automaton (21 to 23) or for fewer than n bytes of marks (24) alone; else it writes n marks, mark i
  -- being 1 exactly when the automaton accepts some byte string above separator i - 1 and not above separator i, and counts the ones
  pub listing : (t marks written : List ℕ) (k count : ℕ) → GetBlockForAutomaton f opened t marks written k count
      → (k ≡ or_row (table_no t) (cond (ltb (length marks) (length es)) 24 0))
      × ListingLeaves t (entry_separator es) (length es) marks written k count

-- the entries that the plain machine has after a list of calls
abbrev pub entries_of_calls : List Call → State → List Entry
entries_of_calls cs fresh = plain_end (rooms_of fresh) cs []

-- two entries or more are left, and the finish of a version isn't refused
pub record Finishes (version : ℕ) (cs : List Call) (fresh : State) (out : List ℕ) : Type 0 where
  pub two : 2 ≤ length (entries_of_calls cs fresh)
  pub accepted : (finished_in version cs fresh out).no ≡ 0

-- what finish wrote, cut to its total (SPECIFICATION 4.11)
abbrev pub index_of_calls : ℕ → List Call → State → List ℕ → List ℕ
index_of_calls version cs fresh out = take (finished_in version cs fresh out).total (finished_in version cs fresh out).out

pub record Demand3 (version : ℕ) (cs : List Call) (fresh : State) (out : List ℕ) : Type 0 where
  -- each call is taken or refused, with its number, as the plain machine says; none of them is 1 or 8
  pub answers : run_numbers cs fresh ≡ plain_numbers (rooms_of fresh) cs []
  pub never-1 : (i : ℕ) → get_or (run_numbers cs fresh) i 0 ≡ 1 → ⊥
  pub never-8 : (i : ℕ) → get_or (run_numbers cs fresh) i 0 ≡ 8 → ⊥
  -- the machine never has more than 65,536 entries
  pub few : length (entries_of_calls cs fresh) ≤ max_blocks
  -- 18.18: finish answers and leaves what those entries say: 30 for a version that no index has, else 9, or the index laid out from
  -- their blocks and separators; neither 1 nor 8
  pub finishes : finished_in version cs fresh out ≡ plain_finish_in version (entries_of_calls cs fresh) out
  pub finish-never-1 : (finished_in version cs fresh out).no ≡ 1 → ⊥
  pub finish-never-8 : (finished_in version cs fresh out).no ≡ 8 → ⊥
  -- 18.17: opened alone with its version it is refused for no number of terms above the first ordinal of its last block, and with 28 for
  -- all others; wherever it opens the blocks are found
  pub opens : Finishes version cs fresh out → (terms : ℕ) → last_first_of (entries_of_calls cs fresh) < terms
      → load_def version terms (index_of_calls version cs fresh out) ≡ Ok (opened_of version terms (index_of_calls version cs fresh out))
  pub refuses : Finishes version cs fresh out → (terms : ℕ) → terms ≤ last_first_of (entries_of_calls cs fresh)
      → load_def version terms (index_of_calls version cs fresh out) ≡ Err TermsBad
  pub finds : Finishes version cs fresh out → (terms : ℕ) → last_first_of (entries_of_calls cs fresh) < terms
      → Finds (entries_of_calls cs fresh) (index_of_calls version cs fresh out) terms
      (opened_of version terms (index_of_calls version cs fresh out))
  -- 18.15: every finished index of two blocks or more is the one that finish makes of what is read in it: the check of document 02's
  -- wish 3 says yes
  pub canonical : Finishes version cs fresh out → check_no version (index_of_calls version cs fresh out) ≡ 0
  -- 18.10, within one version
  pub equal : (cs' : List Call) (fresh' : State) (out' : List ℕ) → FreshState fresh'
      → Finishes version cs fresh out → Finishes version cs' fresh' out'
      → index_of_calls version cs fresh out ≡ index_of_calls version cs' fresh' out'
      → SameLists (entries_of_calls cs fresh) (entries_of_calls cs' fresh')
  pub equal-bytes : (cs' : List Call) (fresh' : State) (out' : List ℕ) → FreshState fresh'
      → Finishes version cs fresh out → Finishes version cs' fresh' out'
      → SameLists (entries_of_calls cs fresh) (entries_of_calls cs' fresh')
      → index_of_calls version cs fresh out ≡ index_of_calls version cs' fresh' out'
