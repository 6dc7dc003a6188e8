-- The marked worked cases, in their order, as one claim over one list of calls. Bytes stand as decimals.
use Rattle.std.specs.Prelude.{ℕ, ◌+◌, ◌*◌, ◌^◌, ◌≤◌, ◌≡◌, Bool, true, false, List, [], ◌∷◌, ◌++◌, length, replicate, Ok}
use Rattle.std.proofs.Math.Option.{none, some}
use Rattle.keys.specs.Shorten.{shorten}
use Rattle.slope.specs.Slope.{best_slope, width_of}
use Rattle.group.specs.declared.BlockAddr.{BlockAddr}
use Rattle.group.specs.declared.BlockAddrBlockMetadata.{BlockAddrBlockMetadata}
use Rattle.group.specs.Write.{range_values, ordinal_values, fields, meta_of, group_number}
use Rattle.group.specs.Blocks.{no_block}
use Rattle.layout.specs.Layout.{store_block_len}
use Rattle.store.specs.Store.{addrs, store_bytes}
use Rattle.builder.specs.Calls.{State}
use Rattle.machine.specs.Plain.{Call, add, blocks_of, separators_of}
use Rattle.machine.specs.Runs.{FreshState, run_numbers, finished_in}
use Rattle.automaton.specs.Bits.{Exactly}
use Rattle.automaton.specs.Table.{table_no}
use Rattle.automaton.specs.Words.{Hits}
use Rattle.pruning.specs.Interval.{Marked}
use Rattle.index.specs.declared.SSTableIndexV3.{SSTableIndexV3}
use Rattle.index.specs.Opening.{load_def, opened_of}
use Rattle.index.specs.Lookups.{GetBlock, LocateWithOrd}
use Rattle.canonical.specs.Canonical.{check_no}
use Rattle.demands.specs.Demand3.{entries_of_calls, index_of_calls}

-- ---- the list

-- the three blocks of 15.1
abbrev pub block0 : BlockAddr
block0 = record { start = 0; end = 10; first_ordinal = 0 }

abbrev pub block1 : BlockAddr
block1 = record { start = 10; end = 25; first_ordinal = 4 }

abbrev pub block2 : BlockAddr
block2 = record { start = 25; end = 30; first_ordinal = 9 }

-- their adds, with the keys b, d and f
abbrev pub worked_calls : List Call
worked_calls = add (98 ∷ []) block0 ∷ add (100 ∷ []) block1 ∷ add (102 ∷ []) block2 ∷ []

-- a fresh builder with room for them in its areas, and for the index in the output
pub record Room (fresh : State) (out : List ℕ) : Type 0 where
  pub fresh-builder : FreshState fresh
  pub blocks : 15 ≤ length fresh.blocks
  pub keys : 3 ≤ length fresh.keys
  pub output : 85 ≤ length out

-- the record of their one group, and its range and ordinal fields
abbrev pub worked_group : BlockAddrBlockMetadata
worked_group = meta_of best_slope 0 block0 (block1 ∷ block2 ∷ [])

abbrev pub range_fields : List ℕ
range_fields = fields worked_group.range_start_slope worked_group.range_start_nbits 1 (range_values 0 block0 (block1 ∷ block2 ∷ []))

abbrev pub ordinal_fields : List ℕ
ordinal_fields = fields worked_group.first_ordinal_slope worked_group.first_ordinal_nbits 1 (ordinal_values 0 (block1 ∷ block2 ∷ []))

-- two lists in turn, the first one longer by one
abbrev pub in_turn : List ℕ → List ℕ → List ℕ
in_turn [] ordinals = ordinals
in_turn (r ∷ ranges) [] = r ∷ ranges
in_turn (r ∷ ranges) (o ∷ ordinals) = r ∷ o ∷ in_turn ranges ordinals

-- ---- automata

-- a table that passes 21 to 23, and of all byte strings accepts w alone
pub record Only (t w : List ℕ) : Type 0 where
  pub table : table_no t ≡ 0
  pub accepted : Hits t 0 w
  pub alone : (v : List ℕ) → Hits t 0 v → v ≡ w

-- three states: 0 starts, c leads from it to 1, which accepts; every other byte leads to 2
unfoldable pub only_c : List ℕ
only_c = 3 ∷ 0 ∷ 1 ∷ 0 ∷ (replicate 99 2 ++ (1 ∷ replicate 668 2))

-- two states: 0 starts and accepts, every byte leads to 1
unfoldable pub only_empty : List ℕ
only_empty = 2 ∷ 1 ∷ 0 ∷ replicate 512 1

-- ---- the cases

-- the index of version 3 that finish makes of the list, and its record, opened with 12 terms
abbrev pub worked_index : State → List ℕ → List ℕ
worked_index fresh out = index_of_calls 3 worked_calls fresh out

abbrev pub worked_opened : State → List ℕ → SSTableIndexV3
worked_opened fresh out = opened_of 3 12 (worked_index fresh out)

pub record Worked (fresh : State) (out : List ℕ) : Type 0 where
  -- the three adds are taken, and are the blocks and separators
  pub taken : run_numbers worked_calls fresh ≡ 0 ∷ 0 ∷ 0 ∷ []
  pub blocks : blocks_of (entries_of_calls worked_calls fresh) ≡ block0 ∷ block1 ∷ block2 ∷ []
  pub separators : separators_of (entries_of_calls worked_calls fresh) ≡ (98 ∷ []) ∷ (100 ∷ []) ∷ (102 ∷ []) ∷ []
  -- 15.1: slopes and widths
  pub range-slope : worked_group.range_start_slope ≡ 11
  pub range-width : worked_group.range_start_nbits ≡ 3
  pub ordinal-slope : worked_group.first_ordinal_slope ≡ 5
  pub ordinal-width : worked_group.first_ordinal_nbits ≡ 2
  -- 15.1: the five fields, and the number that they make
  pub five-fields : in_turn range_fields ordinal_fields ≡ 3 ∷ 1 ∷ 7 ∷ 1 ∷ 1 ∷ []
  pub bits : group_number worked_group block0 (block1 ∷ block2 ∷ []) ≡ 3 + 2 ^ 3 * (1 + 2 ^ 2 * (7 + 2 ^ 3 * (1 + 2 ^ 2 * 1)))
  -- 15.1: the address bytes and the store's length
  pub address-bytes : addrs best_slope store_block_len 1 (blocks_of (entries_of_calls worked_calls fresh)) ≡ 235 ∷ 5 ∷ []
  pub store : length (store_bytes best_slope store_block_len (blocks_of (entries_of_calls worked_calls fresh))) ≡ 46
  -- 15.1: the index's length; finish returns it, and the index opens and is what finish makes of what is read in it
  pub accepted : (finished_in 3 worked_calls fresh out).no ≡ 0
  pub total : (finished_in 3 worked_calls fresh out).total ≡ 85
  pub index-bytes : length (worked_index fresh out) ≡ 85
  pub opens : load_def 3 12 (worked_index fresh out) ≡ Ok (worked_opened fresh out)
  pub canonical : check_no 3 (worked_index fresh out) ≡ 0
  -- 15.2
  pub id-2 : (k : ℕ) (addr : BlockAddr) → GetBlock (worked_index fresh out) (worked_opened fresh out) 2 k addr
      → (k ≡ 0) × (addr ≡ block2)
  pub id-3 : (k : ℕ) (addr : BlockAddr) → GetBlock (worked_index fresh out) (worked_opened fresh out) 3 k addr
      → (k ≡ 17) × (addr ≡ no_block)
  -- 15.3
  pub ordinal-3 : (k id : ℕ) (addr : BlockAddr) → LocateWithOrd (worked_index fresh out) (worked_opened fresh out) 3 k id addr
      → (k ≡ 0) × (id ≡ 0) × (addr ≡ block0)
  pub ordinal-4 : (k id : ℕ) (addr : BlockAddr) → LocateWithOrd (worked_index fresh out) (worked_opened fresh out) 4 k id addr
      → (k ≡ 0) × (id ≡ 1) × (addr ≡ block1)
  pub ordinal-11 : (k id : ℕ) (addr : BlockAddr) → LocateWithOrd (worked_index fresh out) (worked_opened fresh out) 11 k id addr
      → (k ≡ 0) × (id ≡ 2) × (addr ≡ block2)
  pub ordinal-1000000 : (k id : ℕ) (addr : BlockAddr) → LocateWithOrd (worked_index fresh out) (worked_opened fresh out) 1000000 k id addr
      → (k ≡ 29) × (id ≡ 0) × (addr ≡ no_block)
  -- 15.4
  pub point-slope : best_slope (2 ^ 40 ∷ []) ≡ 0
  pub point-width : width_of (best_slope (2 ^ 40 ∷ [])) (2 ^ 40 ∷ []) ≡ 42
  -- 15.5
  pub no-slope : best_slope [] ≡ 0
  pub no-width : width_of (best_slope []) [] ≡ 1
  -- 15.6: one is shortened,
  pub abcdef : shorten (97 ∷ 98 ∷ 99 ∷ 100 ∷ 101 ∷ 102 ∷ []) (97 ∷ 98 ∷ 102 ∷ []) ≡ 97 ∷ 98 ∷ 99 ∷ 101 ∷ []
  -- and one stays
  pub ab : shorten (97 ∷ 98 ∷ []) (97 ∷ 98 ∷ 99 ∷ []) ≡ 97 ∷ 98 ∷ []
  -- 15.7: all bytes FF,
  pub all-ff : shorten (97 ∷ 255 ∷ 255 ∷ []) (98 ∷ []) ≡ 97 ∷ 255 ∷ 255 ∷ []
  -- and one after an FF raised
  pub behind-ff : shorten (97 ∷ 255 ∷ 1 ∷ []) (98 ∷ []) ≡ 97 ∷ 255 ∷ 2 ∷ []
  -- 15.8
  pub c-alone : Only only_c (99 ∷ [])
  pub b-to-d : (t : List ℕ) (answer : Bool) → Only t (99 ∷ []) → Exactly answer (Marked t (some (98 ∷ [])) (100 ∷ [])) → answer ≡ true
  pub c-to-d : (t : List ℕ) (answer : Bool) → Only t (99 ∷ []) → Exactly answer (Marked t (some (99 ∷ [])) (100 ∷ [])) → answer ≡ false
  -- 15.9
  pub empty-alone : Only only_empty []
  pub absent-to-empty : (t : List ℕ) (answer : Bool) → Only t [] → Exactly answer (Marked t none []) → answer ≡ true
  pub empty-to-empty : (t : List ℕ) (answer : Bool) → Only t [] → Exactly answer (Marked t (some []) []) → answer ≡ false
