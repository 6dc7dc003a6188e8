-- Block i of a store, read from its group records and its address bytes (document 01, "Opening and lookups").
use Rattle.std.specs.Prelude.{ℕ, ◌-◌, ◌*◌, ◌/◌, ◌%◌, ◌≤◌, ◌<◌, min, ◌≡◌, List, Bool, false, ◌||◌, ◌⊎◌, cond, length, drop}
use Rattle.std.specs.Prelude.{Option, Some, None, Result, Ok, Err}
use Rattle.layout.specs.Layout.{meta_len}
use Rattle.layout.specs.declared.refusals.Refusal.{Refusal}
use Rattle.layout.specs.Refusals.{number_of, no_of}
use Rattle.serialize.specs.Digits.{le_val}
use Rattle.group.specs.declared.BlockAddr.{BlockAddr}
use Rattle.group.specs.declared.BlockAddrBlockMetadata.{BlockAddrBlockMetadata}
use Rattle.group.specs.Legal.{NumbersOk, Legal}
use Rattle.group.specs.Rows.{are_numbers_bad}
use Rattle.group.specs.Meta.{metadata_at}
use Rattle.group.specs.Read.{group_bad, first_values_bad, block_read}
use Rattle.store.specs.Store.{group_count}
use Rattle.store.specs.declared.Located.{Located}

-- the record of group g
abbrev pub group_meta : List ℕ → ℕ → BlockAddrBlockMetadata
group_meta recs g = metadata_at recs (meta_len * g)

-- how many of n blocks group g has
abbrev pub len_of_group : ℕ → ℕ → ℕ → ℕ
len_of_group L n g = min L (n - L * g)

-- block i
unfoldable pub store_block : ℕ → List ℕ → List ℕ → ℕ → BlockAddr
store_block L recs addr i =
    block_read (group_meta recs (i / L)) (le_val (drop (group_meta recs (i / L)).offset addr)) (i % L)

-- a group that breaks row 15, or whose first values are outside row 16's range
unfoldable pub meta_bad : ℕ → List ℕ → List ℕ → ℕ → ℕ → Bool
meta_bad L recs addr n g = group_bad (group_meta recs g) (len_of_group L n g) (length addr) || first_values_bad (group_meta recs g)

-- block i as it is read; numbers that break row 3 stand for a group that can't be read
unfoldable pub block_or : ℕ → List ℕ → List ℕ → ℕ → ℕ → BlockAddr
block_or L recs addr n i =
    cond (meta_bad L recs addr n (i / L)) (record { start = 1; end = 0; first_ordinal = 0 }) (store_block L recs addr i)

-- what a lookup of block i finds: it, or that its group is broken or its numbers break row 3 (row 20)
unfoldable pub store_get : ℕ → List ℕ → List ℕ → ℕ → ℕ → Option BlockAddr
store_get L recs addr n i =
    cond (meta_bad L recs addr n (i / L)) None
    (cond (are_numbers_bad (store_block L recs addr i)) None (Some (store_block L recs addr i)))

-- the table's number for it
abbrev pub got_no : Option BlockAddr → ℕ
got_no (Some b) = 0
got_no None = 20

-- a store of n blocks that keeps rows 15 and 16
pub record StoreOk (L : ℕ) (recs addr : List ℕ) (n : ℕ) : Type 0 where
  pub groups : (g : ℕ) → g < group_count L n → meta_bad L recs addr n g ≡ false
  pub legal : Legal (store_block L recs addr) n

-- i is the last of n numbers that are at or below x
pub record Last (f : ℕ → ℕ) (n x i : ℕ) : Type 0 where
  pub inside : i < n
  pub at_most : f i ≤ x
  pub later : (j : ℕ) → i < j → j < n → x < f j

-- the table's number for what an ordinal's lookup finds
abbrev pub ord_found_no : Result Located Refusal → ℕ
ord_found_no r = no_of r

-- what an ordinal's lookup may answer in every case, `first` being the first ordinal of the first group's record, and what it answers
-- in a store that keeps the rules: the block that SPECIFICATION 9.2 names, or that the ordinal is below the first
unfoldable pub OrdFoundIn : ℕ → ℕ → ℕ → Result Located Refusal → Type 0
OrdFoundIn n first ord (Ok at) = (at.block_id < n) × NumbersOk at.addr
OrdFoundIn n first ord (Err refusal) = ((number_of refusal ≡ 18) × (ord < first)) ⊎ (number_of refusal ≡ 20)

unfoldable pub OrdFoundAs : (ℕ → BlockAddr) → ℕ → ℕ → Result Located Refusal → Type 0
OrdFoundAs block n ord (Ok at) = Last (λ j. (block j).first_ordinal) n ord at.block_id × (at.addr ≡ block at.block_id)
OrdFoundAs block n ord (Err refusal) = (number_of refusal ≡ 18) × (ord < (block 0).first_ordinal)
