-- The store from a slice of block records (SPECIFICATION 7; rows 30, 3, 4, 5, 7 and 9).
use Rattle.std.specs.Prelude.{ℕ, zero, suc, List, [], ◌∷◌, Bool, false, ◌||◌, cond, ltb, length, Result, Ok, Err}
use Rattle.std.proofs.lemmas.List.Edits.{sets}
use Rattle.layout.specs.Layout.{max_blocks}
use Rattle.layout.specs.declared.refusals.Refusal.{Refusal}
use Rattle.layout.specs.Refusals.{number_of}
use Rattle.layout.specs.Versions.{version_bad, group_len_of}
use Rattle.slope.specs.Slope.{best_slope}
use Rattle.group.specs.declared.BlockAddr.{BlockAddr}
use Rattle.group.specs.Rows.{are_numbers_bad, is_join_bad, is_ordinal_bad, or_row}
use Rattle.store.specs.Store.{store_bytes}

-- some block is bad
unfoldable pub any_bad : (BlockAddr → Bool) → List BlockAddr → Bool
any_bad bad [] = false
any_bad bad (b ∷ bs) = bad b || any_bad bad bs

-- some block behind the first is bad, seen with the one before it
unfoldable pub pair_bad : (BlockAddr → BlockAddr → Bool) → List BlockAddr → Bool
pair_bad bad [] = false
pair_bad bad (b ∷ []) = false
pair_bad bad (b ∷ c ∷ bs) = bad b c || pair_bad bad (c ∷ bs)

-- the rows in their order, each over all records before the next: 3, 4, 5, then 7: over 65,536 records
unfoldable pub block_list_no : List BlockAddr → ℕ
block_list_no bs =
    cond (any_bad are_numbers_bad bs) 3
    (cond (pair_bad is_join_bad bs) 4 (cond (pair_bad is_ordinal_bad bs) 5 (cond (ltb max_blocks (length bs)) 7 0)))

-- then 9: the output is shorter than the store, whose groups have L blocks
unfoldable pub slice_no_by : ℕ → List BlockAddr → ℕ → ℕ
slice_no_by L bs room = or_row (block_list_no bs) (cond (ltb room (length (store_bytes best_slope L bs))) 9 0)

-- what a call answers: a row's number, 0 where the store was written, and its length
pub record Stored : Type 0 where
  pub no : ℕ
  pub len : ℕ

abbrev pub stored_answer : Result ℕ Refusal → Stored
stored_answer (Ok len) = record { no = 0; len = len }
stored_answer (Err refusal) = record { no = number_of refusal; len = 0 }

-- the number and the store's length; the store from byte 0 on with the rest as it was, or what was there
unfoldable pub stored_step : ℕ → ℕ → List BlockAddr → Stored
stored_step L zero bs = record { no = 0; len = length (store_bytes best_slope L bs) }
stored_step L (suc k) bs = record { no = suc k; len = 0 }

unfoldable pub out_step : ℕ → ℕ → List BlockAddr → List ℕ → List ℕ
out_step L zero bs out = sets out 0 (store_bytes best_slope L bs)
out_step L (suc k) bs out = out

abbrev pub slice_stored_by : ℕ → List BlockAddr → List ℕ → Stored
slice_stored_by L bs out = stored_step L (slice_no_by L bs (length out)) bs

abbrev pub slice_out_by : ℕ → List BlockAddr → List ℕ → List ℕ
slice_out_by L bs out = out_step L (slice_no_by L bs (length out)) bs out

-- what the public calls answer and leave: 30 before all others for a version that no index has
unfoldable pub slice_stored : ℕ → List BlockAddr → List ℕ → Stored
slice_stored version bs out = cond (version_bad version) (record { no = 30; len = 0 }) (slice_stored_by (group_len_of version) bs out)

unfoldable pub slice_out : ℕ → List BlockAddr → List ℕ → List ℕ
slice_out version bs out = cond (version_bad version) out (slice_out_by (group_len_of version) bs out)
