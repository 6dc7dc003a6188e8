-- Rows 15 and 16 of document 01's table over a whole store, each tried over all of its records before the next.
use Rattle.std.specs.Prelude.{ℕ, zero, suc, List, Bool, false, ◌||◌, cond, length}
use Rattle.group.specs.declared.BlockAddr.{BlockAddr}
use Rattle.group.specs.Rows.{are_numbers_bad, is_join_bad, is_ordinal_bad}
use Rattle.group.specs.Read.{group_bad, first_values_bad}
use Rattle.store.specs.Store.{group_count}
use Rattle.store.specs.Read.{group_meta, len_of_group, store_block}

-- row 15: one of the first k groups breaks its rule
unfoldable pub groups_bad : ℕ → List ℕ → List ℕ → ℕ → ℕ → Bool
groups_bad L recs addr n zero = false
groups_bad L recs addr n (suc k) = groups_bad L recs addr n k || group_bad (group_meta recs k) (len_of_group L n k) (length addr)

-- row 16: a first value of one of the first k groups is outside the range
unfoldable pub firsts_bad : List ℕ → ℕ → Bool
firsts_bad recs zero = false
firsts_bad recs (suc k) = firsts_bad recs k || first_values_bad (group_meta recs k)

-- row 16: one of the first m blocks breaks 3, which a value read outside the range does, or 4 or 5 behind the one before it
unfoldable pub blocks_bad : (ℕ → BlockAddr) → ℕ → Bool
blocks_bad block zero = false
blocks_bad block (suc zero) = are_numbers_bad (block 0)
blocks_bad block (suc (suc m)) =
    blocks_bad block (suc m)
    || (are_numbers_bad (block (suc m)) || (is_join_bad (block m) (block (suc m)) || is_ordinal_bad (block m) (block (suc m))))

-- the number of a store of n blocks; 0 where neither row is hit
unfoldable pub store_no : ℕ → List ℕ → List ℕ → ℕ → ℕ
store_no L recs addr n =
    cond (groups_bad L recs addr n (group_count L n)) 15
    (cond (firsts_bad recs (group_count L n) || blocks_bad (store_block L recs addr) n) 16 0)
