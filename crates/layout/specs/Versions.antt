-- The versions of an index (document 02, wish 5): 3 and 4. They differ in the length of a group alone.
use Rattle.std.specs.Prelude.{ℕ, Bool, not, ◌||◌, cond, eqb}
use Rattle.layout.specs.Layout.{store_block_len, store_block_len_v4}

-- no index has this version
unfoldable pub version_bad : ℕ → Bool
version_bad version = not (eqb version 3 || eqb version 4)

-- row 30
unfoldable pub version_no : ℕ → ℕ
version_no version = cond (version_bad version) 30 0

-- the blocks of a group in an index of a version; of a version that no index has, nothing depends on it
unfoldable pub group_len_of : ℕ → ℕ
group_len_of version = cond (eqb version 3) store_block_len store_block_len_v4
