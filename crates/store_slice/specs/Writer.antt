-- What is lent to write the store of n records in groups of L.
use Rattle.std.specs.Prelude.{ℕ, ◌*◌, ◌≤◌, min, List, length}
use Rattle.layout.specs.Layout.{max_blocks}
use Rattle.store.specs.Store.{group_count}

-- room for the records of a group in the window, and for two numbers of each group's plan where there aren't too many records
pub record Rooms (L n : ℕ) (window kept : List ℕ) : Type 0 where
  pub records : 3 * min L n ≤ length window
  pub plans : n ≤ max_blocks → 2 * group_count L n ≤ length kept
