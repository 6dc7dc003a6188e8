-- What the functions that write and read a store ask.
use Rattle.std.specs.Prelude.{ℕ, ◌*◌, ◌≤◌, List, length}
use Rattle.layout.specs.Layout.{max_blocks, max_group_len, meta_len}
use Rattle.group.specs.Blocks.{block_at}
use Rattle.group.specs.Legal.{Legal}
use Rattle.store.specs.Store.{group_count}

-- a group's length, 1 to 256
pub record GroupLenOk (L : ℕ) : Type 0 where
  pub some : 1 ≤ L
  pub few : L ≤ max_group_len

-- n legal blocks that stand in the area
pub record StoreArea (area : List ℕ) (stride n : ℕ) : Type 0 where
  pub few : n ≤ max_blocks
  pub wide : 3 ≤ stride
  pub inside : stride * n ≤ length area
  pub legal : Legal (block_at area stride) n

-- enough group records for n blocks, 1 to 65,536
pub record GroupRecordsOk (L : ℕ) (recs : List ℕ) (n : ℕ) : Type 0 where
  pub some : 1 ≤ n
  pub few : n ≤ max_blocks
  pub long : meta_len * group_count L n ≤ length recs
