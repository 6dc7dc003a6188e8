-- What the functions that write a directory ask of the areas.
use Rattle.std.specs.Prelude.{ℕ, ◌+◌, ◌*◌, ◌≤◌, ◌<◌, List, length}
use Rattle.layout.specs.Layout.{max_blocks, max_key_len}
use Rattle.directory.specs.Keys.{offset_at, length_at}

-- n records stand in the area, and each key of at most 1,024 bytes in the key area
pub record KeysArea (area : List ℕ) (stride field : ℕ) (keys : List ℕ) (n : ℕ) : Type 0 where
  pub few : n ≤ max_blocks
  pub place : field + 1 < stride
  pub inside : stride * n ≤ length area
  pub short : (i : ℕ) → i < n → length_at area stride field i ≤ max_key_len
  pub within : (i : ℕ) → i < n → offset_at area stride field i + length_at area stride field i ≤ length keys
