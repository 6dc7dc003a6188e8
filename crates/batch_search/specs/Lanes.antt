-- Searches side by side: each has its left bound, and all have `len` keys from there on to look at.
use Rattle.std.specs.Prelude.{ℕ, ◌+◌, ◌/◌, ◌≤◌, ◌<◌, ◌≡◌, List, cond, ltb, length, get_or}
use Rattle.layout.specs.Layout.{max_batch_keys}
use Rattle.keys.specs.Order.{◌≺◌, ◌≼◌, common_prefix_len}
use Rattle.directory.specs.Read.{Sorted, key_of}
use Rattle.key_list.specs.KeyList.{key_list_count, key_list_key}
use Rattle.batch_search.specs.declared.lanes.Lane.{Lane}

-- one search: keys before `left` are below the key, that at left + len isn't. Keys from left on that aren't above the key share
-- `low` bytes with it, and keys before left + len that aren't below it share `high`.
pub record LaneOk (d : List ℕ) (n : ℕ) (key : List ℕ) (len left low high : ℕ) : Type 0 where
  pub inside : left + len ≤ n
  pub below : Sorted d n → (i : ℕ) → i < left → key_of d n i ≺ key
  pub above : Sorted d n → left + len < n → key ≼ key_of d n (left + len)
  pub low-shared : Sorted d n → (i : ℕ) → left ≤ i → i < n → key_of d n i ≼ key → low ≤ common_prefix_len (key_of d n i) key
  pub high-shared : Sorted d n → (i : ℕ) → i < left + len → key ≼ key_of d n i → high ≤ common_prefix_len (key_of d n i) key

-- a lane as the code has it
abbrev pub Keeps : List ℕ → ℕ → List ℕ → ℕ → Lane → Type 0
Keeps d n key len lane = LaneOk d n key len lane.left lane.low lane.high

-- a search that hasn't begun
abbrev pub fresh : Lane
fresh = record { left = 0; low = 0; high = 0 }

-- all searches, of which the first m have taken the turn that halves `len`
pub record LanesOk (d : List ℕ) (n : ℕ) (pairs bytes : List ℕ) (m len : ℕ) (lanes : List Lane) : Type 0 where
  pub long : length lanes ≡ max_batch_keys
  pub each : (i : ℕ) → i < key_list_count pairs
      → Keeps d n (key_list_key pairs bytes i) (cond (ltb i m) (len / 2) len) (get_or lanes i fresh)
