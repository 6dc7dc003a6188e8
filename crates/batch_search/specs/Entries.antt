-- The entries of a list of keys: a block's id for each, or none.
use Rattle.std.specs.Prelude.{ℕ, ◌-◌, ◌^◌, ◌<◌, ◌≡◌, List, ◌⊎◌, Bool, true, false, length, get_or, Result, Ok, Err}
use Rattle.layout.specs.Layout.{max_batch_keys}
use Rattle.keys.specs.Order.{◌≺◌}
use Rattle.directory.specs.Read.{First, Sorted, key_of}
use Rattle.layout.specs.declared.refusals.Refusal.{Refusal}
use Rattle.key_list.specs.KeyList.{key_list_count, key_list_key}

-- the entry of a key that has no block
abbrev pub no_id : ℕ
no_id = 2 ^ 64 - 1

-- what an entry may be in every case, and what it is: the first block whose separator isn't below the key, or none
abbrev pub EntryIn : ℕ → ℕ → Type 0
EntryIn n e = (e < n) ⊎ (e ≡ no_id)

abbrev pub EntryExact : (ℕ → List ℕ) → ℕ → List ℕ → ℕ → Type 0
EntryExact separator n key e = First separator n key e ⊎ ((e ≡ no_id) × ((i : ℕ) → i < n → separator i ≺ key))

-- the entry of what a key's search found; where it met a key outside the bytes, none is written
abbrev pub found_entry : Result ℕ Refusal → ℕ
found_entry (Ok i) = i
found_entry (Err refusal) = no_id

-- all searches ended at keys inside the directory
abbrev pub ended : Result Unit Refusal → Bool
ended (Ok done) = true
ended (Err refusal) = false

-- what the searches for the keys of a list leave in `found`, where all of them ended at keys inside the directory d (r)
pub record EntriesFound (d : List ℕ) (n : ℕ) (pairs bytes found : List ℕ) (r : Bool) : Type 0 where
  pub long : length found ≡ max_batch_keys
  pub allowed : r ≡ true → (i : ℕ) → i < key_list_count pairs → EntryIn n (get_or found i 0)
  pub ends : Sorted d n → r ≡ true
  pub exact : Sorted d n → (i : ℕ) → i < key_list_count pairs → EntryExact (key_of d n) n (key_list_key pairs bytes i) (get_or found i 0)
