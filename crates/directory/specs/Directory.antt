-- The key directory (SPECIFICATION 3.4): how many keys, a pair for each that says where it stands, and the keys one after the other.
-- A pair's offset is the sum of the lengths before it.
use Rattle.std.specs.Prelude.{ℕ, ◌+◌, List, [], ◌∷◌, ◌++◌, length}
use Rattle.serialize.specs.Digits.{le_bytes}

-- the pairs of keys that stand one behind the other from `offset` on
unfoldable pub pairs : ℕ → List (List ℕ) → List ℕ
pairs offset [] = []
pairs offset (key ∷ keys) = le_bytes 4 offset ++ (le_bytes 4 (length key) ++ pairs (offset + length key) keys)

-- the keys one behind the other
unfoldable pub key_bytes : List (List ℕ) → List ℕ
key_bytes [] = []
key_bytes (key ∷ keys) = key ++ key_bytes keys

unfoldable pub directory_bytes : List (List ℕ) → List ℕ
directory_bytes keys = le_bytes 4 (length keys) ++ (pairs 0 keys ++ key_bytes keys)
