-- The keys of lent areas: a block's record has its key's offset and length in the key area at a place of their own.
use Rattle.std.specs.Prelude.{ℕ, zero, suc, ◌+◌, ◌*◌, List, [], ◌∷◌, get_or, take, drop}

-- the offset and the length of key i; `field` is the offset's place in a record of `stride` numbers, the length's is behind it
abbrev pub offset_at : List ℕ → ℕ → ℕ → ℕ → ℕ
offset_at area stride field i = get_or area (stride * i + field) 0

abbrev pub length_at : List ℕ → ℕ → ℕ → ℕ → ℕ
length_at area stride field i = get_or area (stride * i + (field + 1)) 0

-- key i
abbrev pub key_at : List ℕ → ℕ → ℕ → List ℕ → ℕ → List ℕ
key_at area stride field keys i = take (length_at area stride field i) (drop (offset_at area stride field i) keys)

-- the `count` keys from key i on
unfoldable pub keys_at : List ℕ → ℕ → ℕ → List ℕ → ℕ → ℕ → List (List ℕ)
keys_at area stride field keys i zero = []
keys_at area stride field keys i (suc count) = key_at area stride field keys i ∷ keys_at area stride field keys (suc i) count
