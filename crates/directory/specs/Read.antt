-- A directory read from a file (rows 12, 13, 19 and 20). d is the directory's bytes, or more bytes that begin with them.
use Rattle.std.specs.Prelude.{ℕ, zero, suc, ◌+◌, ◌*◌, ◌<◌, ◌≡◌, List, [], ◌∷◌, Bool, false, not, ◌||◌, cond, eqb, ltb, length, take, drop}
use Rattle.std.specs.Prelude.{Result, Ok, Err, ◌⊎◌}
use Rattle.layout.specs.Layout.{max_blocks, max_key_len}
use Rattle.layout.specs.Refusals.{number_of, no_of}
use Rattle.layout.specs.declared.refusals.Refusal.{Refusal}
use Rattle.serialize.specs.Digits.{number_at}
use Rattle.keys.specs.Order.{less, ◌≺◌, ◌≼◌}

-- n, and the pair of key i
abbrev pub count_of : List ℕ → ℕ
count_of d = number_at d 0 4

abbrev pub key_offset : List ℕ → ℕ → ℕ
key_offset d i = number_at d (4 + 8 * i) 4

abbrev pub key_length : List ℕ → ℕ → ℕ
key_length d i = number_at d (8 + 8 * i) 4

-- where key i of n begins in d, and the key
abbrev pub key_position : List ℕ → ℕ → ℕ → ℕ
key_position d n i = 4 + 8 * n + key_offset d i

abbrev pub key_of : List ℕ → ℕ → ℕ → List ℕ
key_of d n i = take (key_length d i) (drop (key_position d n i) d)

-- the `count` keys from key i on
unfoldable pub keys_from : List ℕ → ℕ → ℕ → ℕ → List (List ℕ)
keys_from d n i zero = []
keys_from d n i (suc count) = key_of d n i ∷ keys_from d n (suc i) count

-- the keys of a directory
abbrev pub keys_in : List ℕ → List (List ℕ)
keys_in d = keys_from d (count_of d) 0 (count_of d)

-- where key i has to begin: at the end of the one before it (SPECIFICATION 2.4)
unfoldable pub key_begin : List ℕ → ℕ → ℕ
key_begin d zero = 0
key_begin d (suc i) = key_offset d i + key_length d i

-- among the first m pairs one breaks the offsets' rule, or its key is over 1,024
unfoldable pub pairs_bad : List ℕ → ℕ → Bool
pairs_bad d zero = false
pairs_bad d (suc m) = pairs_bad d m || (not (eqb (key_offset d m) (key_begin d m)) || ltb max_key_len (key_length d m))

-- row 12 (SPECIFICATION 13.12, 12.9): the count, the pairs, or a directory that is too short or too long for them
unfoldable pub directory_bad : List ℕ → Bool
directory_bad d =
    ltb (length d) 4 || (ltb (count_of d) 2 || (ltb max_blocks (count_of d)
    || (ltb (length d) (4 + 8 * count_of d)
    || (pairs_bad d (count_of d) || not (eqb (length d) (4 + 8 * count_of d + key_begin d (count_of d)))))))

-- row 13: among the first m keys of n one isn't above the one before it
unfoldable pub keys_bad : List ℕ → ℕ → ℕ → Bool
keys_bad d n zero = false
keys_bad d n (suc zero) = false
keys_bad d n (suc (suc m)) = keys_bad d n (suc m) || not (less (key_of d n m) (key_of d n (suc m)))

-- rows 12 and 13; 0 where neither is hit
unfoldable pub directory_no : List ℕ → ℕ
directory_no d = cond (directory_bad d) 12 (cond (keys_bad d (count_of d) (count_of d)) 13 0)

-- row 20 for key i: its pair or the key itself lies outside the bytes
unfoldable pub key_outside : List ℕ → ℕ → ℕ → Bool
key_outside d n i = ltb (length d) (12 + 8 * i) || ltb (length d) (key_position d n i + key_length d i)

-- the keys 0 to n - 1 are inside, and rise
pub record Sorted (d : List ℕ) (n : ℕ) : Type 0 where
  pub inside : (i : ℕ) → i < n → key_outside d n i ≡ false
  pub rises : (i : ℕ) → suc i < n → key_of d n i ≺ key_of d n (suc i)

-- i is the first of n keys that isn't below the key
pub record First (f : ℕ → List ℕ) (n : ℕ) (key : List ℕ) (i : ℕ) : Type 0 where
  pub inside : i < n
  pub not-below : key ≼ f i
  pub earlier : (j : ℕ) → j < i → f j ≺ key

-- the number of what a key's search finds: 19 where all keys are below it, 20 where a key lies outside the bytes
abbrev pub found_no : Result ℕ Refusal → ℕ
found_no found = no_of found

-- what a key's search may answer in every case, and what it answers where the keys are inside and rise
unfoldable pub FoundIn : ℕ → Result ℕ Refusal → Type 0
FoundIn n (Ok i) = i < n
FoundIn n (Err refusal) = (number_of refusal ≡ 19) ⊎ (number_of refusal ≡ 20)

unfoldable pub FoundAs : (ℕ → List ℕ) → ℕ → List ℕ → Result ℕ Refusal → Type 0
FoundAs f n key (Ok i) = First f n key i
FoundAs f n key (Err refusal) = (number_of refusal ≡ 19) × ((i : ℕ) → i < n → f i ≺ key)
