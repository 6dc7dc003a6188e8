-- What was written reads back as the same keys, and so equal bytes mean equal keys.
use mathlib.Core.Path.{◌≡◌, refl, sym, ap, ◌∙◌}
use mathlib.Core.List.{List, [], ◌∷◌, ◌++◌, append_assoc}
use Prim.Native.Nat.{ℕ, zero, suc, ◌+◌, ◌*◌, ◌^◌, ◌≤◌, ◌<◌}
use native.Mathlib.Nat.{add-zero, zero-add, add_assoc, not-suc-le-zero, le_of_suc-le-suc}
use native.Mathlib.Omega.{arith}
use lib.ListN.{length, get_or, take, drop, length-append}
use lib.Seq.{take_at, drop_at, drop-append_seam, take-append_seam, drop-drop, drop-cons, ext_get_or, sets, sets-eq}
use Rattle.serialize.specs.Digits.{le_val, le_bytes}
use Rattle.serialize.proofs.Digits.{length-digits_of, of_digits-digits_of-lt}
use Rattle.directory.specs.Directory.{pairs, key_bytes, directory_bytes}
use Rattle.directory.proofs.Lengths.{Bounded, length_pairs, key_bytes-split, offset-le}

-- d has the directory of `keys` at its front, as a reader finds it
pub record ReadsBack (keys : List (List ℕ)) (d : List ℕ) : Type 0 where
  pub count : le_val (take 4 d) ≡ length keys
  pub offset : (i : ℕ) → i < length keys → le_val (take 4 (drop (4 + 8 * i) d)) ≡ length (key_bytes (take i keys))
  pub len : (i : ℕ) → i < length keys → le_val (take 4 (drop (4 + 8 * i + 4) d)) ≡ length (get_or keys i [])
  pub key : (i : ℕ) → i < length keys
      → take (length (get_or keys i [])) (drop (4 + 8 * length keys + length (key_bytes (take i keys))) d) ≡ get_or keys i []

-- a number of 4 bytes at the front
number-front : (v : ℕ) (rest : List ℕ) → v < 2 ^ 32 → le_val (take 4 (le_bytes 4 v ++ rest)) ≡ v
number-front v rest h = rw (take_at (le_bytes 4 v) rest 4 (length-digits_of 8 4 v)) (of_digits-digits_of-lt 8 4 v h)

number_behind : (v : ℕ) (rest : List ℕ) → drop 4 (le_bytes 4 v ++ rest) ≡ rest
number_behind v rest = drop_at (le_bytes 4 v) rest 4 (length-digits_of 8 4 v)

pairs-cons : (offset : ℕ) (key : List ℕ) (keys : List (List ℕ)) (rest : List ℕ)
    → pairs offset (key ∷ keys) ++ rest ≡ le_bytes 4 offset ++ (le_bytes 4 (length key) ++ (pairs (offset + length key) keys ++ rest))
unfolding pairs
pairs-cons offset key keys rest = simp append_assoc

-- the pairs from pair i on
drop-pairs : (keys : List (List ℕ)) (offset i : ℕ) (rest : List ℕ) → i ≤ length keys
    → drop (8 * i) (pairs offset keys ++ rest) ≡ pairs (offset + length (key_bytes (take i keys))) (drop i keys) ++ rest
unfolding key_bytes
drop-pairs keys offset zero rest h = rw (add-zero offset) refl
drop-pairs [] offset (suc i) rest h = absurd (not-suc-le-zero h)
drop-pairs (key ∷ keys) offset (suc i) rest h =
    let e : 8 * suc i ≡ 4 + (4 + 8 * i) = omega arith in
    let behind : List ℕ = pairs (offset + length key) keys ++ rest in
    ap (λ (m : ℕ). drop m (pairs offset (key ∷ keys) ++ rest)) e
    ∙ rw (
      pairs-cons offset key keys rest,
      ← (drop-drop (4 + 8 * i) 4 (le_bytes 4 offset ++ (le_bytes 4 (length key) ++ behind))),
      number_behind offset (le_bytes 4 (length key) ++ behind),
      ← (drop-drop (8 * i) 4 (le_bytes 4 (length key) ++ behind)),
      number_behind (length key) behind,
      drop-pairs keys (offset + length key) i rest (le_of_suc-le-suc h),
      length-append key (key_bytes (take i keys)),
      add_assoc offset (length key) (length (key_bytes (take i keys))),
    )

key_bytes-cons : (key : List ℕ) (keys : List (List ℕ)) (rest : List ℕ) → key_bytes (key ∷ keys) ++ rest ≡ key ++ (key_bytes keys ++ rest)
unfolding key_bytes
key_bytes-cons key keys rest = append_assoc key (key_bytes keys) rest

-- the keys from key i on
drop-key_bytes : (keys : List (List ℕ)) (i : ℕ) (rest : List ℕ)
    → drop (length (key_bytes (take i keys))) (key_bytes keys ++ rest) ≡ key_bytes (drop i keys) ++ rest
drop-key_bytes keys i rest =
    rw (
      key_bytes-split keys i,
      append_assoc (key_bytes (take i keys)) (key_bytes (drop i keys)) rest,
      drop-append_seam (key_bytes (take i keys)) (key_bytes (drop i keys) ++ rest),
    )

directory-parts : (keys : List (List ℕ)) (rest : List ℕ)
    → directory_bytes keys ++ rest ≡ le_bytes 4 (length keys) ++ (pairs 0 keys ++ (key_bytes keys ++ rest))
unfolding directory_bytes
directory-parts keys rest = simp append_assoc

module _ (keys : List (List ℕ)) (rest : List ℕ) where
  -- behind the number of keys
  behind-count : drop 4 (directory_bytes keys ++ rest) ≡ pairs 0 keys ++ (key_bytes keys ++ rest)
  behind-count = rw (directory-parts keys rest) (number_behind (length keys) (pairs 0 keys ++ (key_bytes keys ++ rest)))

  module _ (i : ℕ) (h : i < length keys) where
    -- from pair i on
    from-pair : drop (4 + 8 * i) (directory_bytes keys ++ rest)
        ≡ le_bytes 4 (length (key_bytes (take i keys))) ++ (le_bytes 4 (length (get_or keys i []))
        ++ (pairs (length (key_bytes (take i keys)) + length (get_or keys i [])) (drop (suc i) keys) ++ (key_bytes keys ++ rest)))
    from-pair =
        sym (drop-drop (8 * i) 4 (directory_bytes keys ++ rest))
        ∙ rw (
          behind-count,
          drop-pairs keys 0 i (key_bytes keys ++ rest) (omega arith),
          zero-add (length (key_bytes (take i keys))),
          drop-cons keys i [] h,
        )
        (pairs-cons (length (key_bytes (take i keys))) (get_or keys i []) (drop (suc i) keys) (key_bytes keys ++ rest))

    read-offset : Bounded keys → le_val (take 4 (drop (4 + 8 * i) (directory_bytes keys ++ rest))) ≡ length (key_bytes (take i keys))
    read-offset b = rw from-pair (number-front (length (key_bytes (take i keys))) _ (omega (arith, offset-le keys i b)))

    read-len : Bounded keys → le_val (take 4 (drop (4 + 8 * i + 4) (directory_bytes keys ++ rest))) ≡ length (get_or keys i [])
    read-len b =
        rw (← (drop-drop 4 (4 + 8 * i) (directory_bytes keys ++ rest)), from-pair, number_behind)
        (number-front (length (get_or keys i [])) _ (omega (arith, b.short i h)))

    read-key : take (length (get_or keys i []))
        (drop (4 + 8 * length keys + length (key_bytes (take i keys))) (directory_bytes keys ++ rest)) ≡ get_or keys i []
    read-key =
        rw (
          ← (drop-drop (length (key_bytes (take i keys))) (4 + 8 * length keys) (directory_bytes keys ++ rest)),
          ← (drop-drop (8 * length keys) 4 (directory_bytes keys ++ rest)),
          behind-count,
          drop_at (pairs 0 keys) (key_bytes keys ++ rest) (8 * length keys) (length_pairs 0 keys),
          drop-key_bytes keys i rest,
          drop-cons keys i [] h,
          key_bytes-cons (get_or keys i []) (drop (suc i) keys) rest,
        )
        (take-append_seam (get_or keys i []) (key_bytes (drop (suc i) keys) ++ rest))

-- what was written reads back as the same keys, whatever stands behind
pub reads-back : (keys : List (List ℕ)) (rest : List ℕ) → Bounded keys → ReadsBack keys (directory_bytes keys ++ rest)
reads-back keys rest b = record {
  count = rw (directory-parts keys rest) (number-front (length keys) _ (omega arith));
  offset = λ i h. read-offset keys rest i h b;
  len = λ i h. read-len keys rest i h b;
  key = read-key keys rest;
}

-- a directory written from the front of an output
pub written-reads-back : (keys : List (List ℕ)) (out : List ℕ) → Bounded keys → length (directory_bytes keys) ≤ length out
    → ReadsBack keys (sets out 0 (directory_bytes keys))
written-reads-back keys out b h =
    rw (sets-eq (directory_bytes keys) out 0 (omega arith)) (reads-back keys (drop (0 + length (directory_bytes keys)) out) b)

-- a reader finds one list of keys
pub read-once : (ks ks' : List (List ℕ)) (d : List ℕ) → ReadsBack ks d → ReadsBack ks' d → ks ≡ ks'
read-once ks ks' d p q = ext_get_or [] ks ks' same_length same_key
  where
    same_length : length ks ≡ length ks'
    same_length = sym p.count ∙ q.count

    same_key : (i : ℕ) → i < length ks → get_or ks i [] ≡ get_or ks' i []
    same_key i h =
        let h' : i < length ks' = omega arith in
        let o : length (key_bytes (take i ks)) ≡ length (key_bytes (take i ks')) = sym (p.offset i h) ∙ q.offset i h' in
        let l : length (get_or ks i []) ≡ length (get_or ks' i []) = sym (p.len i h) ∙ q.len i h' in
        sym (p.key i h) ∙ rw (same_length, o, l) (q.key i h')

-- equal bytes mean equal keys, and the rests are equal then
pub directory_bytes-inj : (ks ks' : List (List ℕ)) (r r' : List ℕ) → Bounded ks → Bounded ks'
    → directory_bytes ks ++ r ≡ directory_bytes ks' ++ r' → (ks ≡ ks') × (r ≡ r')
directory_bytes-inj ks ks' r r' b b' e = (same, rests)
  where
    same : ks ≡ ks'
    same = read-once ks ks' (directory_bytes ks ++ r) (reads-back ks r b) (rw e (reads-back ks' r' b'))

    rests : r ≡ r'
    rests =
        sym (drop-append_seam (directory_bytes ks) r)
        ∙ rw (e, same) (drop-append_seam (directory_bytes ks') r')

-- the directories alone
pub directory_bytes-inj-whole : (ks ks' : List (List ℕ)) → Bounded ks → Bounded ks' → directory_bytes ks ≡ directory_bytes ks' → ks ≡ ks'
directory_bytes-inj-whole ks ks' b b' e = (directory_bytes-inj ks ks' [] [] b b' (ap (λ (l : List ℕ). l ++ []) e)).0
