-- The lengths of a directory's parts.
use mathlib.Core.Path.{◌≡◌, refl, sym, ap, ◌∙◌}
use mathlib.Core.List.{List, [], ◌∷◌, ◌++◌, append_assoc, append-nil}
use Prim.Native.Nat.{ℕ, suc, ◌+◌, ◌*◌, ◌≤◌, ◌<◌}
use native.Mathlib.Nat.{zero-add}
use native.Mathlib.Omega.{arith}
use lib.ListN.{length, get_or, take, drop, length-append, take-append-drop}
use lib.Seq.{take-suc}
use Rattle.serialize.proofs.Digits.{length-digits_of}
use Rattle.directory.specs.Directory.{pairs, key_bytes, directory_bytes}
use Rattle.directory.specs.Facts.{KeysArea}
use Rattle.directory.specs.Keys.{keys_at}
use Rattle.directory.proofs.Keys.{length-keys_at, keys_at-at, length-key_at}

-- the bounds under which every number of a directory fits its 4 bytes
pub record Bounded (keys : List (List ℕ)) : Type 0 where
  pub few : length keys ≤ 65536
  pub short : (i : ℕ) → i < length keys → length (get_or keys i []) ≤ 1024

pub length_pairs : (offset : ℕ) (keys : List (List ℕ)) → length (pairs offset keys) ≡ 8 * length keys
unfolding pairs
length_pairs offset [] = refl
length_pairs offset (key ∷ keys) =
    let others : length (pairs (offset + length key) keys) ≡ 8 * length keys = length_pairs (offset + length key) keys in
    simp (length-append, length-digits_of) (omega arith)

pub length-directory_bytes : (keys : List (List ℕ)) → length (directory_bytes keys) ≡ 4 + 8 * length keys + length (key_bytes keys)
unfolding directory_bytes
length-directory_bytes keys = simp (length-append, length-digits_of, length_pairs) (omega arith)

pub length-key_bytes-le : (keys : List (List ℕ)) → ((i : ℕ) → i < length keys → length (get_or keys i []) ≤ 1024)
    → length (key_bytes keys) ≤ 1024 * length keys
unfolding key_bytes
length-key_bytes-le [] h = omega arith
length-key_bytes-le (key ∷ keys) h =
    let first : length key ≤ 1024 = h 0 (omega arith) in
    let others : length (key_bytes keys) ≤ 1024 * length keys = length-key_bytes-le keys (λ i l. h (suc i) (omega arith)) in
    simp length-append (omega arith)

pub key_bytes-append : (a b : List (List ℕ)) → key_bytes (a ++ b) ≡ key_bytes a ++ key_bytes b
unfolding key_bytes
key_bytes-append [] b = refl
key_bytes-append (key ∷ a) b = rw (key_bytes-append a b) (sym (append_assoc key (key_bytes a) (key_bytes b)))

-- the keys before key i and those from it on
pub key_bytes-split : (keys : List (List ℕ)) (i : ℕ) → key_bytes keys ≡ key_bytes (take i keys) ++ key_bytes (drop i keys)
key_bytes-split keys i = ap key_bytes (sym (take-append-drop i keys)) ∙ key_bytes-append (take i keys) (drop i keys)

-- the keys up to key i
pub length-key_bytes-suc : (keys : List (List ℕ)) (i : ℕ) → i < length keys
    → length (key_bytes (take (suc i) keys)) ≡ length (key_bytes (take i keys)) + length (get_or keys i [])
unfolding key_bytes
length-key_bytes-suc keys i h =
    rw (
      take-suc keys i [] h,
      key_bytes-append (take i keys) (get_or keys i [] ∷ []),
      append-nil (get_or keys i []),
    ) (length-append (key_bytes (take i keys)) (get_or keys i []))

-- an offset is at most 65,536 keys of 1,024 bytes
pub offset-le : (keys : List (List ℕ)) (i : ℕ) → Bounded keys → length (key_bytes (take i keys)) ≤ 67108864
offset-le keys i b =
    omega (
      arith,
      ap length (key_bytes-split keys i),
      length-append (key_bytes (take i keys)) (key_bytes (drop i keys)),
      length-key_bytes-le keys b.short,
      b.few,
    )

-- the keys of lent areas are such keys
module _ (area : List ℕ) (stride field : ℕ) (keys : List ℕ) (n : ℕ) where
  pub bounded-keys_at : KeysArea area stride field keys n → Bounded (keys_at area stride field keys 0 n)
  bounded-keys_at ok = record {
    few = rw (length-keys_at area stride field keys 0 n) ok.few;
    short = λ i l.
        let h : i < n = rw (length-keys_at area stride field keys 0 n) at l in
        rw (keys_at-at area stride field keys 0 n i h, zero-add i) (omega (
          arith,
          length-key_at area stride field keys n ok i h,
          ok.short i h,
        ));
  }

  pub length-keys_at-bytes-le : KeysArea area stride field keys n → length (key_bytes (keys_at area stride field keys 0 n)) ≤ 1024 * n
  length-keys_at-bytes-le ok =
      rw (length-keys_at area stride field keys 0 n) at
      (length-key_bytes-le (keys_at area stride field keys 0 n) (bounded-keys_at ok).short)

  pub length-keys_at-directory : length (directory_bytes (keys_at area stride field keys 0 n))
      ≡ 4 + 8 * n + length (key_bytes (keys_at area stride field keys 0 n))
  length-keys_at-directory = rw (length-keys_at area stride field keys 0 n) at (length-directory_bytes (keys_at area stride field keys 0 n))
