-- What the writers leave: a turn of their loops does the first key of those left, and the parts one behind the other are the directory.
use mathlib.Core.Path.{◌≡◌, refl, sym, ap, ◌∙◌}
use mathlib.Core.List.{List, ◌++◌}
use Prim.Native.Nat.{ℕ, ◌+◌, ◌-◌, ◌*◌, ◌≤◌, ◌<◌}
use native.Mathlib.Nat.{add-zero}
use native.Mathlib.Omega.{arith}
use lib.ListN.{length, take, drop, length-append}
use lib.Seq.{sets}
use borrow.Rule.Slice.PartMut.{put_mid}
use Rattle.serialize.specs.Digits.{le_bytes}
use Rattle.serialize.proofs.Digits.{length-digits_of}
use Rattle.serialize.proofs.Stores.{sets-append, sets-in-part, copied-in-part}
pub use Rattle.keys.proofs.Shorten.{length_rest}
use Rattle.directory.specs.Directory.{pairs, key_bytes, directory_bytes}
use Rattle.directory.specs.Keys.{length_at, key_at, keys_at}
use Rattle.directory.specs.Facts.{KeysArea}
use Rattle.directory.proofs.Keys.{keys_at-cons, keys_at-none, length-key_at}
use Rattle.directory.proofs.Lengths.{length_pairs}

-- one run of stores, and the next behind it
sets-run : (d a b : List ℕ) (i k : ℕ) → length a ≡ k → sets d i (a ++ b) ≡ sets (sets d i a) (i + k) b
sets-run d a b i k e = rw (← e) (sym (sets-append d a b i))

module _ (area : List ℕ) (stride field : ℕ) (keys : List ℕ) (n : ℕ) where
  -- the keys that are left at key i
  abbrev pub left : ℕ → List (List ℕ)
  left i = keys_at area stride field keys i (n - i)

  module _ (ok : KeysArea area stride field keys n) (i : ℕ) (h : i < n) where
    pub length-left : length (key_bytes (left i)) ≡ length_at area stride field i + length (key_bytes (left (i + 1)))
    unfolding key_bytes
    length-left =
        rw (keys_at-cons area stride field keys n i h) (length-append (key_at area stride field keys i) (key_bytes (left (i + 1)))
        ∙ rw (length-key_at area stride field keys n ok i h))

    -- the pair of key i, two numbers of 4 bytes
    pub pairs-turn : (out a b : List ℕ) (offset : ℕ)
        → a ≡ sets out (8 * i) (le_bytes 4 offset) → b ≡ sets a (8 * i + 4) (le_bytes 4 (length_at area stride field i))
        → sets out (8 * i) (pairs offset (left i)) ≡ sets b (8 * (i + 1)) (pairs (offset + length_at area stride field i) (left (i + 1)))
    unfolding pairs
    pairs-turn out a b offset p q =
        let e : 8 * (i + 1) ≡ 8 * i + 4 + 4 = omega arith in
        rw (
          keys_at-cons area stride field keys n i h,
          length-key_at area stride field keys n ok i h,
          e,
          q,
          p,
          sets-run out (le_bytes 4 offset) _ (8 * i) 4 (length-digits_of 8 4 offset),
          sets-run _ (le_bytes 4 (length_at area stride field i)) _ (8 * i + 4) 4 (length-digits_of 8 4 (length_at area stride field i)),
        )

    -- key i, copied into what is left of the output
    pub keys-turn : (out key y : List ℕ) (to : ℕ) → key ≡ key_at area stride field keys i → to + length (key_bytes (left i)) ≤ length out
        → y ≡ take (length key) key ++ drop (length key) (take (length out - to) (drop to out))
        → sets out to (key_bytes (left i)) ≡ sets (put_mid to (length out - to) out y) (to + length key) (key_bytes (left (i + 1)))
    unfolding key_bytes
    keys-turn out key y to e room p =
        let fits : to + length key ≤ length out =
        omega (arith, ap length e, length-key_at area stride field keys n ok i h, length-left) in
        let whole : put_mid to (length out - to) out y ≡ sets out to key = copied-in-part out key y to fits p in
        rw (whole, keys_at-cons area stride field keys n i h, ← e) (sets-run out key (key_bytes (left (i + 1))) to (length key) refl)

  pub length_none : (i : ℕ) → n ≤ i → length (key_bytes (left i)) ≡ 0
  unfolding key_bytes
  length_none i h = rw (keys_at-none area stride field keys n i h)

  pub keys_none : (i : ℕ) → n ≤ i → (out : List ℕ) (to : ℕ) → sets out to (key_bytes (left i)) ≡ out
  unfolding key_bytes
  keys_none i h out to = rw (keys_at-none area stride field keys n i h)

  pub pairs-none : (i : ℕ) → n ≤ i → (out : List ℕ) (at offset : ℕ) → sets out at (pairs offset (left i)) ≡ out
  unfolding pairs
  pairs-none i h out at offset = rw (keys_at-none area stride field keys n i h)

-- the parts of a directory, each written into what is left of the output after the part before it
pub directory-written : (ks : List (List ℕ)) (n : ℕ) (d a p k : List ℕ) → length ks ≡ n
    → a ≡ sets d 0 (le_bytes 4 n)
    → p ≡ sets (take (length a - 4) (drop 4 a)) 0 (pairs 0 ks)
    → let b = put_mid 4 (length a - 4) a p in
    k ≡ sets (take (length b - (4 + 8 * n)) (drop (4 + 8 * n) b)) 0 (key_bytes ks)
    → put_mid (4 + 8 * n) (length b - (4 + 8 * n)) b k ≡ sets d 0 (directory_bytes ks)
unfolding directory_bytes
directory-written ks n d a p k e first second third =
    let two : put_mid 4 (length a - 4) a p ≡ sets a 4 (pairs 0 ks) = rw second (sets-in-part a (pairs 0 ks) 4 0) in
    rw (
      third,
      sets-in-part (put_mid 4 (length a - 4) a p) (key_bytes ks) (4 + 8 * n) 0,
      two,
      first,
      add-zero (4 + 8 * n),
      e,
      sets-run d (le_bytes 4 n) _ 0 4 (length-digits_of 8 4 n),
      sets-run _ (pairs 0 ks) _ 4 (8 * n) (length_pairs 0 ks ∙ rw e),
    )
