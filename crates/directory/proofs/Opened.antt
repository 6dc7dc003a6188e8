-- Laws of an opened directory: what was written reads back and is accepted, and every directory that row 12 lets pass is the
-- directory of its keys.
use mathlib.Core.Path.{◌≡◌, refl, sym, ap, ◌∙◌}
use mathlib.Core.Bool.{false}
use mathlib.Core.List.{List, [], ◌++◌, append-nil}
use Prim.Native.Nat.{ℕ, zero, suc, ◌+◌, ◌*◌, ◌≤◌, ◌<◌}
use native.Mathlib.Nat.{add-zero, add-suc, suc-add, zero-add, le_refl, le_of_suc-le-suc, not-suc-le-zero}
use native.Mathlib.Omega.{arith}
use lib.ListN.{length, get_or, take, drop, length-drop, take-append-drop}
use lib.Seq.{length-take-le, take-length, take-add, drop-drop, drop-length, ext_get_or}
use borrow.Table.Steps.{cases}
use Rattle.keys.specs.Order.{◌≺◌}
use Rattle.serialize.specs.Digits.{le_bytes, DigitsBelow}
use Rattle.serialize.proofs.Numbers.{number-bytes}
use Rattle.directory.specs.Directory.{pairs, key_bytes, directory_bytes}
use Rattle.directory.specs.Read.{count_of, key_offset, key_length, key_of, keys_from, keys_in}
use Rattle.directory.specs.Read.{key_begin, directory_bad, keys_bad, directory_no, Sorted}
use Rattle.directory.proofs.Lengths.{Bounded, length-directory_bytes, length-key_bytes-suc}
use Rattle.directory.proofs.ReadBack.{ReadsBack, reads-back}
use Rattle.directory.proofs.Rules.{length-place, DirectoryOk, directory-kept, directory-keeps, is-inside, keys-inside, keys-keep, keys_kept}

-- ---- bytes that begin with the directory of the keys

module _ (ks : List (List ℕ)) (d : List ℕ) (r : ReadsBack ks d) where
  module _ (i : ℕ) (h : i < length ks) where
    length_back : key_length d i ≡ length (get_or ks i [])
    length_back = sym (length-place d 0 i) ∙ r.len i h

    key_back : key_of d (length ks) i ≡ get_or ks i []
    key_back = rw (length_back, r.offset i h) (r.key i h)

  begin-back : (i : ℕ) → i ≤ length ks → key_begin d i ≡ length (key_bytes (take i ks))
  unfolding key_begin
  begin-back zero h = unfold key_bytes in refl
  begin-back (suc i) h = omega (arith, r.offset i h, length_back i h, length-key_bytes-suc ks i h)

module _ (ks : List (List ℕ)) (rest : List ℕ) (b : Bounded ks) where
  pub count-written : count_of (directory_bytes ks ++ rest) ≡ length ks
  count-written = (reads-back ks rest b).count

  pub offset-written : (i : ℕ) → i < length ks → key_offset (directory_bytes ks ++ rest) i ≡ length (key_bytes (take i ks))
  offset-written = (reads-back ks rest b).offset

  pub length-written : (i : ℕ) → i < length ks → key_length (directory_bytes ks ++ rest) i ≡ length (get_or ks i [])
  length-written = length_back ks (directory_bytes ks ++ rest) (reads-back ks rest b)

  pub key-written : (i : ℕ) → i < length ks → key_of (directory_bytes ks ++ rest) (length ks) i ≡ get_or ks i []
  key-written = key_back ks (directory_bytes ks ++ rest) (reads-back ks rest b)

-- ---- the directory alone

module _ (ks : List (List ℕ)) (b : Bounded ks) where
  pub reads-back-whole : ReadsBack ks (directory_bytes ks)
  reads-back-whole = rw (append-nil (directory_bytes ks)) at (reads-back ks [] b)

  pub count-whole : count_of (directory_bytes ks) ≡ length ks
  count-whole = reads-back-whole.count

  pub offset-whole : (i : ℕ) → i < length ks → key_offset (directory_bytes ks) i ≡ length (key_bytes (take i ks))
  offset-whole = reads-back-whole.offset

  pub length_whole : (i : ℕ) → i < length ks → key_length (directory_bytes ks) i ≡ length (get_or ks i [])
  length_whole = length_back ks (directory_bytes ks) reads-back-whole

  pub key-whole : (i : ℕ) → i < length ks → key_of (directory_bytes ks) (length ks) i ≡ get_or ks i []
  key-whole = key_back ks (directory_bytes ks) reads-back-whole

  begin-whole : (i : ℕ) → i ≤ length ks → key_begin (directory_bytes ks) i ≡ length (key_bytes (take i ks))
  begin-whole = begin-back ks (directory_bytes ks) reads-back-whole

  -- row 12
  pub directory-written-ok : 2 ≤ length ks → directory_bad (directory_bytes ks) ≡ false
  directory-written-ok two =
      let ends : key_begin (directory_bytes ks) (length ks) ≡ length (key_bytes ks) =
      begin-whole (length ks) (le_refl (length ks)) ∙ rw (take-length ks) in
      directory-keeps (directory_bytes ks) (record {
        some = rw count-whole two;
        few = rw count-whole b.few;
        fits = rw (count-whole, length-directory_bytes ks) (omega arith);
        pairs = rw count-whole (record {
          offsets = λ i h. offset-whole i h ∙ sym (begin-whole i (omega arith));
          short = λ i h. rw (length_whole i h) (b.short i h);
        });
        exact = rw (count-whole, ends) (length-directory_bytes ks);
      })

  -- rows 12 and 13
  pub directory-opens : 2 ≤ length ks → ((i : ℕ) → suc i < length ks → get_or ks i [] ≺ get_or ks (suc i) [])
      → directory_no (directory_bytes ks) ≡ 0
  unfolding directory_no
  directory-opens two rises =
      rw (
        directory-written-ok two,
        count-whole,
        keys-keep (directory_bytes ks) (length ks) (length ks) (λ i h. rw (key-whole i (omega arith), key-whole (suc i) h) (rises i h)),
      )

-- ---- the keys of a directory in a file

module _ (d : List ℕ) (n : ℕ) where
  pub length-keys_from : (i count : ℕ) → length (keys_from d n i count) ≡ count
  unfolding keys_from
  length-keys_from i zero = refl
  length-keys_from i (suc count) = ap suc (length-keys_from (suc i) count)

  -- key j of those from key i on is key i + j
  pub get_or-keys_from : (i count j : ℕ) → j < count → get_or (keys_from d n i count) j [] ≡ key_of d n (i + j)
  unfolding keys_from
  get_or-keys_from i zero j h = absurd (not-suc-le-zero h)
  get_or-keys_from i (suc count) zero h = rw (add-zero i) refl
  get_or-keys_from i (suc count) (suc j) h = rw (add-suc i j, ← (suc-add i j)) (get_or-keys_from (suc i) count j (le_of_suc-le-suc h))

module _ (d : List ℕ) where
  pub length-keys_in : length (keys_in d) ≡ count_of d
  length-keys_in = length-keys_from d (count_of d) 0 (count_of d)

  pub get_or-keys_in : (i : ℕ) → i < count_of d → get_or (keys_in d) i [] ≡ key_of d (count_of d) i
  get_or-keys_in i h = get_or-keys_from d (count_of d) 0 (count_of d) i h ∙ rw (zero-add i)

-- what was written has the keys written
pub keys_in-written : (ks : List (List ℕ)) → Bounded ks → keys_in (directory_bytes ks) ≡ ks
keys_in-written ks b =
    let same : length (keys_in (directory_bytes ks)) ≡ length ks = length-keys_in (directory_bytes ks) ∙ count-whole ks b in
    ext_get_or [] (keys_in (directory_bytes ks)) ks same
    (λ i h. get_or-keys_in (directory_bytes ks) i (omega (arith, length-keys_in (directory_bytes ks)))
    ∙ rw (count-whole ks b) (key-whole ks b i (omega arith)))

-- ---- a directory that row 12 lets pass

-- the bytes of pair i, then those behind it
pair-split : (d : List ℕ) (i count : ℕ) → take (8 * suc count) (drop (4 + 8 * i) d)
    ≡ take 4 (drop (4 + 8 * i) d) ++ (take 4 (drop (8 + 8 * i) d) ++ take (8 * count) (drop (4 + 8 * suc i) d))
pair-split d i count =
    let all : 8 * suc count ≡ 4 + (4 + 8 * count) = omega arith in
    let second : 8 + 8 * i ≡ 4 + 8 * i + 4 = omega arith in
    let next : 4 + 8 * suc i ≡ 4 + 8 * i + 4 + 4 = omega arith in
    let l = drop (4 + 8 * i) d in
    rw (
      all,
      second,
      next,
      take-add 4 (4 + 8 * count) l,
      take-add 4 (8 * count) (drop 4 l),
      drop-drop 4 (4 + 8 * i) d,
      drop-drop 4 (4 + 8 * i + 4) d,
    )

module _ (d : List ℕ) (good : directory_bad d ≡ false) where
  ok : DirectoryOk d
  ok = directory-kept d good

  length-key : (i : ℕ) → i < count_of d → length (key_of d (count_of d) i) ≡ key_length d i
  length-key i h =
      length-take-le (key_length d i) (drop (4 + 8 * count_of d + key_offset d i) d)
      (omega (arith, length-drop (4 + 8 * count_of d + key_offset d i) d, (is-inside d (count_of d) i (keys-inside d ok i h)).bytes))

  pub bounded-keys_in : Bounded (keys_in d)
  bounded-keys_in = record {
    few = rw (length-keys_in d) ok.few;
    short = λ i l.
        let h : i < count_of d = rw (length-keys_in d) at l in
        rw (get_or-keys_in d i h, length-key i h) (ok.pairs.short i h);
  }

  -- the keys from key i on stand at its offset, and with the last one the bytes end
  keys-are : (i count : ℕ) → i + count ≡ count_of d
      → drop (4 + 8 * count_of d + key_begin d i) d ≡ key_bytes (keys_from d (count_of d) i count)
  unfolding keys_from key_bytes
  keys-are i zero e =
      let at-end : 4 + 8 * count_of d + key_begin d i ≡ length d = rw (sym (add-zero i) ∙ e) (sym ok.exact) in
      rw at-end (drop-length d)
  keys-are i (suc count) e =
      let at : ℕ = 4 + 8 * count_of d + key_offset d i in
      let next : 4 + 8 * count_of d + key_begin d (suc i) ≡ at + key_length d i = unfold key_begin in omega arith in
      rw (← (ok.pairs.offsets i (omega arith)), ← (keys-are (suc i) count (omega arith)), next, ← (drop-drop (key_length d i) at d))
      (sym (take-append-drop (key_length d i) (drop at d)))

  -- the pairs from pair i on
  pairs-are : DigitsBelow 8 d → (i count : ℕ) → i + count ≡ count_of d
      → take (8 * count) (drop (4 + 8 * i) d) ≡ pairs (key_begin d i) (keys_from d (count_of d) i count)
  unfolding keys_from pairs
  pairs-are below i zero e = refl
  pairs-are below i (suc count) e =
      let next : key_begin d (suc i) ≡ key_offset d i + key_length d i = unfold key_begin in refl in
      let offset = number-bytes d (4 + 8 * i) 4 (omega (arith, ok.fits)) below in
      let len = number-bytes d (8 + 8 * i) 4 (omega (arith, ok.fits)) below in
      rw (
        length-key i (omega arith),
        ← (ok.pairs.offsets i (omega arith)),
        ← next,
        ← (pairs-are below (suc i) count (omega arith)),
        offset,
        len,
      )
      (pair-split d i count)

-- it is the directory of its keys
pub directory-is : (d : List ℕ) → DigitsBelow 8 d → directory_bad d ≡ false → d ≡ directory_bytes (keys_in d)
unfolding directory_bytes
directory-is d below good =
    let n = count_of d in
    let count : le_bytes 4 (length (keys_in d)) ≡ take 4 d =
    rw (length-keys_in d) (number-bytes d 0 4 (omega (arith, (ok d good).fits)) below) in
    let numbers : pairs 0 (keys_in d) ≡ take (8 * n) (drop 4 d) = unfold key_begin in sym (pairs-are d good below 0 n (zero-add n)) in
    let keys : key_bytes (keys_in d) ≡ drop (4 + 8 * n) d =
    unfold key_begin in sym (rw (add-zero (4 + 8 * n)) at (keys-are d good 0 n (zero-add n))) in
    rw (count, numbers, keys, ← (drop-drop (8 * n) 4 d), take-append-drop (8 * n) (drop 4 d), take-append-drop 4 d)

-- ---- a directory that rows 12 and 13 let pass

module _ (d : List ℕ) (opened : directory_no d ≡ 0) where
  pub opened-good : directory_bad d ≡ false
  unfolding directory_no
  opened-good = cases (directory_bad d) (λ t. absurd (let z : ◌≡◌ {A = ℕ} 12 0 = rw t at opened in omega arith)) (λ e. e)

  pub opened-sorted : Sorted d (count_of d)
  unfolding directory_no
  opened-sorted =
      let rising : keys_bad d (count_of d) (count_of d) ≡ false = cases (keys_bad d (count_of d) (count_of d))
      (λ t. absurd (let z : ◌≡◌ {A = ℕ} 13 0 = rw (opened-good, t) at opened in omega arith)) (λ e. e) in
      record { inside = keys-inside d (ok d opened-good); rises = λ i h. keys_kept d (count_of d) (count_of d) i h rising }
