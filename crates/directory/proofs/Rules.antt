-- The rules of a directory in a file: rows 12, 13 and 20 as facts over numbers.
use mathlib.Core.Path.{◌≡◌, refl, sym, ap, ◌∙◌}
use mathlib.Core.Bool.{Bool, true, false, not, ◌||◌}
use mathlib.Core.List.{List}
use mathlib.Core.Logic.{⊎_elim}
use Prim.Native.Nat.{ℕ, zero, suc, ◌+◌, ◌-◌, ◌*◌, ◌≤◌, ◌<◌}
use native.Mathlib.Nat.{eq-or-lt_of_le, le_of_suc-le-suc, le_refl, le_trans}
use native.Mathlib.Numerals.{add-one}
use native.Mathlib.Omega.{arith}
use lib.Dec.{eqb, ltb}
use borrow.Author.Tests.{lt-ltb, le-ltb, eq-eqb, ne_eqb, ltb-false, eqb-true, not-false}
use lib.ListN.{length, drop, length-drop}
use lib.Seq.{length-take-le}
use Rattle.std.proofs.lemmas.Bool.{or_parts, or_left, or_right}
use Rattle.layout.proofs.Fronts.{Fronts, each-kept, all-kept}
use Rattle.keys.specs.Order.{less, ◌≺◌}
use Rattle.serialize.specs.Digits.{number_at}
use Rattle.directory.specs.Read.{count_of, key_offset, key_length, key_position, key_of}
use Rattle.directory.specs.Read.{key_begin, pairs_bad, directory_bad, keys_bad, key_outside}

-- ---- row 20: one key inside

module _ (d : List ℕ) (n i : ℕ) where
  -- the code's place of a length is the definition's
  pub length-place : number_at d (4 + 8 * i + 4) 4 ≡ key_length d i
  length-place = let e : 4 + 8 * i + 4 ≡ 8 + 8 * i = omega arith in ap (λ (k : ℕ). number_at d k 4) e

  pub record Inside : Type 0 where
    pub pair : 12 + 8 * i ≤ length d
    pub bytes : key_position d n i + key_length d i ≤ length d

  pub is-inside : key_outside d n i ≡ false → Inside
  unfolding key_outside
  is-inside e =
      let both = or_parts (ltb (length d) (12 + 8 * i)) _ e in
      record { pair = ltb-false (length d) (12 + 8 * i) both.0; bytes = ltb-false (length d) (key_position d n i + key_length d i) both.1 }

  pub length-key_of : Inside → length (key_of d n i) ≡ key_length d i
  length-key_of h =
      length-take-le (key_length d i) (drop (key_position d n i) d) (omega (arith, length-drop (key_position d n i) d, h.bytes))

  pub inside_is : Inside → key_outside d n i ≡ false
  unfolding key_outside
  inside_is h = rw (le-ltb (length d) (12 + 8 * i) h.pair, le-ltb (length d) (key_position d n i + key_length d i) h.bytes)

-- ---- row 12: the pairs

module _ (d : List ℕ) where
  -- pair i's own rule
  abbrev pub pair_bad : ℕ → Bool
  pair_bad i = not (eqb (key_offset d i) (key_begin d i)) || ltb 1024 (key_length d i)

  pub pairs-fronts : Fronts (pairs_bad d) pair_bad
  unfolding pairs_bad
  pairs-fronts = record { none = refl; more = λ m. refl }

  module _ (m offset len begin : ℕ)
      (o : offset ≡ key_offset d m) (l : len ≡ number_at d (4 + 8 * m + 4) 4) (b : begin ≡ key_begin d m) where
    pub offset-bad : (offset ≡ begin → ⊥) → pair_bad m ≡ true
    offset-bad h =
        or_left _ _ (ap not (ne_eqb (key_offset d m) (key_begin d m) (λ q. h (omega arith))))

    pub length-bad : 1024 < len → pair_bad m ≡ true
    length-bad h =
        or_right (not (eqb (key_offset d m) (key_begin d m))) _ (lt-ltb 1024 (key_length d m) (omega (arith, length-place d 0 m)))

    pub pair-good : offset ≡ begin → len ≤ 1024 → pair_bad m ≡ false
    pair-good e h =
        rw (
          eq-eqb (key_offset d m) (key_begin d m) (omega arith),
          le-ltb 1024 (key_length d m) (omega (arith, length-place d 0 m)),
        )

    pub next-begin : offset ≡ begin → begin + len ≡ key_begin d (m + 1)
    unfolding key_begin
    next-begin e = rw (add-one m) (omega (arith, length-place d 0 m))

  -- the rules of the first n pairs
  pub record PairsOk (n : ℕ) : Type 0 where
    pub offsets : (i : ℕ) → i < n → key_offset d i ≡ key_begin d i
    pub short : (i : ℕ) → i < n → key_length d i ≤ 1024

  pair-rule : (m : ℕ) → pair_bad m ≡ false → (key_offset d m ≡ key_begin d m) × (key_length d m ≤ 1024)
  pair-rule m e =
      let own = or_parts (not (eqb (key_offset d m) (key_begin d m))) (ltb 1024 (key_length d m)) e in (
        eqb-true (key_offset d m) (key_begin d m) (not-false (eqb (key_offset d m) (key_begin d m)) own.0),
        ltb-false 1024 (key_length d m) own.1,
      )

  pub pairs-ok : (n : ℕ) → pairs_bad d n ≡ false → PairsOk n
  pairs-ok n e = record {
    offsets = λ i h. (pair-rule i (each-kept pairs-fronts n e i h)).0;
    short = λ i h. (pair-rule i (each-kept pairs-fronts n e i h)).1;
  }

  pub pairs-good : (n : ℕ) → PairsOk n → pairs_bad d n ≡ false
  pairs-good n ok =
      all-kept pairs-fronts n (λ i h.
      pair-good i (key_offset d i) (number_at d (4 + 8 * i + 4) 4) (key_begin d i) refl refl refl (ok.offsets i h)
      (omega (arith, length-place d 0 i, ok.short i h)))

  -- keys begin one behind the other
  pub begins-rise : (n : ℕ) → PairsOk n → (i j : ℕ) → i ≤ j → j ≤ n → key_begin d i ≤ key_begin d j
  begins-rise n ok i zero h l = let e : i ≡ 0 = omega arith in rw e (le_refl (key_begin d 0))
  begins-rise n ok i (suc j) h l =
      let step : key_begin d j ≤ key_begin d (suc j) = unfold key_begin in omega (arith, ok.offsets j l) in
      ⊎_elim
      (λ (e : i ≡ suc j). rw e (le_refl (key_begin d (suc j))))
      (λ (g : i < suc j). le_trans (begins-rise n ok i j (le_of_suc-le-suc g) (omega arith)) step)
      (eq-or-lt_of_le h)

-- ---- row 12: the directory

-- what row 12 asks of a directory
pub record DirectoryOk (d : List ℕ) : Type 0 where
  pub some : 2 ≤ count_of d
  pub few : count_of d ≤ 65536
  pub fits : 4 + 8 * count_of d ≤ length d
  pub pairs : PairsOk d (count_of d)
  pub exact : length d ≡ 4 + 8 * count_of d + key_begin d (count_of d)

module _ (d : List ℕ) where
  pub directory-kept : directory_bad d ≡ false → DirectoryOk d
  unfolding directory_bad
  directory-kept e =
      let a = or_parts (ltb (length d) 4) _ e in
      let b = or_parts (ltb (count_of d) 2) _ a.1 in
      let c = or_parts (ltb 65536 (count_of d)) _ b.1 in
      let f = or_parts (ltb (length d) (4 + 8 * count_of d)) _ c.1 in
      let g = or_parts (pairs_bad d (count_of d)) _ f.1 in
      let whole = 4 + 8 * count_of d + key_begin d (count_of d) in
      record {
        some = ltb-false (count_of d) 2 b.0;
        few = ltb-false 65536 (count_of d) c.0;
        fits = ltb-false (length d) (4 + 8 * count_of d) f.0;
        pairs = pairs-ok d (count_of d) g.0;
        exact = eqb-true (length d) whole (not-false (eqb (length d) whole) g.1);
      }

  -- the tests before the last are false
  last-test : 4 ≤ length d → 2 ≤ count_of d → count_of d ≤ 65536 → 4 + 8 * count_of d ≤ length d → pairs_bad d (count_of d) ≡ false
      → directory_bad d ≡ not (eqb (length d) (4 + 8 * count_of d + key_begin d (count_of d)))
  unfolding directory_bad
  last-test a b c f g =
      rw (le-ltb (length d) 4 a, le-ltb (count_of d) 2 b, le-ltb 65536 (count_of d) c, le-ltb (length d) (4 + 8 * count_of d) f, g)

  pub directory-keeps : DirectoryOk d → directory_bad d ≡ false
  directory-keeps ok =
      last-test (omega (arith, ok.fits)) ok.some ok.few ok.fits (pairs-good d (count_of d) ok.pairs)
      ∙ rw (eq-eqb (length d) (4 + 8 * count_of d + key_begin d (count_of d)) ok.exact) refl

  -- the last pair's sum is where the keys end
  last_sum : (n : ℕ) → 1 ≤ n → number_at d (4 + 8 * n - 8) 4 + number_at d (4 + 8 * n - 8 + 4) 4 ≡ key_begin d n
  unfolding key_begin
  last_sum zero h = absurd (let z : ⊥ = omega arith in z)
  last_sum (suc m) h = let e : 4 + 8 * suc m - 8 ≡ 4 + 8 * m = omega arith in rw (e, length-place d 0 m) refl

  -- the last test as the code makes it
  pub last-tested : (n a b : ℕ) → n ≡ count_of d → a ≡ number_at d (4 + 8 * n - 8) 4 → b ≡ number_at d (4 + 8 * n - 8 + 4) 4
      → 2 ≤ n → n ≤ 65536 → 4 + 8 * n ≤ length d → pairs_bad d n ≡ false → not (eqb (length d) (4 + 8 * n + (a + b))) ≡ directory_bad d
  last-tested n a b e p q two few fits good =
      rw (p, q, last_sum n (omega arith), e)
      (sym (last-test (omega arith) (rw e at two) (rw e at few) (rw e at fits) (rw e at good)))

  -- every key lies inside
  pub keys-inside : DirectoryOk d → (i : ℕ) → i < count_of d → key_outside d (count_of d) i ≡ false
  unfolding key_begin
  keys-inside ok i h =
      let ends : key_begin d (suc i) ≤ key_begin d (count_of d) =
      begins-rise d (count_of d) ok.pairs (suc i) (count_of d) h (le_refl (count_of d)) in
      inside_is d (count_of d) i (record { pair = omega (arith, ok.fits); bytes = omega (arith, ok.exact) })

-- ---- row 13: keys that rise

module _ (d : List ℕ) (n : ℕ) where
  -- whether the key behind key i isn't above it
  abbrev key_falls : ℕ → Bool
  key_falls i = not (less (key_of d n i) (key_of d n (suc i)))

  pub keys-fronts : Fronts (λ m. keys_bad d n (suc m)) key_falls
  unfolding keys_bad
  keys-fronts = record { none = refl; more = λ m. refl }

  -- key i's own test, where those before it pass theirs
  pub key-test : (i : ℕ) → 1 ≤ i → keys_bad d n i ≡ false → keys_bad d n (i + 1) ≡ not (less (key_of d n (i - 1)) (key_of d n i))
  unfolding keys_bad
  key-test zero h e = absurd (let z : ⊥ = omega arith in z)
  key-test (suc i) h e = let same : suc i - 1 ≡ i = omega arith in rw (add-one (suc i), e, same)

  pub keys_kept : (m i : ℕ) → suc i < m → keys_bad d n m ≡ false → key_of d n i ≺ key_of d n (suc i)
  keys_kept zero i h e = absurd (let z : ⊥ = omega arith in z)
  keys_kept (suc m) i h e =
      not-false (less (key_of d n i) (key_of d n (suc i))) (each-kept keys-fronts m e i (omega arith))

  pub keys-keep : (m : ℕ) → ((i : ℕ) → suc i < m → key_of d n i ≺ key_of d n (suc i)) → keys_bad d n m ≡ false
  keys-keep zero h = unfold keys_bad in refl
  keys-keep (suc m) h = all-kept keys-fronts m (λ i l. ap not (h i (omega arith)))
