-- Row 26 over the pairs of a list: none of them is bad exactly when each one is good, and then each key lies inside its bytes.
use mathlib.Core.Path.{◌≡◌, refl, ap, ◌∙◌}
use mathlib.Core.Bool.{true, false}
use mathlib.Core.List.{List, []}
use Prim.Native.Nat.{ℕ, zero, suc, ◌+◌, ◌*◌, ◌%◌, ◌≤◌, ◌<◌}
use native.Mathlib.Numerals.{add-one}
use native.Mathlib.Omega.{arith}
use lib.Dec.{eqb, ltb}
use lib.ListN.{length, drop, get_or}
use Rattle.std.proofs.lemmas.List.{get_or-take, get_or-drop}
use Rattle.std.proofs.lemmas.Bool.{or_parts}
use Rattle.layout.proofs.Fronts.{Fronts, one-hit, each-kept}
use Rattle.std.specs.Simd.{first_chunks}
use borrow.Author.Tests.{lt-ltb, le-ltb, ltb-false, eq-eqb, ne_eqb, eqb-false}
use Rattle.key_list.specs.KeyList.{key_list_count, key_list_offset, key_list_len, offset_before}
use Rattle.key_list.specs.KeyList.{key_pair_bad, key_pairs_bad, key_list_bad, KeyListOk}

-- the offset before the first pair's, and before the next one's
pub before-first : (pairs : List ℕ) → offset_before pairs 0 ≡ 0
unfolding offset_before
before-first pairs = refl

pub before-next : (pairs : List ℕ) (i : ℕ) → offset_before pairs (i + 1) ≡ key_list_offset pairs i
unfolding offset_before
before-next pairs i = rw (add-one i)

-- word j of pair i, as a list of pairs has it
pair-word : (pairs : List ℕ) (k i j : ℕ) → i < k → j < 2 → get_or (get_or (first_chunks 2 k pairs) i []) j 0 ≡ get_or pairs (2 * i + j) 0
pair-word pairs zero i j h l = absurd (let z : ⊥ = omega arith in z)
pair-word pairs (suc k) zero j h l = let first : 2 * 0 + j ≡ j = omega arith in rw first (get_or-take 2 pairs j 0 l)
pair-word pairs (suc k) (suc i) j h l =
    let next : 2 * suc i + j ≡ 2 + (2 * i + j) = omega arith in
    pair-word (drop 2 pairs) k i j (omega arith) l ∙ get_or-drop 2 pairs (2 * i + j) 0 ∙ rw next refl

module _ (pairs : List ℕ) (chunks : List (List ℕ)) (e : chunks ≡ first_chunks 2 (key_list_count pairs) pairs) (i : ℕ)
    (h : i < key_list_count pairs) where
  pub offset-is : get_or (get_or chunks i []) 0 0 ≡ key_list_offset pairs i
  offset-is = rw e (pair-word pairs (key_list_count pairs) i 0 h (omega arith) ∙ ap (λ (x : ℕ). get_or pairs x 0) (omega arith))

  pub len-is : get_or (get_or chunks i []) 1 0 ≡ key_list_len pairs i
  len-is = rw e (pair-word pairs (key_list_count pairs) i 1 h (omega arith))

module _ (pairs : List ℕ) (room : ℕ) where
  pub pairs-fronts : Fronts (key_pairs_bad pairs room) (key_pair_bad pairs room)
  unfolding key_pairs_bad
  pairs-fronts = record { none = refl; more = λ m. refl }

  -- the code's two tests of a pair
  pub offset-falls : (i : ℕ) → key_list_offset pairs i < offset_before pairs i → key_pair_bad pairs room i ≡ true
  unfolding key_pair_bad
  offset-falls i h = rw (lt-ltb (key_list_offset pairs i) (offset_before pairs i) h)

  pub key-beyond : (i : ℕ) → offset_before pairs i ≤ key_list_offset pairs i
      → key_pair_bad pairs room i ≡ ltb room (key_list_offset pairs i + key_list_len pairs i)
  unfolding key_pair_bad
  key-beyond i h = rw (le-ltb (key_list_offset pairs i) (offset_before pairs i) h)

  pub one-bad : (m i : ℕ) → i < m → key_pair_bad pairs room i ≡ true → key_pairs_bad pairs room m ≡ true
  one-bad = one-hit pairs-fronts

  pair_inside : (i : ℕ) → key_pair_bad pairs room i ≡ false → key_list_offset pairs i + key_list_len pairs i ≤ room
  unfolding key_pair_bad
  pair_inside i e =
      ltb-false room (key_list_offset pairs i + key_list_len pairs i)
      (or_parts (ltb (key_list_offset pairs i) (offset_before pairs i)) _ e).1

-- a list that isn't bad, in numbers
pub key-list-ok : (limit : ℕ) (pairs : List ℕ) (room : ℕ) → key_list_bad limit pairs room ≡ false → KeyListOk limit pairs room
unfolding key_list_bad
key-list-ok limit pairs room e =
    let odd = or_parts (eqb (length pairs % 2) 1) _ e in
    let many = or_parts (ltb limit (key_list_count pairs)) _ odd.1 in
    let o = eqb-false (length pairs % 2) 1 odd.0 in
    record {
      even = omega (arith, o);
      few = ltb-false limit (key_list_count pairs) many.0;
      inside = λ i h. pair_inside pairs room i (each-kept (pairs-fronts pairs room) (key_list_count pairs) many.1 i h);
    }

module _ (limit : ℕ) (pairs : List ℕ) (room : ℕ) where
  -- the code's tests of a list, one after the other
  pub list-odd : length pairs % 2 ≡ 1 → key_list_bad limit pairs room ≡ true
  unfolding key_list_bad
  list-odd h = rw (eq-eqb (length pairs % 2) 1 h)

  pub list-long : (length pairs % 2 ≡ 1 → ⊥) → limit < key_list_count pairs → key_list_bad limit pairs room ≡ true
  unfolding key_list_bad
  list-long h l = rw (ne_eqb (length pairs % 2) 1 h, lt-ltb limit (key_list_count pairs) l)

  pub list-pairs : (length pairs % 2 ≡ 1 → ⊥) → key_list_count pairs ≤ limit
      → key_list_bad limit pairs room ≡ key_pairs_bad pairs room (key_list_count pairs)
  unfolding key_list_bad
  list-pairs h l = rw (ne_eqb (length pairs % 2) 1 h, le-ltb limit (key_list_count pairs) l)
