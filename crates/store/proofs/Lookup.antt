-- Laws of lookups: which group a block is in, that ordinals rise over all blocks, and the last block at or below an ordinal.
use mathlib.Core.Path.{◌≡◌, ap, ◌∙◌}
use mathlib.Core.Bool.{Bool, false, ◌||◌}
use mathlib.Core.List.{List}
use mathlib.Core.Logic.{⊎_elim}
use Prim.Native.Nat.{ℕ, zero, suc, ◌+◌, ◌-◌, ◌*◌, ◌/◌, ◌%◌, ◌≤◌, ◌<◌}
use native.Mathlib.Nat.{add-zero, add_assoc, mul-suc, mod-eq_of_lt, div-eq_of_lt, mul-div-le, mul-add-div, div-add-mod, mod-lt}
use native.Mathlib.Nat.{mul-add-mod_self_left, eq-or-lt_of_le, lt_of_not-le, le_of_suc-le-suc}
use native.Mathlib.Numerals.{add-one}
use native.Mathlib.Omega.{arith}
use lib.Dec.{leb}
use borrow.Author.Tests.{leb-false}
use lib.ListN.{length, take, drop, length-drop}
use Rattle.layout.specs.Layout.{max_group_len}
use Rattle.serialize.specs.Digits.{le_val}
use Rattle.std.proofs.lemmas.Bool.{or_parts}
use Rattle.std.proofs.lemmas.List.{take_rest}
use Rattle.group.specs.declared.BlockAddr.{BlockAddr}
use Rattle.group.specs.declared.BlockAddrBlockMetadata.{BlockAddrBlockMetadata}
use Rattle.group.specs.Legal.{limit, Legal}
use Rattle.group.specs.Read.{group_bad, ordinal_read, block_read}
use Rattle.group.specs.Facts.{Readable}
use Rattle.group.proofs.Reading.{GroupOk, group-ok, readable}
use Rattle.store.specs.Store.{group_count}
use Rattle.store.specs.Read.{group_meta, len_of_group, store_block, meta_bad, block_or, StoreOk, Last}
use Rattle.store.proofs.Groups.{group-count-lt}

-- ---- groups

module _ (L n : ℕ) (some : 1 ≤ L) where
  pub groups-some : 1 ≤ n → 1 ≤ group_count L n
  groups-some h = group-count-lt some n 0 (omega arith)

  pub block-begins : (i : ℕ) → i < n → L * (i / L) < n
  block-begins i h = omega (arith, mul-div-le i L)

  pub block-there : (i : ℕ) → i < n → i / L < group_count L n
  block-there i h = group-count-lt some n (i / L) (block-begins i h)

  -- a block's place in its group
  pub inner-there : (i : ℕ) → i < n → i % L < len_of_group L n (i / L)
  inner-there i h = let p : 0 < L = omega arith in omega (arith, mod-lt i p, div-add-mod i L)

-- ---- blocks

module _ (L : ℕ) (recs addr : List ℕ) (some : 1 ≤ L) where
  -- block j of group g
  pub block-of-group : (g j : ℕ) → j < L
      → store_block L recs addr (L * g + j) ≡ block_read (group_meta recs g) (le_val (drop (group_meta recs g).offset addr)) j
  unfolding store_block
  block-of-group g j h =
      let q : (L * g + j) / L ≡ g = mul-add-div (omega arith) g j ∙ ap (λ (x : ℕ). g + x) (div-eq_of_lt h) ∙ add-zero g in
      let r : (L * g + j) % L ≡ j = mul-add-mod_self_left L g j ∙ mod-eq_of_lt h in
      rw (q, r)

  -- its first ordinal
  pub ordinal-of-group : (g j : ℕ) → j < L
      → (store_block L recs addr (L * g + j)).first_ordinal
      ≡ ordinal_read (group_meta recs g) (le_val (drop (group_meta recs g).offset addr)) j
  unfolding block_read
  ordinal-of-group g j h = ap (λ (b : BlockAddr). b.first_ordinal) (block-of-group g j h)

  -- a group's first ordinal is its first block's
  pub first-of-group : (g : ℕ) → (store_block L recs addr (L * g)).first_ordinal ≡ (group_meta recs g).first_ordinal
  unfolding ordinal_read
  first-of-group g = rw (add-zero (L * g)) at (ordinal-of-group g 0 (omega arith))

-- ordinals rise over all blocks
pub ordinals-rise : (block : ℕ → BlockAddr) (n : ℕ) → Legal block n → (i j : ℕ) → i < j → j < n
    → (block i).first_ordinal < (block j).first_ordinal
ordinals-rise block n k i zero h l = absurd (let z : ⊥ = omega arith in z)
ordinals-rise block n k i (suc j) h l =
    let step = (k.follows j l).rises in
    ⊎_elim
    (λ (e : i ≡ j). rw e step)
    (λ (g : i < j). let low = ordinals-rise block n k i j g (omega arith) in omega arith)
    (eq-or-lt_of_le (le_of_suc-le-suc h))

-- a block that is read in a store that keeps the rules
pub read-block : (L : ℕ) (recs addr : List ℕ) (n i : ℕ) → 1 ≤ L → StoreOk L recs addr n → i < n
    → block_or L recs addr n i ≡ store_block L recs addr i
unfolding block_or
read-block L recs addr n i some ok h = rw (ok.groups (i / L) (block-there L n some i h))

-- ---- a group that isn't refused

module _ (m : BlockAddrBlockMetadata) (count : ℕ) (addr : List ℕ)
    (e : (group_bad m count (length addr) || (leb limit m.range_start || leb limit m.first_ordinal)) ≡ false) where
  pub group-kept : GroupOk m count (length addr)
  group-kept = group-ok m count (length addr) (or_parts (group_bad m count (length addr)) _ e).0

  pub part-readable : count ≤ max_group_len → Readable m (length (take (length addr - m.offset) (drop m.offset addr)))
  part-readable few =
      let firsts = or_parts (leb limit m.range_start) (leb limit m.first_ordinal) (or_parts (group_bad m count (length addr)) _ e).1 in
      rw (take_rest addr m.offset, length-drop m.offset addr)
      (readable m count (length addr) group-kept few (leb-false limit m.range_start firsts.0) (leb-false limit m.first_ordinal firsts.1))

-- the code's own values of group g are the definitions'
module _ (recs addr : List ℕ) (g : ℕ) (m : BlockAddrBlockMetadata) (e : m ≡ group_meta recs g) where
  pub bad-is : (L n count : ℕ) (t : Bool) → count ≡ len_of_group L n g
      → t ≡ (group_bad m count (length addr) || (leb limit m.range_start || leb limit m.first_ordinal))
      → t ≡ meta_bad L recs addr n g
  unfolding meta_bad
  bad-is L n count t c h = rw (e, c) at h

  pub part-is : take (length addr - m.offset) (drop m.offset addr) ≡ drop (group_meta recs g).offset addr
  part-is = take_rest addr m.offset ∙ ap (λ (x : BlockAddrBlockMetadata). drop x.offset addr) e

  pub block-is : (j : ℕ) (b : BlockAddr) → b ≡ block_read m (le_val (take (length addr - m.offset) (drop m.offset addr))) j
      → b ≡ block_read (group_meta recs g) (le_val (drop (group_meta recs g).offset addr)) j
  block-is j b h = rw (part-is, e) at h

-- ---- the last at or below

module _ (f : ℕ → ℕ) (n x : ℕ) where
  last-most : (i j : ℕ) → Last f n x i → Last f n x j → j ≤ i
  last-most i j a b =
      le_of_suc-le-suc (lt_of_not-le (λ (h : i < j). let above = a.later j h b.inside in let below = b.at_most in omega arith))

  -- there is one at most
  pub last-unique : (i j : ℕ) → Last f n x i → Last f n x j → i ≡ j
  last-unique i j a b = omega (arith, last-most i j a b, last-most j i b a)

  -- of rising numbers it is the one whose next is above
  pub last-by-next : (i : ℕ) → ((j k : ℕ) → j < k → k < n → f j < f k) → i < n → f i ≤ x → (i + 1 < n → x < f (i + 1)) → Last f n x i
  last-by-next i rise l low next = record {
    inside = l;
    at_most = low;
    later = λ j h k.
        ⊎_elim
        (λ (e : suc i ≡ j). let e' : i + 1 ≡ j = omega arith in rw e' at (next (omega arith)))
        (λ (g : suc i < j). let above = next (omega arith) in let more = rise (i + 1) j (omega arith) k in omega arith)
        (eq-or-lt_of_le h);
  }

-- the last group at or below an ordinal, and in it the last block at or below: the last of all
module _ (L : ℕ) (recs addr : List ℕ) (n ord g j : ℕ) (some : 1 ≤ L) (ok : StoreOk L recs addr n) where
  pub last_found : L * g < n → j < len_of_group L n g
      → ordinal_read (group_meta recs g) (le_val (drop (group_meta recs g).offset addr)) j ≤ ord
      → (j + 1 < len_of_group L n g → ord < ordinal_read (group_meta recs g) (le_val (drop (group_meta recs g).offset addr)) (j + 1))
      → (g + 1 < group_count L n → ord < (group_meta recs (g + 1)).first_ordinal)
      → Last (λ i. (store_block L recs addr i).first_ordinal) n ord (L * g + j)
  last_found begins inner low next-block next-group =
      let ordinal : ℕ → ℕ = λ i. (store_block L recs addr i).first_ordinal in
      last-by-next ordinal n ord (L * g + j)
      (ordinals-rise (store_block L recs addr) n ok.legal)
      (omega arith)
      (rw (ordinal-of-group L recs addr some g j (omega arith)) low)
      (λ h.
      let within : suc j ≤ L = omega arith in
      ⊎_elim
      (λ (e : suc j ≡ L).
      let seam : L * g + j + 1 ≡ L * (g + 1) = omega (arith, mul-suc L g, ap (λ (x : ℕ). L * x) (add-one g)) in
      let same : ordinal (L * g + j + 1) ≡ (group_meta recs (g + 1)).first_ordinal =
      ap ordinal seam ∙ first-of-group L recs addr some (g + 1) in
      let above = next-group (group-count-lt some n (g + 1) (omega arith)) in
      rw same above)
      (λ (l : suc j < L).
      let same : ordinal (L * g + j + 1) ≡ ordinal_read (group_meta recs g) (le_val (drop (group_meta recs g).offset addr)) (j + 1) =
      ap ordinal (add_assoc (L * g) j 1) ∙ ordinal-of-group L recs addr some g (j + 1) (omega arith) in
      let above = next-block (omega arith) in
      rw same above)
      (eq-or-lt_of_le within))
