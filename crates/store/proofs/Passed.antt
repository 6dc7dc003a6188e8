-- What a pass over a store's groups shows: the blocks of those passed are legal, and the next group follows the last of them or is refused.
use borrow.Author.Tests.{eqb-true, leb-false, not-false, eq-eqb, lt-leb, lt-ltb}
use mathlib.Core.Path.{◌≡◌, refl, sym, ap, ◌∙◌}
use mathlib.Core.Bool.{Bool, true, false, not, ◌||◌, ◌&&◌, cond, true≢false}
use mathlib.Core.List.{List}
use mathlib.Core.Logic.{⊎_elim}
use Prim.Native.Nat.{ℕ, zero, suc, ◌+◌, ◌-◌, ◌*◌, ◌≤◌, ◌<◌, min}
use native.Mathlib.Nat.{add-zero, mul-suc, mul-zero, mul-pos, eq-or-lt_of_le, eq-zero-or-pos}
use native.Mathlib.Numerals.{add-one}
use native.Mathlib.Omega.{arith}
use lib.Dec.{eqb, ltb, leb}
use lib.ListN.{length, take, drop}
use Rattle.layout.specs.Layout.{max_group_len}
use Rattle.serialize.specs.Digits.{le_val}
use Rattle.std.proofs.lemmas.Bool.{or_parts, true_from_ne_false}
use Rattle.layout.proofs.Fronts.{each-kept}
use Rattle.group.specs.declared.BlockAddr.{BlockAddr}
use Rattle.group.specs.declared.BlockAddrBlockMetadata.{BlockAddrBlockMetadata}
use Rattle.group.specs.Legal.{limit, Follows, Legal}
use Rattle.group.specs.Read.{group_bad, range_read, ordinal_read, block_read}
use Rattle.group.specs.Facts.{Readable}
use Rattle.group.proofs.Blocks.{legal-same}
use Rattle.group.proofs.Reading.{GroupOk, group-ok}
use Rattle.store.specs.Read.{group_meta, len_of_group, store_block}
use Rattle.store.specs.Check.{firsts_bad, blocks_bad}
use Rattle.std.specs.Prelude.{Option, Some, None}
use Rattle.store.proofs.Groups.{legal-part}
use Rattle.store.proofs.Lookup.{block-of-group, part-readable, block-is}
use Rattle.store.proofs.Rows.{firsts-fronts, blocks-kept, blocks-keep}

-- ---- a group's first values

module _ (m : BlockAddrBlockMetadata) (g : ℕ) (before : BlockAddr) where
  abbrev outside : Bool
  outside = leb limit m.range_start || leb limit m.first_ordinal

  abbrev seam : Bool
  seam = not (eqb m.range_start before.end) || leb m.first_ordinal before.first_ordinal

  -- they are outside the range or, behind another group, don't follow its last block
  abbrev pub first_bad : Bool
  first_bad = outside || (ltb 0 g && seam)

  record FirstOk : Type 0 where
    inside : outside ≡ false
    touches : 0 < g → m.range_start ≡ before.end
    rises : 0 < g → before.first_ordinal < m.first_ordinal

  first-ok : first_bad ≡ false → FirstOk
  first-ok e =
      let both = or_parts outside (ltb 0 g && seam) e in
      let own : 0 < g → (not (eqb m.range_start before.end) ≡ false) × (leb m.first_ordinal before.first_ordinal ≡ false) =
      λ h. or_parts _ _ (rw (lt-ltb 0 g h) at both.1) in
      record {
        inside = both.0;
        touches = λ h. eqb-true m.range_start before.end (not-false _ (own h).0);
        rises = λ h. leb-false m.first_ordinal before.first_ordinal (own h).1;
      }

  first_good : FirstOk → first_bad ≡ false
  first_good ok =
      ⊎_elim
      (λ (z : g ≡ 0). rw (ok.inside, z))
      (λ (h : 0 < g). rw (
        ok.inside,
        lt-ltb 0 g h,
        eq-eqb m.range_start before.end (ok.touches h),
        lt-leb m.first_ordinal before.first_ordinal (ok.rises h),
      ))
      (eq-zero-or-pos g)

-- ---- the answer of a group

-- the last of `last + 1` blocks, or that one of them is illegal
abbrev pub last_of : (ℕ → BlockAddr) → ℕ → Option BlockAddr
last_of f last = cond (blocks_bad f (last + 1)) None (Some (f last))

told-broken : (t : Bool) (b : BlockAddr) → cond t None (Some b) ≡ None → t ≡ true
told-broken true b e = refl
told-broken false b e = absurd (let z : ◌≡◌ {A = ℕ} 0 1 = cc in let no : ⊥ = omega arith in no)

told-block : (t : Bool) (b after : BlockAddr) → cond t None (Some b) ≡ Some after → (t ≡ false) × (after ≡ b)
told-block true b after e = absurd (let z : ◌≡◌ {A = ℕ} 0 1 = cc in let no : ⊥ = omega arith in no)
told-block false b after e = (refl, (cc))

-- ---- blocks behind blocks

-- a blocks, then c more that follow the last of them
legal-join : (f : ℕ → BlockAddr) (a c : ℕ) → Legal f a → (0 < a → Follows (f (a - 1)) (f a)) → Legal (λ j. f (a + j)) c → Legal f (a + c)
legal-join f a c front joint back = record {
  numbers = λ i h.
      ⊎_elim
      (λ (z : a - i ≡ 0). let e : a + (i - a) ≡ i = omega arith in rw e at (back.numbers (i - a) (omega arith)))
      (λ (l : 0 < a - i). front.numbers i (omega arith))
      (eq-zero-or-pos (a - i));
  follows = λ i h.
      ⊎_elim
      (λ (z : a - i ≡ 0).
      let e : a + (i - a) ≡ i = omega arith in
      let e' : a + suc (i - a) ≡ suc i = omega arith in
      rw (e, e') at (back.follows (i - a) (omega arith)))
      (λ (l : 0 < a - i).
      ⊎_elim
      (λ (q : suc i ≡ a). let e : a - 1 ≡ i = omega arith in rw (e, ← q) at (joint (omega arith)))
      (λ (k : suc i < a). front.follows i k)
      (eq-or-lt_of_le (let le : suc i ≤ a = omega arith in le)))
      (eq-zero-or-pos (a - i));
}

-- ---- the groups passed

-- what the first g groups show; `before` is the last block
pub record Passed (L : ℕ) (recs addr : List ℕ) (n g : ℕ) (before : BlockAddr) : Type 0 where
  firsts : firsts_bad recs g ≡ false
  legal : Legal (store_block L recs addr) (min n (L * g))
  last : 0 < g → before ≡ store_block L recs addr (min n (L * g) - 1)

module _ (L : ℕ) (recs addr : List ℕ) (n : ℕ) where
  pub passed_none : (before : BlockAddr) → Passed L recs addr n 0 before
  unfolding firsts_bad
  passed_none before = record {
    firsts = refl;
    legal = record {
      numbers = λ i h. absurd (let z : ⊥ = omega (arith, mul-zero L) in z);
      follows = λ i h. absurd (let z : ⊥ = omega (arith, mul-zero L) in z);
    };
    last = λ h. absurd (let z : ⊥ = omega arith in z);
  }

  -- the last of all n blocks in k groups, or that a first value or a block breaks row 16
  abbrev pub last_of_all : ℕ → Option BlockAddr
  last_of_all k = cond (firsts_bad recs k || blocks_bad (store_block L recs addr) n) None (Some (store_block L recs addr (n - 1)))

  pub passed-all : (k : ℕ) {before : BlockAddr} → 0 < k → n ≤ L * k → Passed L recs addr n k before → Some before ≡ last_of_all k
  passed-all k some h p =
      let e : min n (L * k) ≡ n = omega arith in
      rw (p.firsts, blocks-keep (store_block L recs addr) n (rw e at p.legal)) (ap Some (rw e at (p.last some)))

  row-refused : (k : ℕ) → (firsts_bad recs k ≡ false → Legal (store_block L recs addr) n → ⊥) → None ≡ last_of_all k
  row-refused k h =
      rw (true_from_ne_false (firsts_bad recs k || blocks_bad (store_block L recs addr) n)
      (λ e. let both = or_parts (firsts_bad recs k) _ e in h both.0 (blocks-kept (store_block L recs addr) n both.1)))

-- a group with blocks before it isn't the first
later : (L g : ℕ) → 0 < L * g → 0 < g
later L zero h = absurd (let z : ⊥ = omega (arith, mul-zero L) in z)
later L (suc g) h = omega arith

-- a group of at most 256 blocks that keeps row 15, with its record
pub record Group (L : ℕ) (recs addr : List ℕ) (n g : ℕ) (m : BlockAddrBlockMetadata) : Type 0 where
  pub some : 1 ≤ L
  pub few : L ≤ max_group_len
  pub there : L * g < n
  pub is : m ≡ group_meta recs g
  pub keeps : group_bad m (len_of_group L n g) (length addr) ≡ false

module _ {L : ℕ} {recs addr : List ℕ} {n g : ℕ} {m : BlockAddrBlockMetadata} (group : Group L recs addr n g m) where
  abbrev block : ℕ → BlockAddr
  block = store_block L recs addr

  -- the group's blocks, read from the part of the address bytes that begins at its offset
  abbrev own : ℕ → BlockAddr
  own = block_read m (le_val (take (length addr - m.offset) (drop m.offset addr)))

  pub group-kept : GroupOk m (len_of_group L n g) (length addr)
  group-kept = group-ok m (len_of_group L n g) (length addr) group.keeps

  own_is : (j : ℕ) → j < m.block_len + 1 → block (L * g + j) ≡ own j
  own_is j h =
      block-of-group L recs addr group.some g j (omega (arith, group-kept.blocks))
      ∙ sym (block-is recs addr g m group.is j (own j) refl)

  first-is : block (L * g) ≡ own 0
  first-is = rw (add-zero (L * g)) at (own_is 0 (omega arith))

  own-legal : Legal block n → Legal own (m.block_len + 1)
  own-legal legal =
      legal-same (λ j h. sym (own_is j h)) (legal-part legal (L * g) (m.block_len + 1) (omega (arith, group-kept.blocks)))

  pub group-refused : (k : ℕ) (r : Option BlockAddr) → r ≡ last_of own m.block_len → r ≡ None → None ≡ last_of_all L recs addr n k
  group-refused k r is e =
      row-refused L recs addr n k
      (λ firsts legal. true≢false
      (sym (told-broken _ (own m.block_len) (sym is ∙ e)) ∙ blocks-keep own (m.block_len + 1) (own-legal legal)))

  module _ {before : BlockAddr} (passed : Passed L recs addr n g before) where
    before-is : 0 < g → before ≡ block (L * g - 1)
    before-is h = let e : min n (L * g) ≡ L * g = omega (arith, group.there) in rw e at (passed.last h)

    pub first-refused : (k : ℕ) → g < k → first_bad m g before ≡ true → None ≡ last_of_all L recs addr n k
    unfolding block_read range_read ordinal_read
    first-refused k h b =
        row-refused L recs addr n k
        (λ firsts legal.
        let next : 0 < g → Follows before (own 0) =
        λ l.
        let e : suc (L * g - 1) ≡ L * g = omega (arith, mul-pos group.some l) in
        rw (before-is l, ← first-is) (rw e at (legal.follows (L * g - 1) (omega (arith, group.there)))) in
        true≢false (sym b ∙ first_good m g before (record {
          inside = rw group.is (each-kept (firsts-fronts recs) k firsts g h);
          touches = λ l. (next l).touches;
          rises = λ l. (next l).rises;
        })))

    module _ (good : first_bad m g before ≡ false) where
      pub group-readable : Readable m (length (take (length addr - m.offset) (drop m.offset addr)))
      group-readable =
          part-readable m (len_of_group L n g) addr (rw group.keeps (first-ok m g before good).inside) (omega (arith, group.few))

      pub passed-turn : (r : Option BlockAddr) (after : BlockAddr) → r ≡ last_of own m.block_len → r ≡ Some after
          → Passed L recs addr n (g + 1) after
      unfolding firsts_bad block_read range_read ordinal_read
      passed-turn r after is e =
          let ok = first-ok m g before good in
          let told = told-block (blocks_bad own (m.block_len + 1)) (own m.block_len) after (sym is ∙ e) in
          let front : min n (L * g) ≡ L * g = omega (arith, group.there) in
          let whole : min n (L * (g + 1)) ≡ L * g + (m.block_len + 1) =
          rw (add-one g, mul-suc L g) (omega (arith, group.there, group-kept.blocks)) in
          let end : L * g + (m.block_len + 1) - 1 ≡ L * g + m.block_len = omega arith in
          record {
            firsts = rw (add-one g, passed.firsts) (rw group.is at ok.inside);
            legal =
                rw whole
                (legal-join block (L * g) (m.block_len + 1) (rw front at passed.legal)
                (λ l. let h = later L g l in rw (first-is, ← (before-is h)) (record { touches = ok.touches h; rises = ok.rises h }))
                (legal-same own_is (blocks-kept own (m.block_len + 1) told.0)));
            last = λ h. rw (whole, end) (told.1 ∙ sym (own_is m.block_len (omega arith)));
          }
