-- One group more: what is left of the records and of the bits is the writer's exactly when the next group is and what is left after it.
use Prim.Native.Nat.{ℕ, suc, ◌+◌, ◌-◌, ◌*◌, ◌^◌, ◌≤◌, ◌<◌}
use mathlib.Core.Path.{◌≡◌, sym, ap, ap₂, ◌∙◌}
use mathlib.Core.Bool.{true, false}
use mathlib.Core.List.{List, [], ◌∷◌, ◌++◌}
use native.Mathlib.Nat.{mul-zero, mul-suc, zero-add, sub-zero}
use native.Mathlib.Numerals.{add-one}
use native.Mathlib.Omega.{arith}
use lib.ListN.{length, take, drop, length-take, length-drop, take-append-drop, drop_of_length-le}
use lib.Seq.{ext_get_or, get_or-take, get_or-drop, take_at, drop_at, drop-drop, take_all}
use Rattle.layout.specs.Layout.{max_group_len}
use Rattle.serialize.specs.Digits.{le_val, DigitsBelow}
use Rattle.std.proofs.lemmas.Bool.{and_parts, or_parts}
use Rattle.bitpacker.specs.Bits.{bytes_of}
use Rattle.bitpacker.specs.Fields.{group_bits}
use Rattle.group.specs.declared.BlockAddr.{BlockAddr}
use Rattle.group.specs.declared.BlockAddrBlockMetadata.{BlockAddrBlockMetadata}
use Rattle.group.specs.Blocks.{no_block, block_of}
use Rattle.group.specs.Legal.{Legal}
use Rattle.group.specs.Meta.{meta_bytes}
use Rattle.group.specs.Write.{meta_of, group_number, addr_bytes}
use Rattle.group.specs.Read.{group_bad, block_read}
use Rattle.group.specs.Facts.{Readable}
use Rattle.group.proofs.Blocks.{legal-same}
use Rattle.group.proofs.Metadata.{MetaFits, length-meta_bytes, meta-back, meta-bytes}
use Rattle.group.proofs.Written.{meta-fits, length-addr_bytes}
use Rattle.group.proofs.Reading.{GroupOk, group-ok}
use Rattle.store.specs.Store.{group_count, group_record, group_addrs, group_records, addrs}
use Rattle.store.specs.Read.{group_meta, len_of_group, store_block, meta_bad, StoreOk}
use Rattle.store.specs.Facts.{GroupLenOk}
use Rattle.store.proofs.Groups.{group-first-lt, legal-part}
use Rattle.store.proofs.Lookup.{block-of-group, part-readable}
use Rattle.store_canonical.specs.Same.{same_bytes}
use Rattle.store_canonical.specs.Canonical.{store_blocks, is_store_canonical, group_first, group_rest, GroupCanonical}
use Rattle.store_canonical.proofs.Same.{same_true, same-equal}
use Rattle.store_canonical.proofs.Blocks.{length-blocks_from, blocks_from-at, blocks_from-all}

-- a store of n blocks that keeps its rows, with no record too many
pub record Checked (choose : List ℕ → ℕ) (L : ℕ) (recs addr : List ℕ) (n : ℕ) : Type 0 where
  pub group : GroupLenOk L
  pub slopes : (vs : List ℕ) → choose vs < 2 ^ 32
  pub long : length recs ≡ 36 * group_count L n
  pub ok : StoreOk L recs addr n
  pub small : length addr < 2 ^ 64
  pub bytes : DigitsBelow 8 recs

-- what is left after g groups, whose bits end at `offset`, is the writer's
pub record Left (choose : List ℕ → ℕ) (L : ℕ) (recs addr : List ℕ) (n g offset : ℕ) : Type 0 where
  pub records : drop (36 * g) recs ≡ group_records choose L (group_count L n - g) offset (drop (L * g) (store_blocks L recs addr n))
  pub bits : drop offset addr ≡ addrs choose L (group_count L n - g) (drop (L * g) (store_blocks L recs addr n))

joined : (l a r : List ℕ) (k : ℕ) → take k l ≡ a → drop k l ≡ r → l ≡ a ++ r
joined l a r k e f = sym (take-append-drop k l) ∙ ap₂ (λ (x y : List ℕ). x ++ y) e f

-- the bits of a group don't depend on where they stand
bits-anywhere : (choose : List ℕ → ℕ) (offset : ℕ) (m : BlockAddrBlockMetadata) (b : BlockAddr) (bs : List BlockAddr) →
    m ≡ meta_of choose offset b bs
    → addr_bytes m b bs ≡ group_addrs choose (b ∷ bs)
unfolding group_addrs addr_bytes group_number meta_of
bits-anywhere choose offset m b bs e = rw e

-- ---- one group

module _ {choose : List ℕ → ℕ} {L : ℕ} {recs addr : List ℕ} {n : ℕ} (given : Checked choose L recs addr n) (g : ℕ) (there : g <
    group_count L n) where
  abbrev m : BlockAddrBlockMetadata
  m = group_meta recs g

  -- the address bytes from the group's offset on
  abbrev own : List ℕ
  own = drop m.offset addr

  first-there : L * g < n
  first-there = group-first-lt given.group.some n g there

  rows : (group_bad m (len_of_group L n g) (length addr) ≡ false)
  unfolding meta_bad
  rows = (or_parts (group_bad m (len_of_group L n g) (length addr)) _ (given.ok.groups g there)).0

  pub group-kept : GroupOk m (len_of_group L n g) (length addr)
  group-kept = group-ok m (len_of_group L n g) (length addr) rows

  pub group-few : m.block_len < max_group_len
  group-few = omega (arith, group-kept.blocks, given.group.few)

  -- what is lent of them
  pub lent : take (length addr - m.offset) (drop m.offset addr) ≡ own
  lent = take_all (length addr - m.offset) (drop m.offset addr) (omega (arith, length-drop m.offset addr))

  pub own-readable : Readable m (length own)
  unfolding meta_bad
  own-readable = rw lent at (part-readable m (len_of_group L n g) addr (given.ok.groups g there) (omega (arith, given.group.few)))

  own_is : (j : ℕ) → j < m.block_len + 1 → store_block L recs addr (L * g + j) ≡ block_read m (le_val own) j
  own_is j h = block-of-group L recs addr given.group.some g j (omega (arith, group-kept.blocks))

  pub own-legal : Legal (block_read m (le_val own)) (m.block_len + 1)
  own-legal =
      legal-same (λ j h. sym (own_is j h)) (legal-part given.ok.legal (L * g) (m.block_len + 1) (omega (
        arith,
        group-kept.blocks,
        first-there,
      )))

  -- its blocks are the next of the store's
  own-list : group_first m own ∷ group_rest m own ≡ take L (drop (L * g) (store_blocks L recs addr n))
  own-list =
      let f = block_read m (le_val own) in
      let bs = store_blocks L recs addr n in
      let size = length-blocks_from f 1 m.block_len in
      let all = length-blocks_from (store_block L recs addr) 0 n in
      ext_get_or no_block (group_first m own ∷ group_rest m own) (take L (drop (L * g) bs))
      (omega (arith, size, length-take L (drop (L * g) bs), length-drop (L * g) bs, all, group-kept.blocks, first-there))
      (λ j h.
      let j-small : j < suc m.block_len = omega (arith, size) in
      let j-in : j < L = omega (arith, group-kept.blocks) in
      let j-there : L * g + j < n = omega (arith, group-kept.blocks, first-there) in
      blocks_from-all f m.block_len j j-small
      ∙ sym (own_is j (omega arith))
      ∙ sym (get_or-take L (drop (L * g) bs) j no_block j-in ∙ get_or-drop (L * g) bs j no_block
      ∙ blocks_from-at (store_block L recs addr) 0 n (L * g + j) j-there ∙ ap (store_block L recs addr) (zero-add (L * g + j))))

  list-legal : Legal (block_of (group_first m own ∷ group_rest m own)) (suc (length (group_rest m own)))
  list-legal =
      rw (length-blocks_from (block_read m (le_val own)) 1 m.block_len, ← (add-one m.block_len))
      (legal-same (λ j h. blocks_from-all (block_read m (le_val own)) m.block_len j (omega arith)) own-legal)

  planned-fits : (offset : ℕ) → offset < 2 ^ 64 → MetaFits (meta_of choose offset (group_first m own) (group_rest m own))
  planned-fits offset small =
      meta-fits (group_first m own) (group_rest m own) list-legal choose offset small given.slopes
      (omega (arith, length-blocks_from (block_read m (le_val own)) 1 m.block_len, group-few))

  -- how many bytes its bits take
  pub bits-long : length (addr_bytes m (group_first m own) (group_rest m own))
      ≡ bytes_of (group_bits m.range_start_nbits m.first_ordinal_nbits m.block_len)
  bits-long = length-addr_bytes m (group_first m own) (group_rest m own) ∙ rw (length-blocks_from (block_read m (le_val own)) 1 m.block_len)

  abbrev k : ℕ
  k = bytes_of (group_bits m.range_start_nbits m.first_ordinal_nbits m.block_len)

  abbrev blocks : List BlockAddr
  blocks = drop (L * g) (store_blocks L recs addr n)

  abbrev others : ℕ → List ℕ
  others offset = group_records choose L (group_count L n - (g + 1)) offset (drop (L * (g + 1)) (store_blocks L recs addr n))

  abbrev other-bits : List ℕ
  other-bits = addrs choose L (group_count L n - (g + 1)) (drop (L * (g + 1)) (store_blocks L recs addr n))

  one_more : group_count L n - g ≡ suc (group_count L n - (g + 1))
  one_more = omega arith

  blocks-after : drop L blocks ≡ drop (L * (g + 1)) (store_blocks L recs addr n)
  blocks-after =
      let e : L * g + L ≡ L * (g + 1) = rw (add-one g, mul-suc L g) in
      drop-drop L (L * g) (store_blocks L recs addr n) ∙ ap (λ (x : ℕ). drop x (store_blocks L recs addr n)) e

  -- the writer's, of this group and the others
  records-split : (offset : ℕ) → group_records choose L (group_count L n - g) offset blocks
      ≡ meta_bytes (meta_of choose offset (group_first m own) (group_rest m own)) ++ others (offset + length (group_addrs choose
      (group_first m own ∷ group_rest m own)))
  unfolding group_records group_record
  records-split offset = rw (one_more, ← own-list, blocks-after)

  bits-split : addrs choose L (group_count L n - g) blocks ≡ group_addrs choose (group_first m own ∷ group_rest m own) ++ other-bits
  unfolding addrs
  bits-split = rw (one_more, ← own-list, blocks-after)

  record-inside : 36 * g + 36 ≤ length recs
  record-inside = omega (arith, given.long)

  next-record : drop 36 (drop (36 * g) recs) ≡ drop (36 * (g + 1)) recs
  next-record = let e : 36 * g + 36 ≡ 36 * (g + 1) = omega arith in drop-drop 36 (36 * g) recs ∙ ap (λ (x : ℕ). drop x recs) e

  module _ (offset : ℕ) where
    -- the group that is the writer's
    module _ (canonical : GroupCanonical choose offset m own) where
      offset-is : m.offset ≡ offset
      unfolding meta_of
      offset-is = ap (λ (x : BlockAddrBlockMetadata). x.offset) canonical.meta

      pub offset-inside : offset + k ≤ length addr
      offset-inside = omega (arith, offset-is, group-kept.inside)

      same_bits : addr_bytes m (group_first m own) (group_rest m own) ≡ group_addrs choose (group_first m own ∷ group_rest m own)
      same_bits = bits-anywhere choose offset m (group_first m own) (group_rest m own) canonical.meta

      long-bits : length (group_addrs choose (group_first m own ∷ group_rest m own)) ≡ k
      long-bits = sym (ap length same_bits) ∙ bits-long

      pub left-before : Left choose L recs addr n (g + 1) (offset + k) → Left choose L recs addr n g offset
      left-before left = record {
        records =
            joined (drop (36 * g) recs) (meta_bytes (meta_of choose offset (group_first m own) (group_rest m own))) (others (offset + k)) 36
            (sym (meta-bytes recs (36 * g) given.bytes record-inside) ∙ ap meta_bytes canonical.meta)
            (next-record ∙ left.records)
            ∙ sym (rw long-bits at (records-split offset));
        bits =
            joined (drop offset addr) (group_addrs choose (group_first m own ∷ group_rest m own)) other-bits k
            (ap (λ (x : ℕ). take k (drop x addr)) (sym offset-is) ∙ ap (λ (x : ℕ). take x own) (sym bits-long) ∙ canonical.bits ∙ same_bits)
            (drop-drop k offset addr ∙ left.bits)
            ∙ sym bits-split;
      }

    module _ (inside : offset ≤ length addr) (left : Left choose L recs addr n g offset) where
      meta-same : m ≡ meta_of choose offset (group_first m own) (group_rest m own)
      meta-same =
          meta-back (meta_of choose offset (group_first m own) (group_rest m own)) recs (36 * g) (planned-fits offset (omega (
            arith,
            given.small,
          )))
          (ap (take 36) (left.records ∙ records-split offset)
          ∙ take_at _ _ 36 (length-meta_bytes (meta_of choose offset (group_first m own) (group_rest m own))))

      pub left-group : GroupCanonical choose offset m own
      unfolding meta_of
      left-group =
          let at : m.offset ≡ offset = ap (λ (x : BlockAddrBlockMetadata). x.offset) meta-same in
          let same = bits-anywhere choose offset m (group_first m own) (group_rest m own) meta-same in
          record {
            meta = meta-same;
            bits =
                ap (λ (x : ℕ). take (length (addr_bytes m (group_first m own) (group_rest m own))) (drop x addr)) at
                ∙ ap (take (length (addr_bytes m (group_first m own) (group_rest m own)))) (left.bits ∙ bits-split)
                ∙ take_at _ _ (length (addr_bytes m (group_first m own) (group_rest m own))) (sym (ap length same))
                ∙ sym same;
          }

      pub left_after : Left choose L recs addr n (g + 1) (offset + k)
      left_after =
          let long = long-bits left-group in
          record {
            records =
                sym next-record
                ∙ ap (drop 36) (left.records ∙ (rw long at (records-split offset)))
                ∙ drop_at _ _ 36 (length-meta_bytes (meta_of choose offset (group_first m own) (group_rest m own)));
            bits = sym (drop-drop k offset addr) ∙ ap (drop k) (left.bits ∙ bits-split) ∙ drop_at _ _ k long;
          }

-- ---- all groups

module _ (choose : List ℕ → ℕ) (L : ℕ) (recs addr : List ℕ) (n : ℕ) where
  -- before the first group nothing is passed
  pub left-told : is_store_canonical choose L recs addr n ≡ true → Left choose L recs addr n 0 0
  unfolding is_store_canonical
  left-told e =
      let t = and_parts (same_bytes recs _) _ e in
      record {
        records = rw (mul-zero L, sub-zero (group_count L n)) (same-equal recs _ t.0);
        bits = rw (mul-zero L, sub-zero (group_count L n)) (same-equal addr _ t.1);
      }

  pub told-left : Left choose L recs addr n 0 0 → is_store_canonical choose L recs addr n ≡ true
  unfolding is_store_canonical
  told-left left =
      let records = rw (mul-zero L, sub-zero (group_count L n)) at left.records in
      let bits = rw (mul-zero L, sub-zero (group_count L n)) at left.bits in
      rw (same_true recs _ records, same_true addr _ bits)

-- behind the last group nothing may be left
module _ {choose : List ℕ → ℕ} {L : ℕ} {recs addr : List ℕ} {n : ℕ} (given : Checked choose L recs addr n) (g offset : ℕ) (all : g ≡
    group_count L n) where
  none : group_count L n - g ≡ 0
  none = omega arith

  pub left_end : offset ≡ length addr → Left choose L recs addr n g offset
  unfolding group_records addrs
  left_end e = record {
    records = rw none (drop_of_length-le recs {i = 36 * g} (omega (arith, given.long)));
    bits = rw none (drop_of_length-le addr {i = offset} (omega arith));
  }

  pub end-left : offset ≤ length addr → Left choose L recs addr n g offset → offset ≡ length addr
  unfolding group_records addrs
  end-left inside left =
      let empty : drop offset addr ≡ [] = rw none at left.bits in
      omega (arith, length-drop offset addr, ap length empty)
