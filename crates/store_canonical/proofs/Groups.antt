-- A group of a store that keeps its rows, as the code reads it: m is its record, and its bytes are those lent from its offset on.
use Prim.Native.Nat.{ℕ, ◌+◌, ◌*◌, ◌^◌, ◌≤◌, ◌<◌, min}
use mathlib.Core.Path.{◌≡◌, sym}
use mathlib.Core.Bool.{Bool, true, false, true≢false}
use mathlib.Core.List.{List}
use native.Mathlib.Omega.{arith}
use borrow.Author.Tests.{eq-eqb, eqb-true}
use lib.Dec.{eqb}
use lib.ListN.{length, drop}
use Rattle.std.specs.Cmp.{both_ways}
use Rattle.serialize.specs.Digits.{le_val, DigitsBelow}
use Rattle.bitpacker.specs.Bits.{bytes_of}
use Rattle.bitpacker.specs.Fields.{group_bits}
use Rattle.slope.specs.Slope.{best_slope}
use Rattle.slope.proofs.Widths.{best_slope-lt}
use Rattle.group.specs.declared.BlockAddrBlockMetadata.{BlockAddrBlockMetadata}
use Rattle.group.specs.Legal.{Legal}
use Rattle.group.specs.Read.{block_read}
use Rattle.group.specs.Facts.{Readable}
use Rattle.store.specs.Store.{group_count}
use Rattle.store.specs.Read.{group_meta}
use Rattle.store.specs.Check.{store_no}
use Rattle.store.proofs.Rows.{store_kept}
use Rattle.store_read.specs.declared.BlockAddrStore.{BlockAddrStore}
use Rattle.store_canonical.specs.Canonical.{is_store_canonical, GroupCanonical}
use Rattle.store_canonical.proofs.Turn.{
  Checked,
  Left,
  group-kept,
  own-readable,
  own-legal,
  offset-inside,
  left-before,
  left-group,
  left_after,
  left-told,
  told-left,
  left_end,
  end-left,
}

abbrev pub LeftOf : BlockAddrStore → ℕ → ℕ → Type 0
LeftOf s g offset = Left best_slope s.group_len s.metas.now s.addrs.now s.n g offset

-- the store is the writer's exactly when what is left after the groups passed is
abbrev pub Passed : BlockAddrStore → ℕ → ℕ → Type 0
Passed s g offset = (offset ≤ length s.addrs.now) × (LeftOf s 0 0 → LeftOf s g offset) × (LeftOf s g offset → LeftOf s 0 0)

abbrev pub CheckedStore : BlockAddrStore → Type 0
CheckedStore s = Checked best_slope s.group_len s.metas.now s.addrs.now s.n

module _ (s : BlockAddrStore) where
  -- what the store was found to be; its records are lent as `metas`
  module _ (long : length s.metas.now ≡ 36 * group_count s.group_len s.n) (row : store_no s.group_len s.metas.now s.addrs.now s.n ≡ 0)
      (small : length s.addrs.now < 2 ^ 64) {metas : List ℕ} (lent-metas : (metas ≡ s.metas.now) × DigitsBelow 8 s.metas.now) where
    pub given : CheckedStore s
    given = record {
      group = s.len;
      slopes = best_slope-lt;
      long = long;
      ok = store_kept s.group_len s.metas.now s.addrs.now s.n s.len.some s.records.some row;
      small = small;
      bytes = lent-metas.1;
    }

    -- a turn of the code's loop: m is the record of group g of `count`
    module _ {g count : ℕ} (counted : count ≡ group_count s.group_len s.n) (below : g < count) {m : BlockAddrBlockMetadata}
        (read : m ≡ group_meta metas g) where
      there : g < group_count s.group_len s.n
      there = rw counted at below

      is : m ≡ group_meta s.metas.now g
      is = rw lent-metas.0 at read

      pub lends : (m.offset ≤ length s.addrs.now) × Readable m (length (drop m.offset s.addrs.now))
      lends = rw is (omega (arith, (group-kept given g there).inside), own-readable given g there)

      -- the group as it was lent
      module _ {own : BlockAddrBlockMetadata} {d : List ℕ} (e : (own ≡ m) × (d ≡ drop m.offset s.addrs.now)) where
        pub fits : {room : ℕ} → 3 * min s.group_len s.n ≤ room
            → Legal (block_read own (le_val d)) (own.block_len + 1) × (3 * (own.block_len + 1) ≤ room)
        fits h = rw (e.1, e.0, is) (own-legal given g there, omega (arith, (group-kept given g there).blocks, h))

        -- what the test of the group says
        module _ {offset : ℕ} (passed : Passed s g offset) {t : Bool}
            (test : (t ≡ true → GroupCanonical best_slope offset own d) × (t ≡ false → GroupCanonical best_slope offset own d → ⊥)) where
          one : (t ≡ true → GroupCanonical best_slope offset (group_meta s.metas.now g) (drop (group_meta s.metas.now g).offset
              s.addrs.now))
              × (t ≡ false → GroupCanonical best_slope offset (group_meta s.metas.now g) (drop (group_meta s.metas.now g).offset
              s.addrs.now) → ⊥)
          one = rw (e.1, e.0, is) at test

          pub group-refused : t ≡ false → false ≡ is_store_canonical best_slope s.group_len s.metas.now s.addrs.now s.n
          group-refused f =
              both_ways false (is_store_canonical best_slope s.group_len s.metas.now s.addrs.now s.n)
              (λ e. absurd (true≢false (sym e)))
              (λ w. absurd (one.1 f (left-group given g there offset passed.0 (passed.1 (left-told best_slope s.group_len s.metas.now
              s.addrs.now s.n w)))))

          pub group-passed : t ≡ true → {r : ℕ} → r ≡ bytes_of (group_bits m.range_start_nbits m.first_ordinal_nbits m.block_len) →
              Passed s (g + 1) (offset + r)
          group-passed y {r} e =
              let canonical = one.0 y in
              let e' : r ≡ bytes_of (group_bits (group_meta s.metas.now g).range_start_nbits (group_meta s.metas.now g).first_ordinal_nbits
              (group_meta s.metas.now g).block_len) = rw is at e in
              rw e' (
                offset-inside given g there offset canonical,
                λ l. left_after given g there offset passed.0 (passed.1 l),
                λ l. passed.2 (left-before given g there offset canonical l),
              )

  -- behind the last group
  pub all-passed : CheckedStore s → {g offset : ℕ} → g ≡ group_count s.group_len s.n → Passed s g offset
      → eqb offset (length s.addrs.now) ≡ is_store_canonical best_slope s.group_len s.metas.now s.addrs.now s.n
  all-passed given {g} {offset} all passed =
      both_ways (eqb offset (length s.addrs.now)) (is_store_canonical best_slope s.group_len s.metas.now s.addrs.now s.n)
      (λ e. told-left best_slope s.group_len s.metas.now s.addrs.now s.n (passed.2 (left_end given g offset all (eqb-true offset (length
      s.addrs.now) e))))
      (λ w. eq-eqb offset (length s.addrs.now) (end-left given g offset all passed.0 (passed.1 (left-told best_slope s.group_len
      s.metas.now s.addrs.now s.n w))))
