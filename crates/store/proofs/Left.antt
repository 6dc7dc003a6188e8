-- What is left to write of a store while its groups are written one after the other: the records and the bits of the groups left,
-- written behind those before, give the whole store.
use Prim.Native.Nat.{ℕ, ◌+◌, ◌-◌, ◌*◌, ◌≤◌, ◌<◌, min}
use mathlib.Core.Path.{◌≡◌, ap, ◌∙◌}
use mathlib.Core.List.{List}
use native.Mathlib.Nat.{add_assoc}
use native.Mathlib.Omega.{arith}
use lib.ListN.{length}
use lib.Seq.{sets, length-sets}
use Rattle.serialize.specs.Digits.{le_bytes}
use Rattle.slope.specs.Slope.{best_slope}
use Rattle.group.specs.Blocks.{blocks_at}
use Rattle.group.proofs.Blocks.{length-blocks_at}
use Rattle.store.specs.Store.{group_count, group_record, group_addrs, group_records, addrs, store_bytes}
use Rattle.store.specs.Facts.{GroupLenOk, StoreArea}
use Rattle.store.proofs.Groups.{group-count-turn}
use Rattle.store.proofs.Stored.{sets-turn, addrs-turn, length-addrs-turn, records-turn, addrs-none, records-none, length-record}
use Rattle.store.proofs.Stored.{length-records-area, length-store-area, sets-store-area}

-- the groups from block `first` on
abbrev pub rest : List ℕ → ℕ → ℕ → ℕ → ℕ → ℕ → List ℕ
rest area stride n L first offset = group_records best_slope L (group_count L (n - first)) offset (blocks_at area stride first (n - first))

abbrev pub bits : List ℕ → ℕ → ℕ → ℕ → ℕ → List ℕ
bits area stride n L first = addrs best_slope L (group_count L (n - first)) (blocks_at area stride first (n - first))

-- what both runs make of `out`: records at `meta-at`, bits at `at`
abbrev pub both : List ℕ → ℕ → ℕ → ℕ → List ℕ → ℕ → ℕ → ℕ → ℕ → List ℕ
both area stride n L out meta-at at offset first =
    sets (sets out meta-at (rest area stride n L first offset)) at (bits area stride n L first)

-- the groups before block `first` are in `out`; the address bytes begin at `base`
pub record Left (area : List ℕ) (stride n L : ℕ) (out₀ : List ℕ) (base : ℕ) (out : List ℕ) (meta-at offset first : ℕ) : Type 0 where
  pub within : first ≤ n
  pub base-is : base ≡ 8 + 36 * group_count L n
  pub records-end : meta-at + 36 * group_count L (n - first) ≡ base
  pub bits-end : offset + length (bits area stride n L first) ≡ length (addrs best_slope L (group_count L n) (blocks_at area stride 0 n))
  pub long : length out ≡ length out₀
  pub same : both area stride n L out meta-at (base + offset) offset first
      ≡ sets (sets out₀ 8 (group_records best_slope L (group_count L n) 0 (blocks_at area stride 0 n))) base
      (addrs best_slope L (group_count L n) (blocks_at area stride 0 n))

module _ {area : List ℕ} {stride n L : ℕ} {out₀ : List ℕ} {base : ℕ} {out : List ℕ} {meta-at offset first : ℕ}
    (left : Left area stride n L out₀ base out meta-at offset first) (group : GroupLenOk L) where
  -- behind the last group
  pub left-none : n ≤ first → (base + offset ≡ length (store_bytes best_slope L (blocks_at area stride 0 n)))
      × (out ≡ sets (sets out₀ 8 (group_records best_slope L (group_count L n) 0 (blocks_at area stride 0 n))) base
      (addrs best_slope L (group_count L n) (blocks_at area stride 0 n)))
  left-none none =
      let no_bits = addrs-none best_slope group.some n first none (blocks_at area stride first (n - first)) in
      let no-records = records-none best_slope group.some n first none (blocks_at area stride first (n - first)) offset in (
        omega (arith, ap length no_bits, left.bits-end, left.base-is, length-store-area best_slope group.some area stride 0 n),
        (rw (no_bits, no-records) at left.same),
      )

  module _ (count : ℕ) (is : count ≡ min L (n - first)) (more : first < n) where
    abbrev pub one : List ℕ
    one = group_record best_slope offset (blocks_at area stride first count)

    abbrev pub one-bits : List ℕ
    one-bits = group_addrs best_slope (blocks_at area stride first count)

    pub bits-turn : length (bits area stride n L first) ≡ length one-bits + length (bits area stride n L (first + count))
    bits-turn = length-addrs-turn best_slope group.some area stride n first count is more

    -- there is room for the group
    pub record-room : meta-at + 36 ≤ base + offset
    record-room =
        omega (arith, left.records-end, group-count-turn group.some n first count is more)

    pub bits-room : length (store_bytes best_slope L (blocks_at area stride 0 n)) ≤ length out₀
        → base + offset + length one-bits ≤ length out
    bits-room h =
        omega (arith, bits-turn, left.bits-end, left.base-is, left.long, length-store-area best_slope group.some area stride 0 n)

    -- and once it is written, the others are left
    pub left-turn : (r : ℕ) (out' : List ℕ) → r ≡ length one-bits → out' ≡ sets (sets out meta-at one) (base + offset) one-bits
        → Left area stride n L out₀ base out' (meta-at + 36) (offset + r) (first + count)
    left-turn r out' e e' =
        let size : length one ≡ 36 =
        length-record best_slope offset (blocks_at area stride first count)
        (rw (length-blocks_at area stride first count) (omega arith)) in
        let others = rest area stride n L (first + count) (offset + length one-bits) in
        let others-size : length others ≡ 36 * group_count L (n - (first + count)) =
        length-records-area best_slope group.some area stride (first + count) (n - (first + count)) (offset + length one-bits) in
        let less = group-count-turn group.some n first count is more in
        record {
          within = omega arith;
          base-is = left.base-is;
          records-end = omega (arith, left.records-end);
          bits-end = omega (arith, bits-turn, left.bits-end);
          long = ap length e' ∙ length-sets (sets out meta-at one) (base + offset) one-bits ∙ length-sets out meta-at one ∙ left.long;
          same =
              rw (e, e', ← size, ← (add_assoc base offset (length one-bits)))
              (sets-turn out one others one-bits (bits area stride n L (first + count)) meta-at (base + offset)
              (omega (arith, left.records-end))
              ∙ (rw (
                records-turn best_slope group.some area stride n first count is more offset,
                addrs-turn best_slope group.some area stride n first count is more,
              ) at left.same));
        }

-- the length, then records and bits
pub whole : {area : List ℕ} {stride n L : ℕ} → StoreArea area stride n → GroupLenOk L → (out out₀ l : List ℕ) (g : ℕ) → g ≡ group_count L n
    → out₀ ≡ sets out 0 (le_bytes 8 (36 * g))
    → l ≡ sets (sets out₀ 8 (group_records best_slope L (group_count L n) 0 (blocks_at area stride 0 n))) (8 + 36 * g)
    (addrs best_slope L (group_count L n) (blocks_at area stride 0 n))
    → l ≡ sets out 0 (store_bytes best_slope L (blocks_at area stride 0 n))
whole {area} {stride} {n} store group out out₀ l g e e₀ e' = e' ∙ rw (e₀, e) (sets-store-area best_slope group.some area stride 0 n out)
