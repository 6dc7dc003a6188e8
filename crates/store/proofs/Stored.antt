-- The bytes of a store: stores in two places at once, one group more, how long the parts are, and where each group's record and bits stand.
use Prim.Native.Nat.{ℕ, zero, suc, ◌+◌, ◌-◌, ◌*◌, ◌/◌, ◌^◌, ◌≤◌, ◌<◌, min}
use mathlib.Core.Path.{◌≡◌, refl, sym, ap, ◌∙◌}
use mathlib.Core.List.{List, [], ◌∷◌, ◌++◌, append_assoc}
use native.Mathlib.Nat.{add-zero, zero-add, suc-add, add_assoc, mul-zero, mul-suc, mul-le-mul}
use native.Mathlib.Omega.{arith}
use lib.ListN.{length, take, drop, set, length-append, length-take, length-drop}
use lib.Seq.{sets, set_comm, take_at, drop_at, drop-drop, drop-cons}
use Rattle.serialize.specs.Digits.{le_bytes, DigitsBelow}
use Rattle.serialize.proofs.Digits.{length-digits_of, digits_of-below}
use Rattle.serialize.proofs.Stores.{sets-append}
use Rattle.group.specs.Blocks.{block_of, block_at, blocks_at}
use Rattle.group.specs.Legal.{Legal}
use Rattle.group.specs.Meta.{meta_bytes}
use Rattle.group.specs.Write.{meta_of, group_number, addr_bytes}
use Rattle.group.specs.Facts.{GroupArea, Fitting}
use Rattle.group.specs.declared.BlockAddr.{BlockAddr}
use Rattle.group.specs.declared.BlockAddrBlockMetadata.{BlockAddrBlockMetadata}
use Rattle.group.proofs.Blocks.{length-blocks_at, group-legal, length-group}
use Rattle.group.proofs.Metadata.{length-meta_bytes}
use Rattle.group.proofs.Written.{fits, length-addr_bytes}
use Rattle.store.specs.Store.{group_count, group_record, group_addrs, group_records, addrs, store_bytes}
use Rattle.store.specs.Facts.{GroupLenOk, StoreArea}
use Rattle.store.proofs.Groups.{group-count-zero, group-count-turn, group-count-below, group-count-le, blocks_at-cons, take-blocks_at}
use Rattle.store.proofs.Groups.{blocks-left, legal-take, legal-drop, store-legal}

-- ---- stores in two places

set-sets : (d b : List ℕ) (i j x : ℕ) → i < j → set (sets d j b) i x ≡ sets (set d i x) j b
set-sets d [] i j x h = refl
set-sets d (y ∷ b) i j x h =
    set-sets (set d j y) b i (suc j) x (omega arith) ∙ ap (λ (l : List ℕ). sets l (suc j) b) (set_comm d j i y x (λ e. omega arith))

-- runs in disjoint places in either order
pub sets-comm-run : (d a b : List ℕ) (i j : ℕ) → i + length a ≤ j → sets (sets d i a) j b ≡ sets (sets d j b) i a
sets-comm-run d [] b i j h = refl
sets-comm-run d (x ∷ a) b i j h =
    sets-comm-run (set d i x) a b (suc i) j (omega arith) ∙ ap (λ (l : List ℕ). sets l (suc i) a) (sym (set-sets d b i j x (omega arith)))

-- the first parts of two runs, then what is left of both
pub sets-turn : (d a a' b b' : List ℕ) (i j : ℕ) → i + length a + length a' ≤ j
    → sets (sets (sets (sets d i a) j b) (i + length a) a') (j + length b) b' ≡ sets (sets d i (a ++ a')) j (b ++ b')
sets-turn d a a' b b' i j h =
    ap (λ (l : List ℕ). sets l (j + length b) b') (sym (sets-comm-run (sets d i a) a' b (i + length a) j h))
    ∙ sets-append (sets (sets d i a) (i + length a) a') b b' j
    ∙ ap (λ (l : List ℕ). sets l j (b ++ b')) (sets-append d a a' i)

pub below-append : (k : ℕ) (a b : List ℕ) → DigitsBelow k a → DigitsBelow k b → DigitsBelow k (a ++ b)
below-append k [] b ha hb i = hb i
below-append k (x ∷ a) b ha hb zero = ha 0
below-append k (x ∷ a) b ha hb (suc i) = below-append k a b (λ j. ha (suc j)) hb i

module _ (choose : List ℕ → ℕ) where
  -- ---- one group of an area

  -- the group of `count` blocks from block `first` on, and what it leaves
  module _ {L : ℕ} (some : 1 ≤ L) (area : List ℕ) (stride n first count : ℕ) (is : count ≡ min L (n - first)) (more : first < n) where
    pub next-group : take L (blocks_at area stride first (n - first)) ≡ blocks_at area stride first count
    next-group = take-blocks_at area stride L first (n - first) ∙ ap (blocks_at area stride first) (sym is)

    pub addrs-turn : addrs choose L (group_count L (n - first)) (blocks_at area stride first (n - first))
        ≡ group_addrs choose (blocks_at area stride first count)
        ++ addrs choose L (group_count L (n - (first + count))) (blocks_at area stride (first + count) (n - (first + count)))
    unfolding addrs
    addrs-turn = rw (group-count-turn some n first count is more, next-group, blocks-left area stride L n first count is)

    pub length-addrs-turn : length (addrs choose L (group_count L (n - first)) (blocks_at area stride first (n - first)))
        ≡ length (group_addrs choose (blocks_at area stride first count))
        + length (addrs choose L (group_count L (n - (first + count))) (blocks_at area stride (first + count) (n - (first + count))))
    length-addrs-turn =
        ap length addrs-turn
        ∙ length-append (group_addrs choose (blocks_at area stride first count))
        (addrs choose L (group_count L (n - (first + count))) (blocks_at area stride (first + count) (n - (first + count))))

    pub records-turn : (offset : ℕ) → group_records choose L (group_count L (n - first)) offset (blocks_at area stride first (n - first))
        ≡ group_record choose offset (blocks_at area stride first count)
        ++ group_records choose L (group_count L (n - (first + count)))
        (offset + length (group_addrs choose (blocks_at area stride first count)))
        (blocks_at area stride (first + count) (n - (first + count)))
    unfolding group_records
    records-turn offset = rw (group-count-turn some n first count is more, next-group, blocks-left area stride L n first count is)

  -- no group is left behind the last block
  module _ {L : ℕ} (some : 1 ≤ L) (n first : ℕ) (none : n ≤ first) (bs : List BlockAddr) where
    pub none_left : group_count L (n - first) ≡ 0
    none_left = ap (group_count L) (let e : n - first ≡ 0 = omega arith in e) ∙ group-count-zero some

    pub addrs-none : addrs choose L (group_count L (n - first)) bs ≡ []
    unfolding addrs
    addrs-none = rw none_left

    pub records-none : (offset : ℕ) → group_records choose L (group_count L (n - first)) offset bs ≡ []
    unfolding group_records
    records-none offset = rw none_left

  -- its record as it is planned
  module _ {area : List ℕ} {stride first count : ℕ} (group : GroupArea area stride first count) (offset : ℕ) {m : BlockAddrBlockMetadata}
      (is : m ≡ meta_of choose offset (block_at area stride first) (blocks_at area stride (first + 1) (count - 1))) where
    pub planned-record : meta_bytes m ≡ group_record choose offset (blocks_at area stride first count)
    unfolding group_record
    planned-record = rw (is, blocks_at-cons area stride first count group.some)

    pub planned-bits : addr_bytes m (block_at area stride first) (blocks_at area stride (first + 1) (count - 1))
        ≡ group_addrs choose (blocks_at area stride first count)
    unfolding group_addrs addr_bytes group_number meta_of
    planned-bits = rw (is, blocks_at-cons area stride first count group.some)

    pub planned-fits : ((vs : List ℕ) → choose vs < 2 ^ 32)
        → Fitting m (block_at area stride first) (blocks_at area stride (first + 1) (count - 1))
    planned-fits slopes =
        rw is (fits (block_at area stride first) (blocks_at area stride (first + 1) (count - 1)) (group-legal group) choose offset slopes
        (omega (arith, length-group group, group.few)))

    pub planned-length : ((vs : List ℕ) → choose vs < 2 ^ 32)
        → ((m.range_start_nbits + m.first_ordinal_nbits) * m.block_len + m.range_start_nbits + 7) / 8
        ≡ length (group_addrs choose (blocks_at area stride first count))
    planned-length slopes =
        rw (planned-fits slopes).blocks
        (sym (length-addr_bytes m (block_at area stride first) (blocks_at area stride (first + 1) (count - 1))) ∙ ap length planned-bits)

  -- ---- lengths

  pub length-record : (offset : ℕ) (bs : List BlockAddr) → 0 < length bs → length (group_record choose offset bs) ≡ 36
  unfolding group_record
  length-record offset [] h = absurd (let z : ⊥ = omega arith in z)
  length-record offset (b ∷ bs) h = length-meta_bytes (meta_of choose offset b bs)

  -- k groups of which none is empty
  pub length-records : (L k offset : ℕ) (bs : List BlockAddr) → 1 ≤ L → L * k < length bs + L
      → length (group_records choose L k offset bs) ≡ 36 * k
  unfolding group_records
  length-records L zero offset bs some h = refl
  length-records L (suc k) offset bs some h =
      let more : L * k < length bs = omega (arith, mul-suc L k) in
      let rest = offset + length (group_addrs choose (take L bs)) in
      let one = length-record offset (take L bs) (rw (length-take L bs) (omega arith)) in
      let others = length-records L k rest (drop L bs) some (rw (length-drop L bs) (omega arith)) in
      length-append (group_record choose offset (take L bs)) (group_records choose L k rest (drop L bs)) ∙ omega arith

  pub length-store_bytes : (L : ℕ) (bs : List BlockAddr) → 1 ≤ L
      → length (store_bytes choose L bs) ≡ 8 + 36 * group_count L (length bs) + length (addrs choose L (group_count L (length bs)) bs)
  unfolding store_bytes
  length-store_bytes L bs some =
      let G = group_count L (length bs) in
      let n = length-digits_of 8 8 (36 * G) in
      let r = length-records L G 0 bs some (group-count-below some (length bs)) in
      let m = length-append (group_records choose L G 0 bs) (addrs choose L G bs) in
      length-append (le_bytes 8 (36 * G)) (group_records choose L G 0 bs ++ addrs choose L G bs) ∙ omega arith

  -- the store in its three parts
  pub sets-store : (d : List ℕ) (L : ℕ) (bs : List BlockAddr) → 1 ≤ L
      → sets (sets (sets d 0 (le_bytes 8 (36 * group_count L (length bs)))) 8 (group_records choose L (group_count L (length bs)) 0 bs))
      (8 + 36 * group_count L (length bs)) (addrs choose L (group_count L (length bs)) bs)
      ≡ sets d 0 (store_bytes choose L bs)
  unfolding store_bytes
  sets-store d L bs some =
      let G = group_count L (length bs) in
      let head = le_bytes 8 (36 * G) in
      let recs = group_records choose L G 0 bs in
      let bits = addrs choose L G bs in
      let n : 0 + length head ≡ 8 = omega (arith, length-digits_of 8 8 (36 * G)) in
      let r = length-records L G 0 bs some (group-count-below some (length bs)) in
      (rw r at (sets-append (sets d 0 head) recs bits 8)) ∙ (rw n at (sets-append d head (recs ++ bits) 0))

  -- the same of the blocks of an area
  module _ {L : ℕ} (some : 1 ≤ L) (area : List ℕ) (stride i n : ℕ) where
    pub length-records-area : (offset : ℕ)
        → length (group_records choose L (group_count L n) offset (blocks_at area stride i n)) ≡ 36 * group_count L n
    length-records-area offset =
        length-records L (group_count L n) offset (blocks_at area stride i n) some
        (rw (length-blocks_at area stride i n) (group-count-below some n))

    pub length-store-area : length (store_bytes choose L (blocks_at area stride i n))
        ≡ 8 + 36 * group_count L n + length (addrs choose L (group_count L n) (blocks_at area stride i n))
    length-store-area = rw (length-blocks_at area stride i n) at (length-store_bytes L (blocks_at area stride i n) some)

    pub sets-store-area : (d : List ℕ)
        → sets (sets (sets d 0 (le_bytes 8 (36 * group_count L n))) 8
        (group_records choose L (group_count L n) 0 (blocks_at area stride i n)))
        (8 + 36 * group_count L n) (addrs choose L (group_count L n) (blocks_at area stride i n))
        ≡ sets d 0 (store_bytes choose L (blocks_at area stride i n))
    sets-store-area d = rw (length-blocks_at area stride i n) at (sets-store d L (blocks_at area stride i n) some)

  module _ (slopes : (vs : List ℕ) → choose vs < 2 ^ 32) where
    -- a group's bits take at most as many bytes as those of 256 blocks with the widest fields
    pub group-addrs-le : (bs : List BlockAddr) → Legal (block_of bs) (length bs) → length bs ≤ 256 → length (group_addrs choose bs) ≤ 3577
    unfolding group_addrs
    group-addrs-le [] legal few = omega arith
    group-addrs-le (b ∷ bs) legal few =
        let m = meta_of choose 0 b bs in
        let fit = fits b bs legal choose 0 slopes (omega arith) in
        let r = fit.ranges.high in
        let o = fit.ordinals.high in
        let most : (m.range_start_nbits + m.first_ordinal_nbits) * length bs ≤ 112 * 255 =
        mul-le-mul {n₂ = 112} {m₂ = 255} (omega arith) (omega arith) in
        rw (length-addr_bytes m b bs) (omega arith)

    pub addrs-le : (L k : ℕ) (bs : List BlockAddr) → L ≤ 256 → Legal (block_of bs) (length bs) → length (addrs choose L k bs) ≤ 3577 * k
    unfolding addrs
    addrs-le L zero bs few legal = omega arith
    addrs-le L (suc k) bs few legal =
        omega (
          arith,
          length-append (group_addrs choose (take L bs)) (addrs choose L k (drop L bs)),
          group-addrs-le (take L bs) (legal-take bs legal L) (omega (arith, length-take L bs)),
          addrs-le L k (drop L bs) few (legal-drop bs legal L),
        )

    pub store-addrs-le : {area : List ℕ} {stride n L : ℕ} → StoreArea area stride n → GroupLenOk L
        → length (addrs choose L (group_count L n) (blocks_at area stride 0 n)) ≤ 3577 * 65536
    store-addrs-le {area} {stride} {n} {L} store group =
        omega (
          arith,
          addrs-le L (group_count L n) (blocks_at area stride 0 n) group.few (store-legal store),
          group-count-le group.some n,
          store.few,
        )

  -- ---- places

  -- g groups, then k more
  pub addrs-add : (L g k : ℕ) (bs : List BlockAddr) → addrs choose L (g + k) bs ≡ addrs choose L g bs ++ addrs choose L k (drop (L * g) bs)
  unfolding addrs
  addrs-add L zero k bs = rw (zero-add k, mul-zero L)
  addrs-add L (suc g) k bs =
      let e : L * suc g ≡ L + L * g = omega (arith, mul-suc L g) in
      rw (suc-add g k, e, ← (drop-drop (L * g) L bs), append_assoc, addrs-add L g k (drop L bs))

  pub records-add : (L g k offset : ℕ) (bs : List BlockAddr)
      → group_records choose L (g + k) offset bs
      ≡ group_records choose L g offset bs ++ group_records choose L k (offset + length (addrs choose L g bs)) (drop (L * g) bs)
  unfolding group_records addrs
  records-add L zero k offset bs = rw (zero-add k, mul-zero L, add-zero offset)
  records-add L (suc g) k offset bs =
      let e : L * suc g ≡ L + L * g = omega (arith, mul-suc L g) in
      let one = group_addrs choose (take L bs) in
      rw (
        suc-add g k,
        e,
        ← (drop-drop (L * g) L bs),
        append_assoc,
        length-append one (addrs choose L g (drop L bs)),
        ← (add_assoc offset (length one) (length (addrs choose L g (drop L bs)))),
        records-add L g k (offset + length one) (drop L bs),
      )

  module _ {L : ℕ} (some : 1 ≤ L) (bs : List BlockAddr) (G g : ℕ) (inside : g < G) (there : L * g < length bs) where
    -- the blocks of group g
    pub group-cons : take L (drop (L * g) bs) ≡ block_of bs (L * g) ∷ take (L - 1) (drop (suc (L * g)) bs)
    group-cons =
        let e : L ≡ suc (L - 1) = omega arith in
        ap (take L) (drop-cons bs (L * g) (record { start = 0; end = 0; first_ordinal = 0 }) there)
        ∙ ap (λ (n : ℕ). take n (block_of bs (L * g) ∷ drop (suc (L * g)) bs)) e

    -- its record
    pub record-at : (offset : ℕ) → take 36 (drop (36 * g) (group_records choose L G offset bs))
        ≡ meta_bytes (meta_of choose (offset + length (addrs choose L g bs)) (block_of bs (L * g)) (take (L - 1) (drop (suc (L * g)) bs)))
    unfolding group_records group_record
    record-at offset =
        let e : G ≡ g + suc (G - suc g) = omega arith in
        let at = offset + length (addrs choose L g bs) in
        let one = meta_of choose at (block_of bs (L * g)) (take (L - 1) (drop (suc (L * g)) bs)) in
        ap (λ (n : ℕ). take 36 (drop (36 * g) (group_records choose L n offset bs))) e
        ∙ rw (
          records-add L g (suc (G - suc g)) offset bs,
          drop_at (group_records choose L g offset bs) (group_records choose L (suc (G - suc g)) at (drop (L * g) bs)) (36 * g)
              (length-records L g offset bs some (omega arith)),
          group-cons,
        )
        (take_at (meta_bytes one) _ 36 (length-meta_bytes one))

    -- its bits, and what stands before and behind them
    pub bits-behind : addrs choose L G bs ≡ addrs choose L g bs
        ++ (group_addrs choose (take L (drop (L * g) bs)) ++ addrs choose L (G - suc g) (drop L (drop (L * g) bs)))
    unfolding addrs
    bits-behind =
        let e : G ≡ g + suc (G - suc g) = omega arith in
        ap (λ (n : ℕ). addrs choose L n bs) e ∙ addrs-add L g (suc (G - suc g)) bs

    pub bits_at : (rest : List ℕ)
        → take (length (group_addrs choose (take L (drop (L * g) bs)))) (drop (length (addrs choose L g bs)) (addrs choose L G bs ++ rest))
        ≡ group_addrs choose (take L (drop (L * g) bs))
    bits_at rest =
        let one = group_addrs choose (take L (drop (L * g) bs)) in
        let behind = addrs choose L (G - suc g) (drop L (drop (L * g) bs)) in
        rw (
          bits-behind,
          append_assoc (addrs choose L g bs) (one ++ behind) rest,
          drop_at (addrs choose L g bs) ((one ++ behind) ++ rest) (length (addrs choose L g bs)) refl,
          append_assoc one behind rest,
        )
        (take_at one (behind ++ rest) (length one) refl)

    pub bits_inside : length (addrs choose L g bs) + length (group_addrs choose (take L (drop (L * g) bs))) ≤ length (addrs choose L G bs)
    bits_inside =
        let one = group_addrs choose (take L (drop (L * g) bs)) in
        let behind = addrs choose L (G - suc g) (drop L (drop (L * g) bs)) in
        omega (arith, ap length bits-behind, length-append (addrs choose L g bs) (one ++ behind), length-append one behind)

  -- ---- all are bytes

  group-below : (bs : List BlockAddr) → DigitsBelow 8 (group_addrs choose bs)
  unfolding group_addrs addr_bytes
  group-below [] i = omega arith
  group-below (b ∷ bs) i =
      let m = meta_of choose 0 b bs in
      digits_of-below 8 (((m.range_start_nbits + m.first_ordinal_nbits) * length bs + m.range_start_nbits + 7) / 8) (group_number m b bs) i

  pub addrs-below : (L k : ℕ) (bs : List BlockAddr) → DigitsBelow 8 (addrs choose L k bs)
  unfolding addrs
  addrs-below L zero bs i = omega arith
  addrs-below L (suc k) bs i =
      below-append 8 (group_addrs choose (take L bs)) (addrs choose L k (drop L bs)) (group-below (take L bs))
      (addrs-below L k (drop L bs)) i
