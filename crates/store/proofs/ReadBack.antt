-- What was written is read back: the records and address bytes of legal blocks keep rows 15 and 16 and give the blocks, so that
-- equal bytes mean equal blocks.
use Prim.Native.Nat.{ℕ, suc, ◌+◌, ◌-◌, ◌*◌, ◌/◌, ◌%◌, ◌^◌, ◌≤◌, ◌<◌, min}
use mathlib.Core.Path.{◌≡◌, refl, sym, ap, ap₂, ◌∙◌}
use mathlib.Core.Bool.{false}
use mathlib.Core.List.{List, [], ◌∷◌, ◌++◌, append-nil}
use mathlib.Core.Logic.{⊎_elim}
use native.Mathlib.Nat.{zero-add, mul-zero, mul-suc, mod-lt, div-add-mod, le_of_suc-le-suc, eq-zero-or-pos}
use native.Mathlib.Omega.{arith}
use borrow.Author.Tests.{lt-leb}
use lib.ListN.{length, take, drop, length-append, length-take, length-drop}
use lib.Seq.{ext_get_or, get_or-take, get_or-drop, take_at, drop_at}
use Rattle.serialize.specs.Digits.{le_val, le_bytes, DigitsBelow}
use Rattle.serialize.proofs.Digits.{length-digits_of, digits_of-inj, below-drop}
use Rattle.slope.specs.Slope.{best_slope}
use Rattle.slope.proofs.Widths.{best_slope-lt}
use Rattle.group.specs.Blocks.{block_of, blocks_at}
use Rattle.group.specs.Legal.{limit, Legal}
use Rattle.group.specs.Write.{meta_of, group_number, addr_bytes}
use Rattle.group.specs.Read.{block_read}
use Rattle.group.specs.Facts.{Fitting}
use Rattle.group.specs.declared.BlockAddr.{BlockAddr}
use Rattle.group.specs.declared.BlockAddrBlockMetadata.{BlockAddrBlockMetadata}
use Rattle.group.proofs.Legal.{numbers-good}
use Rattle.group.proofs.Blocks.{legal-same, length-blocks_at}
use Rattle.group.proofs.Metadata.{MetaFits, meta-back}
use Rattle.group.proofs.Written.{fits, meta-fits, length-addr_bytes}
use Rattle.group.proofs.Reading.{GroupOk, group-not-bad}
use Rattle.group.proofs.Back.{block_back}
use Rattle.store.specs.Store.{group_count, group_addrs, group_records, addrs, store_bytes}
use Rattle.store.specs.Read.{group_meta, len_of_group, store_block, meta_bad, store_get, StoreOk}
use Rattle.store.specs.Facts.{GroupLenOk, StoreArea}
use Rattle.std.specs.Prelude.{Some}
use Rattle.store.proofs.Groups.{group-count-above, group-count-below, group-count-lt, group-first-lt, group-count-le, legal-take}
use Rattle.store.proofs.Groups.{legal-drop, store-legal}
use Rattle.store.proofs.Stored.{below-append, length-records, addrs-le, group-cons, record-at, bits_at, bits_inside, addrs-below}

-- records and address bytes that give the blocks bs
pub record ReadsBack (L : ℕ) (recs addr : List ℕ) (bs : List BlockAddr) : Type 0 where
  pub groups : (g : ℕ) → L * g < length bs → meta_bad L recs addr (length bs) g ≡ false
  pub blocks : (i : ℕ) → i < length bs → store_block L recs addr i ≡ block_of bs i
  pub gets : (i : ℕ) → i < length bs → store_get L recs addr (length bs) i ≡ Some (block_of bs i)
  pub ok : StoreOk L recs addr (length bs)

-- legal blocks, and few enough, that are written in groups of L with slopes of 32 bits
pub record Storable (choose : List ℕ → ℕ) (L : ℕ) (bs : List BlockAddr) : Type 0 where
  pub slopes : (vs : List ℕ) → choose vs < 2 ^ 32
  pub group : GroupLenOk L
  pub few : length bs ≤ 65536
  pub legal : Legal (block_of bs) (length bs)

-- the blocks of an area, as they are written
pub area-storable : {area : List ℕ} {stride n L : ℕ} → StoreArea area stride n → GroupLenOk L
    → Storable best_slope L (blocks_at area stride 0 n)
area-storable {area} {stride} {n} store group = record {
  slopes = best_slope-lt;
  group = group;
  few = rw (length-blocks_at area stride 0 n) store.few;
  legal = store-legal store;
}

-- ---- one group

module _ {choose : List ℕ → ℕ} {L : ℕ} {bs : List BlockAddr} (given : Storable choose L bs) where
  abbrev count : ℕ
  count = group_count L (length bs)

  -- the bits of g groups are few
  offset-small : (g : ℕ) → g ≤ 65536 → length (addrs choose L g bs) ≤ 3577 * 65536
  offset-small g h = omega (arith, addrs-le choose given.slopes L g bs given.group.few given.legal)

  module _ (g : ℕ) (there : L * g < length bs) where
    abbrev head : BlockAddr
    head = block_of bs (L * g)

    abbrev tail : List BlockAddr
    tail = take (L - 1) (drop (suc (L * g)) bs)

    abbrev meta : BlockAddrBlockMetadata
    meta = meta_of choose (length (addrs choose L g bs)) head tail

    inside : g < count
    inside = group-count-lt given.group.some (length bs) g there

    cons : take L (drop (L * g) bs) ≡ head ∷ tail
    cons = group-cons choose given.group.some bs count g inside there

    length-group : suc (length tail) ≡ len_of_group L (length bs) g
    length-group = sym (ap length cons) ∙ length-take L (drop (L * g) bs) ∙ ap (min L) (length-drop (L * g) bs)

    group_at : (j : ℕ) → j < suc (length tail) → block_of (head ∷ tail) j ≡ block_of bs (L * g + j)
    group_at j h =
        ap (λ (l : List BlockAddr). block_of l j) (sym cons)
        ∙ get_or-take L (drop (L * g) bs) j (record { start = 0; end = 0; first_ordinal = 0 }) (omega (arith, length-group))
        ∙ get_or-drop (L * g) bs j (record { start = 0; end = 0; first_ordinal = 0 })

    group-legal : Legal (block_of (head ∷ tail)) (suc (length tail))
    group-legal = rw cons at (legal-take (drop (L * g) bs) (legal-drop bs given.legal (L * g)) L)

    fit : Fitting meta head tail
    fit = fits head tail group-legal choose (length (addrs choose L g bs)) given.slopes (omega (arith, length-group, given.group.few))

    meta-ok : MetaFits meta
    meta-ok =
        meta-fits head tail group-legal choose (length (addrs choose L g bs))
        (omega (arith, offset-small g (omega (arith, inside, group-count-le given.group.some (length bs), given.few)))) given.slopes
        (omega (arith, length-group, given.group.few))

    -- its record
    group-meta : group_meta (group_records choose L count 0 bs) g ≡ meta
    group-meta =
        meta-back meta (group_records choose L count 0 bs) (36 * g) meta-ok
        (record-at choose given.group.some bs count g inside there 0 ∙ rw (zero-add (length (addrs choose L g bs))))

    -- its bits
    group-bits : group_addrs choose (take L (drop (L * g) bs)) ≡ addr_bytes meta head tail
    unfolding group_addrs addr_bytes group_number meta_of
    group-bits = ap (group_addrs choose) cons

    offset-is : meta.offset ≡ length (addrs choose L g bs)
    unfolding meta_of
    offset-is = refl

    module _ (rest : List ℕ) (bytes : DigitsBelow 8 rest) where
      group-good : meta_bad L (group_records choose L count 0 bs) (addrs choose L count bs ++ rest) (length bs) g ≡ false
      unfolding meta_bad
      group-good =
          let n = given.legal.numbers (L * g) there in
          let start = fit.start in
          let ordinal = fit.ordinal in
          let ok : GroupOk meta (len_of_group L (length bs) g) (length (addrs choose L count bs ++ rest)) = record {
            ordinal-low = fit.ordinals.low;
            ordinal-high = fit.ordinals.high;
            range-low = fit.ranges.low;
            range-high = fit.ranges.high;
            blocks = omega (arith, fit.blocks, length-group);
            inside =
                rw (fit.blocks, ← (length-addr_bytes meta head tail), ← group-bits, offset-is)
                (omega (arith, bits_inside choose given.group.some bs count g inside there, length-append (addrs choose L count bs) rest));
          } in
          rw (
            group-meta,
            group-not-bad meta (len_of_group L (length bs) g) (length (addrs choose L count bs ++ rest)) ok,
            lt-leb limit meta.range_start (omega (arith, n.ordered, n.end-small)),
            lt-leb limit meta.first_ordinal (omega (arith, n.ordinal-small)),
          )

      -- its block j
      block-at : (j : ℕ) → j < len_of_group L (length bs) g
          → block_read (group_meta (group_records choose L count 0 bs) g)
          (le_val (drop (group_meta (group_records choose L count 0 bs) g).offset (addrs choose L count bs ++ rest))) j
          ≡ block_of bs (L * g + j)
      block-at j h =
          let addr = addrs choose L count bs ++ rest in
          let behind =
          below-drop 8 meta.offset addr (below-append 8 (addrs choose L count bs) rest (addrs-below choose L count bs) bytes) in
          let front : take (length (addr_bytes meta head tail)) (drop meta.offset addr) ≡ addr_bytes meta head tail =
          ap (λ (x : ℕ). take (length (addr_bytes meta head tail)) (drop x addr)) offset-is
          ∙ (rw group-bits at (bits_at choose given.group.some bs count g inside there rest)) in
          let last : j < suc (length tail) = omega (arith, length-group) in
          rw group-meta
          (block_back meta head tail fit group-legal (drop meta.offset addr) behind front j (le_of_suc-le-suc last) ∙ group_at j last)

-- ---- all groups

module _ {choose : List ℕ → ℕ} {L : ℕ} {bs : List BlockAddr} (given : Storable choose L bs) where
  -- the group of block i has it
  group_of : (i : ℕ) → i < length bs → (L * (i / L) < length bs) × (i % L < len_of_group L (length bs) (i / L))
  group_of i h =
      let e = div-add-mod i L in
      let l = mod-lt i given.group.some in
      (omega arith, omega arith)

  -- with any bytes behind the address bytes
  pub read-back-rest : (rest : List ℕ) → DigitsBelow 8 rest
      → ReadsBack L (group_records choose L (group_count L (length bs)) 0 bs) (addrs choose L (group_count L (length bs)) bs ++ rest) bs
  unfolding store_get store_block
  read-back-rest rest bytes =
      let recs = group_records choose L (group_count L (length bs)) 0 bs in
      let addr = addrs choose L (group_count L (length bs)) bs ++ rest in
      let groups : (g : ℕ) → L * g < length bs → meta_bad L recs addr (length bs) g ≡ false = λ g h. group-good given g h rest bytes in
      let blocks : (i : ℕ) → i < length bs → store_block L recs addr i ≡ block_of bs i =
      λ i h. block-at given (i / L) (group_of i h).0 rest bytes (i % L) (group_of i h).1 ∙ ap (block_of bs) (div-add-mod i L) in
      record {
        groups = groups;
        blocks = blocks;
        gets = λ i h. rw (groups (i / L) (group_of i h).0, blocks i h, numbers-good (block_of bs i) (given.legal.numbers i h));
        ok = record {
          groups = λ g h. groups g (group-first-lt given.group.some (length bs) g h);
          legal = legal-same blocks given.legal;
        };
      }

  pub read_back : ReadsBack L (group_records choose L (group_count L (length bs)) 0 bs) (addrs choose L (group_count L (length bs)) bs) bs
  read_back = rw (append-nil (addrs choose L (group_count L (length bs)) bs)) at (read-back-rest [] (λ i. omega arith))

  -- how many blocks there are, from the last group's record
  count-back : (k : ℕ) → group_count L (length bs) ≡ suc k
      → length bs ≡ L * k + suc (group_meta (group_records choose L (group_count L (length bs)) 0 bs) k).block_len
  count-back k e =
      let first = group-first-lt given.group.some (length bs) k (omega arith) in
      let above : length bs ≤ L * suc k = rw e at (group-count-above given.group.some (length bs)) in
      rw (group-meta given k first, (fit given k first).blocks) (omega (arith, length-group given k first, mul-suc L k))

-- equal bytes mean equal blocks, however the slopes were chosen
module _ {choose choose' : List ℕ → ℕ} {L : ℕ} {bs bs' : List BlockAddr} (given : Storable choose L bs) (given' : Storable choose' L bs')
    (e : store_bytes choose L bs ≡ store_bytes choose' L bs') where
  abbrev size : ℕ
  size = group_count L (length bs)

  abbrev size' : ℕ
  size' = group_count L (length bs')

  same_count : size ≡ size'
  unfolding store_bytes
  same_count =
      let first : le_bytes 8 (36 * size) ≡ le_bytes 8 (36 * size') =
      sym (take_at (le_bytes 8 (36 * size)) (group_records choose L size 0 bs ++ addrs choose L size bs) 8
      (length-digits_of 8 8 (36 * size)))
      ∙ ap (take 8) e
      ∙ take_at (le_bytes 8 (36 * size')) (group_records choose' L size' 0 bs' ++ addrs choose' L size' bs') 8
      (length-digits_of 8 8 (36 * size')) in
      let few = group-count-le given.group.some (length bs) in
      let few' = group-count-le given.group.some (length bs') in
      let same = digits_of-inj 8 8 (36 * size) (36 * size') (omega (arith, given.few)) (omega (arith, given'.few)) first in
      omega arith

  behind : group_records choose L size 0 bs ++ addrs choose L size bs ≡ group_records choose' L size' 0 bs' ++ addrs choose' L size' bs'
  unfolding store_bytes
  behind =
      sym (drop_at (le_bytes 8 (36 * size)) (group_records choose L size 0 bs ++ addrs choose L size bs) 8
      (length-digits_of 8 8 (36 * size)))
      ∙ ap (drop 8) e
      ∙ drop_at (le_bytes 8 (36 * size')) (group_records choose' L size' 0 bs' ++ addrs choose' L size' bs') 8
      (length-digits_of 8 8 (36 * size'))

  records-long : length (group_records choose L size 0 bs) ≡ 36 * size
  records-long = length-records choose L size 0 bs given.group.some (group-count-below given.group.some (length bs))

  records-long' : length (group_records choose' L size' 0 bs') ≡ 36 * size
  records-long' =
      length-records choose' L size' 0 bs' given.group.some (group-count-below given.group.some (length bs'))
      ∙ ap (λ (x : ℕ). 36 * x) (sym same_count)

  same-records : group_records choose L size 0 bs ≡ group_records choose' L size' 0 bs'
  same-records =
      sym (take_at (group_records choose L size 0 bs) (addrs choose L size bs) (36 * size) records-long)
      ∙ ap (take (36 * size)) behind ∙ take_at (group_records choose' L size' 0 bs') (addrs choose' L size' bs') (36 * size) records-long'

  same-addrs : addrs choose L size bs ≡ addrs choose' L size' bs'
  same-addrs =
      sym (drop_at (group_records choose L size 0 bs) (addrs choose L size bs) (36 * size) records-long)
      ∙ ap (drop (36 * size)) behind ∙ drop_at (group_records choose' L size' 0 bs') (addrs choose' L size' bs') (36 * size) records-long'

  same_length : length bs ≡ length bs'
  same_length =
      ⊎_elim (λ none.
      let above : length bs ≤ L * 0 = rw none at (group-count-above given.group.some (length bs)) in
      let none' : size' ≡ 0 = sym same_count ∙ none in
      let above' : length bs' ≤ L * 0 = rw none' at (group-count-above given.group.some (length bs')) in
      omega (arith, mul-zero L))
      (λ l.
      let one : size ≡ suc (size - 1) = omega arith in
      count-back given (size - 1) one
      ∙ ap (λ (r : List ℕ). L * (size - 1) + suc (group_meta r (size - 1)).block_len) same-records
      ∙ sym (count-back given' (size - 1) (sym same_count ∙ one)))
      (eq-zero-or-pos size)

  pub store-inj : bs ≡ bs'
  store-inj =
      ext_get_or (record { start = 0; end = 0; first_ordinal = 0 }) bs bs' same_length
      (λ i h. sym ((read_back given).blocks i h)
      ∙ ap₂ (λ (r a : List ℕ). store_block L r a i) same-records same-addrs
      ∙ (read_back given').blocks i (omega (arith, same_length)))
