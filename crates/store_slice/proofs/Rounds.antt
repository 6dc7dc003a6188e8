-- The groups of a list that hits no row, one after the other: what is held of group g, what is planned before it, what is left to write.
use Prim.Native.Nat.{ℕ, suc, ◌+◌, ◌-◌, ◌*◌, ◌≤◌, ◌<◌, min}
use mathlib.Core.Path.{◌≡◌, refl, sym, ap, ◌∙◌}
use mathlib.Core.List.{List, ◌++◌, append-nil}
use native.Mathlib.Nat.{add-zero, sub-zero, mul-zero, add_assoc, mul-suc, mul-add}
use native.Mathlib.Numerals.{add-one}
use native.Mathlib.Omega.{arith}
use lib.ListN.{length, take, drop, length-take, length-drop}
use lib.Seq.{sets, length-sets, sets-eq, take_at, drop-drop, get_or-take, get_or-drop}
use Rattle.layout.specs.Layout.{meta_len}
use Rattle.serialize.specs.Digits.{le_bytes}
use Rattle.slope.specs.Slope.{best_slope}
use Rattle.slope.proofs.Widths.{best_slope-lt}
use Rattle.group.specs.declared.BlockAddr.{BlockAddr}
use Rattle.group.specs.Blocks.{no_block, block_of, blocks_at}
use Rattle.group.specs.Facts.{GroupArea}
use Rattle.group.proofs.Blocks.{blocks_at-at, legal-same}
use Rattle.store.specs.Facts.{GroupLenOk}
use Rattle.store.specs.declared.grouping.Grouping.{Grouping}
use Rattle.store.specs.Plans.{group_plan, plans, StandsAt}
use Rattle.store.specs.Read.{len_of_group}
use Rattle.store.specs.Store.{group_count, group_record, group_addrs, group_records, addrs, store_bytes}
use Rattle.store.proofs.Groups.{group-count-le, group-count-below, group-first-lt, legal-part}
use Rattle.store.proofs.Plans.{plans-add, length-plans, length-group_plan, standing-front, standing-rest}
use Rattle.store.proofs.Stored.{addrs-le, sets-turn, sets-store, length-record, length-records, length-store_bytes, bits_inside}
use Rattle.store_slice.specs.Slice.{block_list_no}
use Rattle.store_slice.proofs.Kept.{records-few, records-legal}
use Rattle.store_slice.proofs.Taken.{bits-add}

-- ---- what is planned

-- the groups before group g, whose bits take so many bytes
pub record Planned (L : ℕ) (bs : List BlockAddr) (kept : List ℕ) (bits g : ℕ) : Type 0 where
  pub stand : StandsAt kept 0 (plans best_slope L g bs)
  pub size : bits ≡ length (addrs best_slope L g bs)

pub planned-none : (L : ℕ) (bs : List BlockAddr) (kept : List ℕ) → Planned L bs kept 0 0
unfolding plans addrs
planned-none L bs kept = record { stand = refl; size = refl }

-- a run behind what stands at the front
standing-behind : (d a b : List ℕ) (i : ℕ) → length a ≡ i → i + length b ≤ length d → StandsAt d 0 a → StandsAt (sets d i b) 0 (a ++ b)
standing-behind d a b i size room front =
    let is : take i d ≡ a = ap (λ (k : ℕ). take k d) (sym size) ∙ front in
    let all : sets d i b ≡ (a ++ b) ++ drop (i + length b) d =
    sets-eq b d i room ∙ ap (λ (l : List ℕ). (l ++ b) ++ drop (i + length b) d) is in
    ap (take (length (a ++ b))) all ∙ take_at (a ++ b) (drop (i + length b) d) (length (a ++ b)) refl

-- ---- what is left to write

-- with the groups before group g written, whose bits take `offset` bytes
pub record Rest (L : ℕ) (bs : List BlockAddr) (out₀ out : List ℕ) (offset g : ℕ) : Type 0 where
  pub size : offset ≡ length (addrs best_slope L g bs)
  pub long : length out ≡ length out₀
  pub left : sets (sets out (8 + meta_len * g) (group_records best_slope L (group_count L (length bs) - g) offset (drop (L * g) bs)))
      (8 + meta_len * group_count L (length bs) + offset)
      (addrs best_slope L (group_count L (length bs) - g) (drop (L * g) bs))
      ≡ sets out₀ 0 (store_bytes best_slope L bs)

module _ {L : ℕ} (len : GroupLenOk L) (bs : List BlockAddr) where
  -- a group's bits take at most 3,577 bytes
  pub few-bits : block_list_no bs ≡ 0 → (k : ℕ) → length (addrs best_slope L k bs) ≤ 3577 * k
  few-bits rows k = addrs-le best_slope best_slope-lt L k bs len.few (records-legal bs rows)

  -- as the code counts the groups
  module _ {groups : ℕ} {grouping : Grouping} (e : (grouping.n ≡ length bs) × (grouping.group_len ≡ L))
      (counted : groups ≡ group_count grouping.group_len grouping.n) where
    pub groups-are : groups ≡ group_count L (length bs)
    groups-are = rw (e.1, e.0) at counted

    pub groups-few : block_list_no bs ≡ 0 → groups ≤ 65536
    groups-few rows = omega (arith, groups-are, group-count-le len.some (length bs), records-few bs rows)

    -- the length, once the groups are planned
    pub planned-length : {bits : ℕ} → bits ≡ length (addrs best_slope L (group_count L (length bs)) bs)
        → 8 + meta_len * groups + bits ≡ length (store_bytes best_slope L bs)
    planned-length f = omega (arith, groups-are, length-store_bytes best_slope L bs len.some)

  pub rest-all : (out₀ out : List ℕ) → out ≡ sets out₀ 0 (le_bytes 8 (meta_len * group_count L (length bs))) → Rest L bs out₀ out 0 0
  unfolding addrs
  rest-all out₀ out head = record {
    size = refl;
    long = ap length head ∙ length-sets out₀ 0 (le_bytes 8 (meta_len * group_count L (length bs)));
    left =
        rw (mul-zero L, sub-zero (group_count L (length bs)), add-zero (8 + meta_len * group_count L (length bs)), head)
        (sets-store best_slope out₀ L bs len.some);
  }

  pub rest-none : {out₀ out : List ℕ} {offset g : ℕ} → group_count L (length bs) ≤ g → Rest L bs out₀ out offset g
      → out ≡ sets out₀ 0 (store_bytes best_slope L bs)
  unfolding group_records addrs
  rest-none {g = g} none rest =
      let e : group_count L (length bs) - g ≡ 0 = omega arith in
      rw e at rest.left

-- ---- a group in the window

module _ {L : ℕ} (len : GroupLenOk L) (bs : List BlockAddr) (rows : block_list_no bs ≡ 0) {g : ℕ} (there : g < group_count L (length bs))
  where
    pub begins : L * g < length bs
    begins = group-first-lt len.some (length bs) g there

    -- where the window holds its records
    module _ (window : List ℕ) {count : ℕ} (counted : count ≡ len_of_group L (length bs) g) (room : 3 * min L (length bs) ≤ length window)
        (holds : blocks_at window 3 0 count ≡ take count (drop (L * g) bs)) where
      -- a group of legal blocks
      pub window-area : GroupArea window 3 0 count
      window-area = record {
        some = omega (arith, begins, len.some);
        few = omega (arith, len.few);
        wide = omega arith;
        inside = omega arith;
        legal =
            legal-same (λ i h.
            sym (blocks_at-at window 3 0 count i h)
            ∙ ap (λ (l : List BlockAddr). block_of l i) holds
            ∙ get_or-take count (drop (L * g) bs) i no_block h
            ∙ get_or-drop (L * g) bs i no_block) (legal-part (records-legal bs rows) (L * g) count (omega (arith, begins)));
      }

-- a group that is group g of a list that hits no row
pub record Held (L : ℕ) (bs group : List BlockAddr) (g : ℕ) : Type 0 where
  pub len : GroupLenOk L
  pub rows : block_list_no bs ≡ 0
  pub there : g < group_count L (length bs)
  pub same : group ≡ take L (drop (L * g) bs)

-- as the code counts the groups
pub held : {L : ℕ} {bs group : List BlockAddr} {g groups : ℕ} {grouping : Grouping} → GroupLenOk L → block_list_no bs ≡ 0
    → (grouping.n ≡ length bs) × (grouping.group_len ≡ L) → groups ≡ group_count grouping.group_len grouping.n → g < groups
    → group ≡ take L (drop (L * g) bs) → Held L bs group g
held len rows e groups there same = record { len = len; rows = rows; there = rw (groups, e.0, e.1) at there; same = same }

module _ {L : ℕ} {bs group : List BlockAddr} {g : ℕ} (held : Held L bs group g) where
  abbrev G : ℕ
  G = group_count L (length bs)

  abbrev next : List BlockAddr
  next = take L (drop (L * g) bs)

  same : group ≡ next
  same = held.same

  first : L * g < length bs
  first = begins held.len bs held.rows held.there

  some : 0 < length next
  some = rw (length-take L (drop (L * g) bs), length-drop (L * g) bs) (omega (arith, first, held.len.some))

  -- the bits with this group's are few
  pub more-bits : {kept : List ℕ} {bits : ℕ} → Planned L bs kept bits g
      → (r : ℕ) → r ≡ length (group_addrs best_slope group) → bits + r ≤ 3577 * G
  more-bits planned r e =
      let here = ap (λ (l : List BlockAddr). length (group_addrs best_slope l)) same in
      omega (arith, planned.size, e, here, bits-add L g bs, few-bits held.len bs held.rows (g + 1), held.there)

  before-size : length (plans best_slope L g bs) ≡ 2 * g
  before-size = length-plans best_slope L g bs held.len.some (omega (arith, first))

  pub planned-next : {kept : List ℕ} {bits : ℕ} → 2 * G ≤ length kept → Planned L bs kept bits g → (kept' : List ℕ) (r : ℕ)
      → (r ≡ length (group_addrs best_slope group)) × (kept' ≡ sets kept (2 * g) (group_plan best_slope group))
      → Planned L bs kept' (bits + r) (g + 1)
  unfolding plans
  planned-next {kept} {bits} fits planned kept' r put =
      let one : length (group_plan best_slope next) ≡ 2 = length-group_plan best_slope next some in
      let room : 2 * g + length (group_plan best_slope next) ≤ length kept = omega (arith, held.there) in
      record {
        stand =
            rw (put.1, same, plans-add best_slope L g 1 bs, append-nil)
            (standing-behind kept (plans best_slope L g bs) (group_plan best_slope next) (2 * g) before-size room planned.stand);
        size = rw (put.0, same, planned.size) (bits-add L g bs);
      }

  pub standing : (kept : List ℕ) → StandsAt kept 0 (plans best_slope L G bs) → StandsAt kept (2 * g) (group_plan best_slope group)
  unfolding plans
  standing kept planned =
      let k = G - (g + 1) in
      let one = group_plan best_slope next in
      let before = plans best_slope L g bs in
      let rest = plans best_slope L k (drop L (drop (L * g) bs)) in
      let size : 0 + length before ≡ 2 * g = omega (arith, before-size) in
      let groups : G ≡ g + suc k = omega (arith, held.there) in
      let all : plans best_slope L G bs ≡ before ++ (one ++ rest) =
      ap (λ (i : ℕ). plans best_slope L i bs) groups ∙ plans-add best_slope L g (suc k) bs in
      let behind = standing-rest kept 0 before (one ++ rest) (rw all at planned) in
      rw same (standing-front kept (2 * g) one rest (rw size at behind))

  module _ {out₀ out : List ℕ} {offset : ℕ} (fits : length (store_bytes best_slope L bs) ≤ length out₀)
      (rest : Rest L bs out₀ out offset g) where
    pub write-room : 8 + meta_len * G + offset + length (group_addrs best_slope group) ≤ length out
    write-room =
        rw same
        (omega (
          arith,
          rest.size,
          rest.long,
          length-store_bytes best_slope L bs held.len.some,
          bits_inside best_slope held.len.some bs G g held.there first,
        ))

    -- the place of the group's bits, and what is written of it
    abbrev at : ℕ
    at = 8 + meta_len * G + offset

    abbrev one : List ℕ
    one = group_record best_slope offset next

    abbrev bits : List ℕ
    bits = group_addrs best_slope next

    abbrev k : ℕ
    k = G - (g + 1)

    abbrev behind : List BlockAddr
    behind = drop (L * (g + 1)) bs

    abbrev records : List ℕ
    records = group_records best_slope L k (offset + length bits) behind

    abbrev others : List ℕ
    others = addrs best_slope L k behind

    left-groups : G - g ≡ suc k
    left-groups = omega (arith, held.there)

    behind-is : drop L (drop (L * g) bs) ≡ behind
    behind-is =
        let e : L * g + L ≡ L * (g + 1) = rw (add-one g) (omega (arith, mul-suc L g)) in
        drop-drop L (L * g) bs ∙ ap (λ (i : ℕ). drop i bs) e

    one_size : length one ≡ 36
    one_size = length-record best_slope offset next some

    records-size : length records ≡ 36 * k
    records-size =
        let e : L * G ≡ L * (g + 1) + L * k = ap (λ (i : ℕ). L * i) (omega (arith, held.there)) ∙ mul-add L (g + 1) k in
        length-records best_slope L k (offset + length bits) behind held.len.some
        (rw (length-drop (L * (g + 1)) bs) (omega (arith, e, group-count-below held.len.some (length bs))))

    before-left : sets (sets out (8 + meta_len * g) (one ++ records)) at (bits ++ others) ≡ sets out₀ 0 (store_bytes best_slope L bs)
    unfolding group_records addrs
    before-left = rw (left-groups, behind-is) at rest.left

    pub rest-next : (r : ℕ) (out' : List ℕ) → (r ≡ length (group_addrs best_slope group))
        × (out' ≡ sets (sets out (8 + meta_len * g) (group_record best_slope offset group)) at (group_addrs best_slope group))
        → Rest L bs out₀ out' (offset + r) (g + 1)
    rest-next r out' written =
        let place : 8 + meta_len * (g + 1) ≡ 8 + meta_len * g + length one = omega (arith, one_size) in
        let now : out' ≡ sets (sets out (8 + meta_len * g) one) at bits = written.1 ∙ rw same refl in
        let long = length-sets (sets out (8 + meta_len * g) one) at bits ∙ length-sets out (8 + meta_len * g) one in
        let apart : 8 + meta_len * g + length one + length records ≤ at = omega (arith, one_size, records-size, held.there) in
        record {
          size = rw (written.0, same, rest.size) (bits-add L g bs);
          long = ap length now ∙ long ∙ rest.long;
          left =
              rw (written.0, same, now, place, ← (add_assoc (8 + meta_len * G) offset (length bits)))
              (sets-turn out one records bits others (8 + meta_len * g) at apart ∙ before-left);
        }
