-- The fields of a group of an area, one after the other: what the packer asks and takes at each of them, and what is flushed at the end.
use Prim.Native.Nat.{ℕ, suc, ◌+◌, ◌-◌, ◌*◌, ◌^◌, ◌≤◌, ◌<◌}
use mathlib.Core.Path.{◌≡◌, sym, ap, ◌∙◌}
use mathlib.Core.List.{List}
use native.Mathlib.Omega.{arith}
use lib.ListN.{length, get_or, take}
use lib.Seq.{sets, take_all}
use Rattle.serialize.specs.Digits.{le_bytes}
use Rattle.bitpacker.specs.declared.BitPacker.{BitPacker}
use Rattle.bitpacker.specs.Bits.{bytes_of}
use Rattle.bitpacker.specs.Fields.{group_val, range_bit, ordinal_bit, group_bits}
use Rattle.bitpacker.specs.Packer.{Waiting}
use Rattle.bitpacker.proofs.Packed.{Packed, packed_new, packed-length, packed-wrote, packed-flushed, packed-room-write}
use Rattle.bitpacker.proofs.Packed.{packed-room-flush, Wrote}
use Rattle.bitpacker.proofs.Fields.{group-none, group-range, group-ordinal, group-bits-none, group-bits-ordinal, range-within}
use Rattle.bitpacker.proofs.Fields.{ordinal-within}
use Rattle.slope.specs.Slope.{stored_of}
use Rattle.group.specs.Blocks.{block_of, block_at}
use Rattle.group.specs.Legal.{limit}
use Rattle.group.specs.Write.{range_values, ordinal_values, fields, group_number, addr_bytes}
use Rattle.group.specs.Facts.{Takes, Fitting}
use Rattle.group.specs.declared.BlockAddr.{BlockAddr}
use Rattle.group.specs.declared.BlockAddrBlockMetadata.{BlockAddrBlockMetadata}
use Rattle.group.specs.declared.line.Line.{Line}
use Rattle.group.proofs.Limit.{limit-high}
use Rattle.group.proofs.Blocks.{length-blocks_at, length-group, group_at, group-legal, group-start-le, group-end-le, group-ordinal-le}
use Rattle.group.proofs.Written.{length-range_values, length-ordinal_values, length_fields, fields_at, takes-below, range-start-at}
use Rattle.group.proofs.Written.{range-end-at, ordinal-at, length-addr_bytes}
use Rattle.group_write.specs.Group.{first_of, rest_of}
use Rattle.group_write.specs.declared.AreaGroup.{AreaGroup}

-- ---- the packer

-- what `write` requires of a value of w bits, and what `flush` ensures
abbrev pub Room : BitPacker → List ℕ → ℕ → ℕ → Type 0
Room p l v w = Waiting p × (w ≤ 56) × (v < 2 ^ w) × (8 * p.written + p.filled + w ≤ 8 * length l)

abbrev pub Flushed : BitPacker → List ℕ → ℕ → List ℕ → Type 0
Flushed p l r l' = (r ≡ p.written + bytes_of p.filled) × (l' ≡ sets l p.written (le_bytes (bytes_of p.filled) p.buffer))

-- it took n ranges and n ordinals, and one range more
abbrev pub Pairs : ℕ → ℕ → List ℕ → List ℕ → List ℕ → List ℕ → BitPacker → ℕ → Type 0
Pairs r o rs os d l p n = Packed d l p (range_bit r o n) (group_val r o (take n rs) (take n os))

abbrev Half : ℕ → ℕ → List ℕ → List ℕ → List ℕ → List ℕ → BitPacker → ℕ → Type 0
Half r o rs os d l p n = Packed d l p (ordinal_bit r o n) (group_val r o (take (suc n) rs) (take n os))

module _ (r o : ℕ) (rs os : List ℕ) (n v : ℕ) {d l l' : List ℕ} {p p' : BitPacker} where
  range-wrote : Pairs r o rs os d l p n → (v ≡ get_or rs n 0) × (v < 2 ^ r) → Wrote p l v r p' l' → Half r o rs os d l' p' n
  range-wrote k is e = rw (is.0, group-range r o n rs (take n os)) at (packed-wrote k v r is.1 e)

  ordinal-wrote : Half r o rs os d l p n → (v ≡ get_or os n 0) × (v < 2 ^ o) → Wrote p l v o p' l' → Pairs r o rs os d l' p' (suc n)
  ordinal-wrote k is e = rw (is.0, group-ordinal r o n (take (suc n) rs) os, group-bits-ordinal r o n) at (packed-wrote k v o is.1 e)

-- behind any field that was written
pub written-on : {d l l' : List ℕ} {p p' : BitPacker} {b N : ℕ} (v w : ℕ) → Packed d l p b N → Wrote p l v w p' l' → v < 2 ^ w
    → Waiting p' × (8 * p'.written + p'.filled ≡ 8 * p.written + p.filled + w) × (length l' ≡ length l)
written-on v w k e small =
    let k' = packed-wrote k v w small e in
    (k'.waiting, omega (arith, k'.count, k.count), packed-length k' ∙ sym (packed-length k))

-- a range of r bits and an ordinal of o bits fit, in whatever order
pub record BothFit (p : BitPacker) (l : List ℕ) (v r v' o : ℕ) : Type 0 where
  pub range-few : r ≤ 56
  pub ordinal-few : o ≤ 56
  pub range-small : v < 2 ^ r
  pub ordinal-small : v' < 2 ^ o
  pub room : 8 * p.written + p.filled + r + o ≤ 8 * length l

-- ---- a value and its line

-- value v is that of point i, of which x is stored
record Turn (line : Line) (v i x : ℕ) : Type 0 where
  above : line.first ≤ v
  small : v - line.first < 2 ^ 62
  early : i ≤ 65536
  shifted : line.slope * i ≤ v - line.first + 2 ^ (line.nbits - 1)
  is : stored_of line.slope line.nbits i (v - line.first) ≡ x
  fits : x < 2 ^ line.nbits

-- what `stored` requires, and what is known of its result
abbrev pub Asked : Line → ℕ → ℕ → Type 0
Asked line v i = (line.first ≤ v) × (v - line.first < 2 ^ 62) × (i ≤ 65536) × (line.slope * i ≤ v - line.first + 2 ^ (line.nbits - 1))

asked : {line : Line} {v i x : ℕ} → Turn line v i x → Asked line v i
asked t = (t.above, t.small, t.early, t.shifted)

result : {line : Line} {v i x s : ℕ} → Turn line v i x → s ≡ stored_of line.slope line.nbits i (v - line.first) → (s ≡ x)
    × (s < 2 ^ line.nbits)
result t e = (e ∙ t.is, rw (e ∙ t.is) t.fits)

turn : (line : Line) (v i : ℕ) (vs : List ℕ) → Takes line.slope line.nbits vs → 1 ≤ i → i ≤ length vs → i ≤ 256
    → get_or vs (i - 1) 0 ≡ v - line.first
    → line.first ≤ v → v < limit → Turn line v i (get_or (fields line.slope line.nbits 1 vs) (i - 1) 0)
turn line v i vs t some there few e above small =
    let k : suc (i - 1) ≡ i = omega arith in
    let h : i - 1 < length vs = omega arith in
    record {
      above = above;
      small = omega (arith, limit-high);
      early = omega arith;
      shifted = rw (k, e) at (t.shifted (i - 1) h);
      is = sym (rw (k, e) at (fields_at line.slope line.nbits vs (i - 1) h));
      fits = takes-below line.slope line.nbits vs t (i - 1);
    }

-- ---- a group and its two lines

abbrev pub all_ranges : AreaGroup → List ℕ
all_ranges g = range_values (first_of g).start (first_of g) (rest_of g)

abbrev pub all_ordinals : AreaGroup → List ℕ
all_ordinals g = ordinal_values (first_of g).first_ordinal (rest_of g)

-- the fields of its ranges, and of its ordinals
abbrev pub range_fields : AreaGroup → Line → List ℕ
range_fields g line = fields line.slope line.nbits 1 (all_ranges g)

abbrev pub ordinal_fields : AreaGroup → Line → List ℕ
ordinal_fields g line = fields line.slope line.nbits 1 (all_ordinals g)

-- lines that fit the group
record Lines (g : AreaGroup) (ranges ordinals : Line) : Type 0 where
  start : ranges.first ≡ (first_of g).start
  ordinal : ordinals.first ≡ (first_of g).first_ordinal
  takes-ranges : Takes ranges.slope ranges.nbits (all_ranges g)
  takes-ordinals : Takes ordinals.slope ordinals.nbits (all_ordinals g)

abbrev pub IsLine : Line → ℕ → ℕ → ℕ → Type 0
IsLine line first slope nbits = (line.first ≡ first) × (line.slope ≡ slope) × (line.nbits ≡ nbits)

lines-fit : {g : AreaGroup} {m : BlockAddrBlockMetadata} {ranges ordinals : Line} → Fitting m (first_of g) (rest_of g)
    → IsLine ranges m.range_start m.range_start_slope m.range_start_nbits
    → IsLine ordinals m.first_ordinal m.first_ordinal_slope m.first_ordinal_nbits → Lines g ranges ordinals
lines-fit fit r o = record {
  start = r.0 ∙ fit.start;
  ordinal = o.0 ∙ fit.ordinal;
  takes-ranges = rw (r.1, r.2) fit.ranges;
  takes-ordinals = rw (o.1, o.2) fit.ordinals;
}

-- the packer took the fields of the blocks before block i, and the range of block i besides
abbrev pub Before : AreaGroup → Line → Line → List ℕ → List ℕ → BitPacker → ℕ → Type 0
Before g ranges ordinals d l p i =
    (1 ≤ i) × (i ≤ g.count) × Pairs ranges.nbits ordinals.nbits (range_fields g ranges) (ordinal_fields g ordinals) d l p (i - 1)

abbrev Within : AreaGroup → Line → Line → List ℕ → List ℕ → BitPacker → ℕ → Type 0
Within g ranges ordinals d l p i = Half ranges.nbits ordinals.nbits (range_fields g ranges) (ordinal_fields g ordinals) d l p (i - 1)

module _ (g : AreaGroup) (ranges ordinals : Line) where
  pub before-none : (d : List ℕ) {p : BitPacker} → (p.buffer ≡ 0) × (p.filled ≡ 0) × (p.written ≡ 0) → Before g ranges ordinals d d p 1
  before-none d e =
      (omega arith, g.ok.some, rw (group-none ranges.nbits ordinals.nbits, group-bits-none ranges.nbits ordinals.nbits) (packed_new d e))

module _ {g : AreaGroup} {ranges ordinals : Line} (lines : Lines g ranges ordinals) where
  -- block i, of those behind the first
  behind : (i : ℕ) → 1 ≤ i → i < g.count → block_of (rest_of g) (i - 1) ≡ block_at g.area.now g.stride (g.first + i)
  behind i some there = group_at g.ok (suc (i - 1)) (omega arith) ∙ ap (λ (x : ℕ). block_at g.area.now g.stride (g.first + x)) (omega arith)

  module _ (i : ℕ) (some : 1 ≤ i) (there : i < g.count) {b : BlockAddr} (is : b ≡ block_at g.area.now g.stride (g.first + i)) where
    range-turn : Turn ranges b.start i (get_or (range_fields g ranges) (i - 1) 0)
    range-turn =
        let n = length-group g.ok in
        turn ranges b.start i (all_ranges g) lines.takes-ranges some
        (omega (arith, length-range_values (first_of g).start (first_of g) (rest_of g)))
        (omega (arith, g.ok.few))
        (range-start-at (first_of g).start (first_of g) (rest_of g) (i - 1) (omega arith) ∙ rw (lines.start, behind i some there, is))
        (rw (lines.start, is) (group-start-le g.ok i there))
        (rw is (omega (arith, g.ok.legal.numbers i there)))

    ordinal-turn : Turn ordinals b.first_ordinal i (get_or (ordinal_fields g ordinals) (i - 1) 0)
    ordinal-turn =
        let n = length-group g.ok in
        turn ordinals b.first_ordinal i (all_ordinals g) lines.takes-ordinals some
        (omega (arith, length-ordinal_values (first_of g).first_ordinal (rest_of g)))
        (omega (arith, g.ok.few))
        (ordinal-at (first_of g).first_ordinal (rest_of g) (i - 1) (omega arith) ∙ rw (lines.ordinal, behind i some there, is))
        (rw (lines.ordinal, is) (group-ordinal-le g.ok i there))
        (rw is (omega (arith, g.ok.legal.numbers i there)))

  last_turn : {b : BlockAddr} → b ≡ block_at g.area.now g.stride (g.first + (g.count - 1))
      → Turn ranges b.end g.count (get_or (range_fields g ranges) (g.count - 1) 0)
  last_turn {b} is =
      let n = length-group g.ok in
      let there : g.count - 1 < g.count = omega (arith, g.ok.some) in
      turn ranges b.end g.count (all_ranges g) lines.takes-ranges g.ok.some
      (omega (arith, length-range_values (first_of g).start (first_of g) (rest_of g))) g.ok.few
      (range-end-at (first_of g) (rest_of g) (group-legal g.ok) (first_of g).start (g.count - 1) (rw n there)
      ∙ rw (lines.start, group_at g.ok (g.count - 1) there, is))
      (rw (lines.start, is) (group-end-le g.ok (g.count - 1) there))
      (rw is (omega (arith, g.ok.legal.numbers (g.count - 1) there)))

module _ (g : AreaGroup) (m : BlockAddrBlockMetadata) (ranges ordinals : Line) (d : List ℕ)
    (pre : Fitting m (first_of g) (rest_of g) × (length (addr_bytes m (first_of g) (rest_of g)) ≤ length d))
    (r : IsLine ranges m.range_start m.range_start_slope m.range_start_nbits)
    (o : IsLine ordinals m.first_ordinal m.first_ordinal_slope m.first_ordinal_nbits) where
  lines : Lines g ranges ordinals
  lines = lines-fit pre.0 r o

  bits_fit : group_bits ranges.nbits ordinals.nbits (g.count - 1) ≤ 8 * length d
  bits_fit =
      let n = length-addr_bytes m (first_of g) (rest_of g) in
      rw (r.2, o.2) (omega (arith, pre.1, rw (length-blocks_at g.area.now g.stride (g.first + 1) (g.count - 1)) at n))

  -- a turn of the loop
  module _ (i : ℕ) (there : i < g.count) {b : BlockAddr} (is : b ≡ block_at g.area.now g.stride (g.first + i))
      {l : List ℕ} {p : BitPacker} (k : Before g ranges ordinals d l p i) where
    pub range-asked : Asked ranges b.start i
    range-asked = asked (range-turn lines i k.0 there is)

    pub ordinal-asked : Asked ordinals b.first_ordinal i
    ordinal-asked = asked (ordinal-turn lines i k.0 there is)

    module _ {v : ℕ} (e : v ≡ stored_of ranges.slope ranges.nbits i (b.start - ranges.first))
        {v' : ℕ} (e' : v' ≡ stored_of ordinals.slope ordinals.nbits i (b.first_ordinal - ordinals.first)) where
      pub both-fit : BothFit p l v ranges.nbits v' ordinals.nbits
      both-fit = record {
        range-few = ranges.ok.2;
        ordinal-few = ordinals.ok.2;
        range-small = (result (range-turn lines i k.0 there is) e).1;
        ordinal-small = (result (ordinal-turn lines i k.0 there is) e').1;
        room =
            let within = ordinal-within ranges.nbits ordinals.nbits (i - 1) (g.count - 1) (omega (arith, k.0)) in
            omega (arith, bits_fit, within, packed-length k.2, k.2.count);
      }

      module _ {p' : BitPacker} {l' : List ℕ} (w : Wrote p l v ranges.nbits p' l') where
        within : Within g ranges ordinals d l' p' i
        within =
            range-wrote ranges.nbits ordinals.nbits (range_fields g ranges) (ordinal_fields g ordinals) (i - 1) v k.2
            (result (range-turn lines i k.0 there is) e) w

        pub turn-done : {p″ : BitPacker} {l″ : List ℕ} → Wrote p' l' v' ordinals.nbits p″ l″ → Before g ranges ordinals d l″ p″ (i + 1)
        turn-done w' =
            let n : i + 1 - 1 ≡ suc (i - 1) = omega (arith, k.0) in (
              omega arith,
              omega arith,
              rw n
                  (ordinal-wrote ranges.nbits ordinals.nbits (range_fields g ranges) (ordinal_fields g ordinals) (i - 1) v' within
                  (result (ordinal-turn lines i k.0 there is) e') w'),
            )

  -- behind the loop
  module _ (i : ℕ) (left : g.count ≤ i) {b : BlockAddr} (is : b ≡ block_at g.area.now g.stride (g.first + (g.count - 1)))
      {l : List ℕ} {p : BitPacker} (k : Before g ranges ordinals d l p i) where
    pub last-asked : Asked ranges b.end g.count
    last-asked = asked (last_turn lines is)

    module _ {v : ℕ} (e : v ≡ stored_of ranges.slope ranges.nbits g.count (b.end - ranges.first)) where
      pub last-room : Room p l v ranges.nbits
      last-room =
          packed-room-write k.2 v ranges.nbits ranges.ok.2 (result (last_turn lines is) e).1
          (omega (arith, bits_fit, range-within ranges.nbits ordinals.nbits (i - 1) (g.count - 1) (omega (arith, k.1))))

      module _ {p' : BitPacker} {l' : List ℕ} (w : Wrote p l v ranges.nbits p' l') where
        whole : Packed d l' p' (group_bits m.range_start_nbits m.first_ordinal_nbits (g.count - 1))
            (group_number m (first_of g) (rest_of g))
        unfolding group_number
        whole =
            let n = length-group g.ok in
            let n' : i ≡ g.count = omega (arith, k.1) in
            let half : Half ranges.nbits ordinals.nbits (range_fields g ranges) (ordinal_fields g ordinals) d l' p' (g.count - 1) =
            range-wrote ranges.nbits ordinals.nbits (range_fields g ranges) (ordinal_fields g ordinals) (g.count - 1) v (rw n' at k.2)
            (result (last_turn lines is) e) w in
            let all-rs : take (suc (g.count - 1)) (range_fields g ranges) ≡ range_fields g ranges =
            take_all (suc (g.count - 1)) (range_fields g ranges)
            (omega (
              arith,
              length_fields ranges.slope ranges.nbits 1 (all_ranges g),
              length-range_values (first_of g).start (first_of g) (rest_of g),
            )) in
            let all-os : take (g.count - 1) (ordinal_fields g ordinals) ≡ ordinal_fields g ordinals =
            take_all (g.count - 1) (ordinal_fields g ordinals)
            (omega (
              arith,
              length_fields ordinals.slope ordinals.nbits 1 (all_ordinals g),
              length-ordinal_values (first_of g).first_ordinal (rest_of g),
            )) in
            rw (← r.1, ← r.2, ← o.1, ← o.2) (rw (all-rs, all-os) at half)

        pub flush-room : Waiting p' × (p'.written + bytes_of p'.filled ≤ length l')
        flush-room = packed-room-flush whole (rw (r.2, o.2) at bits_fit)

        pub flush-done : {n : ℕ} {l″ : List ℕ} → Flushed p' l' n l″
            → (n ≡ length (addr_bytes m (first_of g) (rest_of g))) × (l″ ≡ sets d 0 (addr_bytes m (first_of g) (rest_of g)))
        unfolding addr_bytes
        flush-done f =
            rw (length-addr_bytes m (first_of g) (rest_of g), length-blocks_at g.area.now g.stride (g.first + 1) (g.count - 1))
            (packed-flushed whole f)
