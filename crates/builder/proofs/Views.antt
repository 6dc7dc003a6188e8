-- Row 1 as a test and as facts, and what the areas show of the last block.
use Prim.Native.Nat.{ℕ, ◌+◌, ◌-◌, ◌*◌, ◌≤◌, ◌<◌}
use mathlib.Core.Path.{◌≡◌}
use mathlib.Core.List.{List, []}
use mathlib.Core.Bool.{true, false, ◌||◌}
use native.Mathlib.Omega.{arith}
use lib.Dec.{eqb, ltb}
use lib.ListN.{length}
use borrow.Author.Tests.{eqb-true, eqb-false, eq-eqb, ne_eqb, lt-ltb, le-ltb, ltb-true, ltb-false}
use borrow.Table.Steps.{cases}
use Rattle.layout.specs.Layout.{max_blocks}
use Rattle.std.proofs.lemmas.Bool.{or_parts}
use Rattle.builder.specs.View.{stride, KeyPlace, missing_place, View}
use Rattle.builder.specs.Rows.{record_bad, RecordOk, area_bad, AreaOk, room_bad}
use Rattle.builder.specs.Area.{area_place, area_block, area_key, area_view}

-- the room after an offset, asked without a sum that may wrap
ltb-sub : (room off len : ℕ) → off ≤ room → ltb (room - off) len ≡ ltb room (off + len)
ltb-sub room off len h =
    cases (ltb room (off + len))
    (λ e. rw e (lt-ltb (room - off) len (omega (arith, ltb-true))))
    (λ e. rw e (le-ltb (room - off) len (omega (arith, ltb-false))))

-- ---- a record by itself

module _ (room : ℕ) (place : KeyPlace) where
  pub record-ok : record_bad room place ≡ false → RecordOk room place
  unfolding record_bad
  record-ok e = record { within = ltb-false room (place.offset + place.len) e }

  pub record-good : RecordOk room place → record_bad room place ≡ false
  unfolding record_bad
  record-good k = le-ltb room (place.offset + place.len) k.within

pub none-ok : (room : ℕ) → RecordOk room missing_place
none-ok room = record { within = omega arith }

-- ---- row 1

pub area-ok : (v : View) → area_bad v ≡ false → AreaOk v
unfolding area_bad
area-ok v e =
    let p = or_parts (ltb max_blocks v.n) (ltb v.room (stride * v.n) || record_bad v.key_room v.place) e in
    let q = or_parts (ltb v.room (stride * v.n)) (record_bad v.key_room v.place) p.1 in
    record {
      few = ltb-false max_blocks v.n p.0;
      inside = ltb-false v.room (stride * v.n) q.0;
      last = record-ok v.key_room v.place q.1;
    }

pub area-good : (v : View) → AreaOk v → area_bad v ≡ false
unfolding area_bad
area-good v ok =
    simp (
      le-ltb max_blocks v.n ok.few,
      le-ltb v.room (stride * v.n) ok.inside,
      record-good v.key_room v.place ok.last,
    )

module _ (n : ℕ) (B K : List ℕ) where
  -- the tests of row 1, as the code tries them
  pub area-many : max_blocks < n → true ≡ area_bad (area_view n B K)
  unfolding area_bad area_view
  area-many h = simp (lt-ltb max_blocks n h)

  pub area-short : n ≤ max_blocks → length B < stride * n → true ≡ area_bad (area_view n B K)
  unfolding area_bad area_view
  area-short h k = simp (le-ltb max_blocks n h, lt-ltb (length B) (stride * n) k)

  pub area-none : n ≡ 0 → false ≡ area_bad (area_view n B K)
  unfolding area_bad area_view
  area-none h =
      simp (
        eq-eqb n 0 h,
        le-ltb max_blocks n (omega arith),
        le-ltb (length B) (stride * n) (omega arith),
        record-good (length K) missing_place (none-ok (length K)),
      )

  pub area-last : n ≤ max_blocks → stride * n ≤ length B → (n ≡ 0 → ⊥)
      → record_bad (length K) (area_place B (n - 1)) ≡ area_bad (area_view n B K)
  unfolding area_bad area_view
  area-last h k some = simp (le-ltb max_blocks n h, le-ltb (length B) (stride * n) k, ne_eqb n 0 some)

  -- no block
  pub next-none : n ≡ 0 → (area_view n B K).next_key ≡ 0
  unfolding area_view
  next-none h = simp (eq-eqb n 0 h)

  pub last_none : n ≡ 0 → (area_view n B K).last ≡ record { start = 0; end = 0; first_ordinal = 0 }
  unfolding area_view
  last_none h = simp (eq-eqb n 0 h)

  pub key-none : n ≡ 0 → (area_view n B K).last_key ≡ []
  unfolding area_view
  key-none h = simp (eq-eqb n 0 h)

  -- a last block
  pub next-some : (n ≡ 0 → ⊥) → (area_view n B K).next_key ≡ (area_place B (n - 1)).offset + (area_place B (n - 1)).len
  unfolding area_view
  next-some h = simp (ne_eqb n 0 h)

  pub last_some : (n ≡ 0 → ⊥) → (area_view n B K).last ≡ area_block B (n - 1)
  unfolding area_view
  last_some h = simp (ne_eqb n 0 h)

  pub key-some : (n ≡ 0 → ⊥) → (area_view n B K).last_key ≡ area_key B K (n - 1)
  unfolding area_view
  key-some h = simp (ne_eqb n 0 h)

  -- where row 1 isn't hit, the last key stands in the key area, and the next one starts there
  module _ (ok : AreaOk (area_view n B K)) where
    pub last-place : (n ≡ 0 → ⊥) → RecordOk (length K) (area_place B (n - 1))
    unfolding area_view
    last-place some = simp (ne_eqb n 0 some) at ok.last

    pub next-within : (area_view n B K).next_key ≤ length K
    next-within =
        cases (eqb n 0)
        (λ e. omega (arith, next-none (eqb-true n 0 e)))
        (λ e. omega (arith, next-some (eqb-false n 0 e), (last-place (eqb-false n 0 e)).within))

-- row 7's last test, where the next key goes to k
pub room-keys : (v : View) (key : List ℕ) (k : ℕ) → (v.n ≡ max_blocks → ⊥) → stride * v.n + stride ≤ v.room → k ≡ v.next_key
    → k ≤ v.key_room → ltb (v.key_room - k) (length key) ≡ room_bad v key
unfolding room_bad
room-keys v key k few five e h =
    simp (ne_eqb v.n max_blocks few, le-ltb v.room (stride * v.n + stride) five, ← e) (ltb-sub v.key_room k (length key) h)
