-- A call's number: the first row that is hit. With 0 none is, as plain facts; with any other the call changes nothing.
use Prim.Native.Nat.{ℕ, zero, suc, ◌+◌, ◌*◌, ◌≤◌, ◌<◌}
use mathlib.Core.Path.{◌≡◌, refl, sym, ap, ◌∙◌}
use mathlib.Core.List.{List}
use mathlib.Core.Bool.{Bool, true, false, not, ◌&&◌, ◌||◌, cond}
use native.Mathlib.Omega.{arith}
use lib.Dec.{eqb, ltb}
use lib.ListN.{length}
use lib.Seq.{sets}
use borrow.Author.Tests.{eqb-false, ltb-false, lt-ltb, le-ltb, not-false}
use borrow.Table.Steps.{cases}
use Rattle.layout.specs.Layout.{max_blocks, max_key_len}
use Rattle.layout.proofs.Rows.{cond-zero}
use Rattle.std.proofs.lemmas.Bool.{or_parts}
use Rattle.keys.specs.Order.{less, ◌≺◌}
use Rattle.group.specs.declared.BlockAddr.{BlockAddr}
use Rattle.group.specs.Legal.{NumbersOk, Follows}
use Rattle.group.specs.Rows.{are_numbers_bad, is_join_bad, is_ordinal_bad}
use Rattle.group.proofs.Legal as legal
use Rattle.group.proofs.RowOrder.{or_row-first, or_row-zero}
use Rattle.builder.specs.declared.SSTableIndexBuilder.{SSTableIndexBuilder}
use Rattle.builder.specs.View.{stride, View}
use Rattle.builder.specs.Rows.{area_bad, AreaOk, key_long, key_no, key_bad, room_bad, block_no, add_no, shorten_no}
use Rattle.builder.specs.Area.{record_numbers, view_of}
use Rattle.builder.specs.Calls.{
  with_blocks,
  called_with,
  step_of_add,
  add_def,
  short_blocks,
  short_keys,
  step_of_shorten,
  shorten_def,
}
use Rattle.builder.proofs.Views.{area-ok}

-- ---- the first row that is hit

module _ (v : View) (given key : List ℕ) (b : BlockAddr) (k : ℕ) (e : k ≡ key_no given) where
  pub row-key : 0 < k → k ≡ block_no v given key b
  unfolding block_no
  row-key h = rw (← e) (sym (or_row-first k _ (λ z. omega arith)))

  module _ (short : k ≡ 0) where
    -- no row on the key alone is hit
    key-zero : key_no given ≡ 0
    key-zero = sym e ∙ short

    pub row-three : are_numbers_bad b ≡ true → 3 ≡ block_no v given key b
    unfolding block_no
    row-three f = simp (key-zero, f)

    module _ (numbers : are_numbers_bad b ≡ false) where
      pub row-four : 0 < v.n → is_join_bad v.last b ≡ true → 4 ≡ block_no v given key b
      unfolding block_no
      row-four some f = simp (key-zero, numbers, lt-ltb 0 v.n some, f)

      pub row-five : 0 < v.n → is_join_bad v.last b ≡ false → is_ordinal_bad v.last b ≡ true → 5 ≡ block_no v given key b
      unfolding block_no
      row-five some f g = simp (key-zero, numbers, lt-ltb 0 v.n some, f, g)

      module _ (join : (ltb 0 v.n && is_join_bad v.last b) ≡ false) (ordinal : (ltb 0 v.n && is_ordinal_bad v.last b) ≡ false) where
        pub row-six : (t : Bool) → t ≡ key_bad v key → t ≡ true → 6 ≡ block_no v given key b
        unfolding block_no
        row-six t f h = simp (key-zero, numbers, join, ordinal, sym f ∙ h)

        pub no_row : (t : Bool) → t ≡ key_bad v key → t ≡ false → 0 ≡ block_no v given key b
        unfolding block_no
        no_row t f h = simp (key-zero, numbers, join, ordinal, sym f ∙ h)

-- row 1 by the test alone
pub row-one : (v : View) (k later : ℕ) → k ≡ cond (area_bad v) 1 0 → 0 < k → k ≡ cond (area_bad v) 1 later
row-one v k later e h = cases (area_bad v) (λ t. rw t (rw t at e)) (λ t. absurd (let z : k ≡ 0 = rw t at e in omega arith))

module _ (v : View) (key : List ℕ) (b : BlockAddr) where
  pub add-first : (k : ℕ) → k ≡ cond (area_bad v) 1 0 → 0 < k → k ≡ add_no v key b
  unfolding add_no
  add-first k e h = row-one v k _ e h

  module _ (area : area_bad v ≡ false) (k : ℕ) (e : k ≡ block_no v key key b) where
    pub add-block : 0 < k → k ≡ add_no v key b
    unfolding add_no
    add-block h = rw (area, ← e) (sym (or_row-first k _ (λ z. omega arith)))

    pub add-room : k ≡ 0 → room_bad v key ≡ true → 7 ≡ add_no v key b
    unfolding add_no
    add-room z f = simp (area, sym e ∙ z, f)

    pub add_none : k ≡ 0 → room_bad v key ≡ false → 0 ≡ add_no v key b
    unfolding add_no
    add_none z f = simp (area, sym e ∙ z, f)

module _ (v : View) (next : List ℕ) where
  pub shorten-first : (k : ℕ) → k ≡ cond (area_bad v) 1 0 → 0 < k → k ≡ shorten_no v next
  unfolding shorten_no
  shorten-first k e h = row-one v k _ e h

  module _ (area : area_bad v ≡ false) (k : ℕ) (e : k ≡ key_no next) where
    pub shorten-key : 0 < k → k ≡ shorten_no v next
    unfolding shorten_no
    shorten-key h = rw (area, ← e) (sym (or_row-first k _ (λ z. omega arith)))

    pub shorten-not-above : k ≡ 0 → key_bad v next ≡ true → 6 ≡ shorten_no v next
    unfolding shorten_no
    shorten-not-above z f = simp (area, sym e ∙ z, f)

    pub shorten-none : k ≡ 0 → key_bad v next ≡ false → 0 ≡ shorten_no v next
    unfolding shorten_no
    shorten-none z f = simp (area, sym e ∙ z, f)

-- ---- no row is hit

-- a row that asks only after a block
behind : (n : ℕ) (t : Bool) → (ltb 0 n && t) ≡ false → (n ≡ 0 → ⊥) → t ≡ false
behind n t e some = rw (lt-ltb 0 n (omega arith)) at e

pub behind-good : (n : ℕ) (t : Bool) → ((n ≡ 0 → ⊥) → t ≡ false) → (ltb 0 n && t) ≡ false
behind-good zero t h = refl
behind-good (suc n) t h = rw (lt-ltb 0 (suc n) (omega arith)) (h (λ e. omega arith))

-- rows 2 to 6 aren't hit
pub record BlockOk (v : View) (given key : List ℕ) (b : BlockAddr) : Type 0 where
  pub short : length given ≤ max_key_len
  pub numbers : NumbersOk b
  pub follows : (v.n ≡ 0 → ⊥) → Follows v.last b
  pub above : (v.n ≡ 0 → ⊥) → v.last_key ≺ key

pub short_ok : (key : List ℕ) → key_no key ≡ 0 → length key ≤ max_key_len
unfolding key_no key_long
short_ok key e = ltb-false max_key_len (length key) (cond-zero (ltb max_key_len (length key)) 1 0 e).0

pub long-hit : (key : List ℕ) → max_key_len < length key → key_no key ≡ 2
unfolding key_no key_long
long-hit key h = simp (lt-ltb max_key_len (length key) h)

pub short-good : (key : List ℕ) → length key ≤ max_key_len → key_no key ≡ 0
unfolding key_no key_long
short-good key h = simp (le-ltb max_key_len (length key) h)

pub above-ok : (v : View) (key : List ℕ) → key_bad v key ≡ false → (v.n ≡ 0 → ⊥) → v.last_key ≺ key
unfolding key_bad
above-ok v key e some = not-false (less v.last_key key) (behind v.n (not (less v.last_key key)) e some)

pub above_good : (v : View) (key : List ℕ) → ((v.n ≡ 0 → ⊥) → v.last_key ≺ key) → key_bad v key ≡ false
unfolding key_bad
above_good v key h = behind-good v.n (not (less v.last_key key)) (λ some. ap not (h some))

module _ (v : View) (given key : List ℕ) (b : BlockAddr) where
  pub block-ok : block_no v given key b ≡ 0 → BlockOk v given key b
  unfolding block_no
  block-ok e =
      let p2 = or_row-zero (key_no given) _ e in
      let p3 = cond-zero (are_numbers_bad b) 2 _ p2.1 in
      let p4 = cond-zero (ltb 0 v.n && is_join_bad v.last b) 3 _ p3.1 in
      let p5 = cond-zero (ltb 0 v.n && is_ordinal_bad v.last b) 4 _ p4.1 in
      let p6 = cond-zero (key_bad v key) 5 _ p5.1 in
      record {
        short = short_ok given p2.0;
        numbers = legal.numbers-ok b p3.0;
        follows = λ some.
            legal.follows v.last b
            (behind v.n (is_join_bad v.last b) p4.0 some)
            (behind v.n (is_ordinal_bad v.last b) p5.0 some);
        above = above-ok v key p6.0;
      }

  pub block-good : BlockOk v given key b → block_no v given key b ≡ 0
  unfolding block_no
  block-good k =
      simp (
        short-good given k.short,
        legal.numbers-good b k.numbers,
        behind-good v.n (is_join_bad v.last b) (λ some. legal.joins v.last b (k.follows some)),
        behind-good v.n (is_ordinal_bad v.last b) (λ some. legal.ordinal-rises v.last b (k.follows some)),
        above_good v key k.above,
      )

-- row 7 isn't hit
pub record RoomOk (v : View) (key : List ℕ) : Type 0 where
  pub few : v.n ≡ max_blocks → ⊥
  pub five : stride * v.n + stride ≤ v.room
  pub bytes : v.next_key + length key ≤ v.key_room

pub room-ok : (v : View) (key : List ℕ) → room_bad v key ≡ false → RoomOk v key
unfolding room_bad
room-ok v key e =
    let p = or_parts (eqb v.n max_blocks) (ltb v.room (stride * v.n + stride) || ltb v.key_room (v.next_key + length key)) e in
    let q = or_parts (ltb v.room (stride * v.n + stride)) (ltb v.key_room (v.next_key + length key)) p.1 in
    record {
      few = eqb-false v.n max_blocks p.0;
      five = ltb-false v.room (stride * v.n + stride) q.0;
      bytes = ltb-false v.key_room (v.next_key + length key) q.1;
    }

-- an accepted add
pub record AddOk (v : View) (key : List ℕ) (b : BlockAddr) : Type 0 where
  pub area : AreaOk v
  pub block : BlockOk v key key b
  pub room : RoomOk v key

pub add_ok : (v : View) (key : List ℕ) (b : BlockAddr) → add_no v key b ≡ 0 → AddOk v key b
unfolding add_no
add_ok v key b e =
    let p = cond-zero (area_bad v) 0 _ e in
    let q = or_row-zero (block_no v key key b) _ p.1 in
    record {
      area = area-ok v p.0;
      block = block-ok v key key b q.0;
      room = room-ok v key (cond-zero (room_bad v key) 6 0 q.1).0;
    }

-- ---- what a call leaves, refused and accepted

module _ (s : SSTableIndexBuilder) (B K key : List ℕ) where
  module _ (b : BlockAddr) where
    refused-step : (k : ℕ) → 0 < k → called_with k s B K ≡ step_of_add k s B K key b
    unfolding step_of_add
    refused-step zero h = absurd (let z : ⊥ = omega arith in z)
    refused-step (suc k) h = refl

    pub add-refused : (k : ℕ) → k ≡ add_no (view_of s B K) key b → 0 < k → called_with k s B K ≡ add_def s B K key b
    unfolding add_def
    add-refused k e h = rw (← e) (refused-step k h)

    pub add-taken : (s' : SSTableIndexBuilder) (B' K' : List ℕ) → add_no (view_of s B K) key b ≡ 0
        → s' ≡ with_blocks s (s.n + 1)
        → B' ≡ sets B (stride * s.n) (record_numbers b (record { offset = (view_of s B K).next_key; len = length key }))
        → K' ≡ sets K (view_of s B K).next_key key
        → called_with 0 s' B' K' ≡ add_def s B K key b
    unfolding add_def step_of_add
    add-taken s' B' K' e o p q = rw (e, o, p, q)

  shorten-refused-step : (k : ℕ) → 0 < k → called_with k s B K ≡ step_of_shorten k s B K key
  unfolding step_of_shorten
  shorten-refused-step zero h = absurd (let z : ⊥ = omega arith in z)
  shorten-refused-step (suc k) h = refl

  pub shorten-refused : (k : ℕ) → k ≡ shorten_no (view_of s B K) key → 0 < k → called_with k s B K ≡ shorten_def s B K key
  unfolding shorten_def
  shorten-refused k e h = rw (← e) (shorten-refused-step k h)

  pub shorten-taken : (B' K' : List ℕ) → 0 ≡ shorten_no (view_of s B K) key
      → B' ≡ short_blocks s.n B K key → K' ≡ short_keys s.n B K key
      → called_with 0 s B' K' ≡ shorten_def s B K key
  unfolding shorten_def step_of_shorten
  shorten-taken B' K' e p q = rw (← e, p, q)
