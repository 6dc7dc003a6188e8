-- The areas stand for entries: each entry's five numbers and its key are at its index. An accepted call keeps this.
use Prim.Native.Nat.{ℕ, ◌+◌, ◌-◌, ◌*◌, ◌≤◌, ◌<◌}
use mathlib.Core.Path.{◌≡◌, refl, ◌∙◌}
use mathlib.Core.List.{List, [], ◌∷◌}
use native.Mathlib.Nat.{add-zero}
use native.Mathlib.Omega.{arith}
use lib.ListN.{length, get_or, take, drop, set}
use lib.Seq.{sets, take-take, get_or-take, get_or-set_same, get_or-set_other, take-set-le}
use borrow.Author.Tests.{ne_eqb}
use Rattle.std.proofs.lemmas.List.{drop-take}
use Rattle.layout.specs.Layout.{max_blocks}
use Rattle.serialize.proofs.Stores.{sets-part, sets-outside-take, get_or-sets}
use Rattle.group.specs.declared.BlockAddr.{BlockAddr}
use Rattle.builder.specs.View.{stride}
use Rattle.builder.specs.declared.record.KeyPlace.{KeyPlace}
use Rattle.builder.specs.Area.{key_len_field, record_numbers, area_block, area_place, area_key, area_view, view_of}
use Rattle.builder.specs.Calls.{State}
use Rattle.machine.specs.Plain.{Entry, Rooms, key_bytes_taken, plain_view}
use Rattle.machine.specs.Runs.{FreshState, rooms_of}

-- e is block i, and its key starts at `at`
pub record Held (e : Entry) (i at : ℕ) (B K : List ℕ) : Type 0 where
  pub block : area_block B i ≡ e.block
  pub offset : (area_place B i).offset ≡ at
  pub len : (area_place B i).len ≡ length e.key
  pub key : area_key B K i ≡ e.key

-- each entry is held at its index, after the keys of those before it; entries stand newest first
unfoldable pub Holds : List Entry → List ℕ → List ℕ → Type 0
Holds [] B K = Unit {0}
Holds (e ∷ es) B K = Held e (length es) (key_bytes_taken es) B K × Holds es B K

-- the builder with its areas stands for the entries
pub record Rep (es : List Entry) (s : State) : Type 0 where
  pub count : s.builder.n ≡ length es
  pub few : length es ≤ max_blocks
  pub inside : stride * length es ≤ length s.blocks
  pub within : key_bytes_taken es ≤ length s.keys
  pub holds : Holds es s.blocks s.keys

-- whatever the areas hold, no block is no entry
pub fresh : (s : State) → FreshState s → Rep [] s
unfolding Holds key_bytes_taken
fresh s e = record { count = e; few = omega arith; inside = omega arith; within = omega arith; holds = tt }

-- ---- the areas show what the entries show

module _ (e : Entry) (es : List Entry) (s : State) (r : Rep (e ∷ es) s) where
  some : s.builder.n ≡ 0 → ⊥
  some z = omega (arith, r.count)

  last-is : s.builder.n - 1 ≡ length es
  last-is = omega (arith, r.count)

  pub rep-held : Held e (length es) (key_bytes_taken es) s.blocks s.keys
  unfolding Holds
  rep-held = r.holds.0

  view-some : view_of s.builder s.blocks s.keys ≡ plain_view (rooms_of s) (e ∷ es)
  unfolding area_view plain_view key_bytes_taken
  view-some =
      rw (ne_eqb s.builder.n 0 some, last-is, rep-held.block, rep-held.key, rep-held.offset, rep-held.len, r.count)

pub rep-view : (es : List Entry) (s : State) → Rep es s → view_of s.builder s.blocks s.keys ≡ plain_view (rooms_of s) es
unfolding area_view plain_view
rep-view [] s r = rw r.count
rep-view (e ∷ es) s r = view-some e es s r

pub plain-n : (rooms : Rooms) (es : List Entry) → (plain_view rooms es).n ≡ length es
unfolding plain_view
plain-n rooms [] = refl
plain-n rooms (e ∷ es) = refl

pub plain-next : (rooms : Rooms) (es : List Entry) → (plain_view rooms es).next_key ≡ key_bytes_taken es
unfolding plain_view key_bytes_taken
plain-next rooms [] = refl
plain-next rooms (e ∷ es) = refl

-- the last key ends where the next one starts
pub plain-place : (rooms : Rooms) (es : List Entry)
    → (plain_view rooms es).place.offset + (plain_view rooms es).place.len ≡ key_bytes_taken es
unfolding plain_view key_bytes_taken
plain-place rooms [] = refl
plain-place rooms (e ∷ es) = refl

pub plain-room : (rooms : Rooms) (es : List Entry)
    → ((plain_view rooms es).room ≡ rooms.blocks) × ((plain_view rooms es).key_room ≡ rooms.keys)
unfolding plain_view
plain-room rooms [] = (refl, refl)
plain-room rooms (e ∷ es) = (refl, refl)

-- ---- what stands before a change stays

front-get_or : (m : ℕ) (B B' : List ℕ) (j : ℕ) → j < m → take m B' ≡ take m B → get_or B' j 0 ≡ get_or B j 0
front-get_or m B B' j h e = grind (arith, get_or-take m B' j 0 h, get_or-take m B j 0 h, e)

front-part : (m : ℕ) (K K' : List ℕ) (at len : ℕ) → at + len ≤ m → take m K' ≡ take m K → take len (drop at K') ≡ take len (drop at K)
front-part m K K' at len h e = grind (
  arith,
  drop-take at len K',
  drop-take at len K,
  take-take (at + len) m K' h,
  take-take (at + len) m K h,
  e,
)

pub holds_kept : (es : List Entry) (B K B' K' : List ℕ) (m k : ℕ) → stride * length es ≤ m → key_bytes_taken es ≤ k
    → take m B' ≡ take m B → take k K' ≡ take k K → Holds es B K → Holds es B' K'
unfolding Holds key_bytes_taken
holds_kept [] B K B' K' m k h g p q w = tt
holds_kept (e ∷ es) B K B' K' m k h g p q w =
    let i : ℕ = length es in
    let same : (j : ℕ) → j < m → get_or B' j 0 ≡ get_or B j 0 = λ j l. front-get_or m B B' j l p in (
      record {
        block =
            rw (same (stride * i) (omega arith), same (stride * i + 1) (omega arith), same (stride * i + 2) (omega arith)) w.0.block;
        offset = same (stride * i + 3) (omega arith) ∙ w.0.offset;
        len = same (stride * i + 4) (omega arith) ∙ w.0.len;
        key =
            rw (
              same (stride * i + 3) (omega arith),
              same (stride * i + 4) (omega arith),
              front-part k K K' (area_place B i).offset (area_place B i).len (omega (arith, w.0.offset, w.0.len)) q,
            )
            w.0.key;
      },
      holds_kept es B K B' K' m k (omega arith) (omega arith) p q w.1,
    )

-- ---- an accepted add

-- where a key that is added after `at` key bytes stands
abbrev pub place_at : ℕ → List ℕ → KeyPlace
place_at at key = record { offset = at; len = length key }

added-held : (b : BlockAddr) (key : List ℕ) (i at : ℕ) (B K : List ℕ) → stride * i + stride ≤ length B → at + length key ≤ length K
    → Held (record { block = b; key = key }) i at (sets B (stride * i) (record_numbers b (place_at at key))) (sets K at key)
added-held b key i at B K h g =
    let w : List ℕ = record_numbers b (place_at at key) in
    let n : (j : ℕ) → j < stride → get_or (sets B (stride * i) w) (stride * i + j) 0 ≡ get_or w j 0 = λ j l.
    get_or-sets B w (stride * i) j h l in
    record {
      block = rw (rw (add-zero (stride * i)) at (n 0 (omega arith)), n 1 (omega arith), n 2 (omega arith));
      offset = n 3 (omega arith);
      len = n 4 (omega arith);
      key = rw (n 3 (omega arith), n 4 (omega arith)) (sets-part K key at g);
    }

pub holds-added : (es : List Entry) (b : BlockAddr) (key B K : List ℕ)
    → stride * length es + stride ≤ length B → key_bytes_taken es + length key ≤ length K → Holds es B K
    → Holds (record { block = b; key = key } ∷ es)
    (sets B (stride * length es) (record_numbers b (place_at (key_bytes_taken es) key))) (sets K (key_bytes_taken es) key)
unfolding Holds
holds-added es b key B K h g w = (
  added-held b key (length es) (key_bytes_taken es) B K h g,
  holds_kept es B K _ _ (stride * length es) (key_bytes_taken es) (omega arith) (omega arith)
      (sets-outside-take B (record_numbers b (place_at (key_bytes_taken es) key)) (stride * length es) (stride * length es) (omega arith))
      (sets-outside-take K key (key_bytes_taken es) (key_bytes_taken es) (omega arith)) w,
)

-- ---- an accepted shorten

shortened-held : (e : Entry) (key : List ℕ) (i at : ℕ) (B K : List ℕ) → stride * i + stride ≤ length B → at + length key ≤ length K
    → Held e i at B K
    → Held (record { block = e.block; key = key }) i at (set B (stride * i + key_len_field) (length key)) (sets K at key)
shortened-held e key i at B K h g w =
    let p : ℕ = stride * i + key_len_field in
    let other : (j : ℕ) → (j ≡ p → ⊥) → get_or (set B p (length key)) j 0 ≡ get_or B j 0 = λ j n. get_or-set_other B p j (length key) 0 n in
    let same : get_or (set B p (length key)) p 0 ≡ length key = get_or-set_same B p (length key) 0 (omega arith) in
    record {
      block =
          rw (other (stride * i) (λ z. omega arith), other (stride * i + 1) (λ z. omega arith), other (stride * i + 2) (λ z. omega arith))
          w.block;
      offset = other (stride * i + 3) (λ z. omega arith) ∙ w.offset;
      len = same;
      key = rw (other (stride * i + 3) (λ z. omega arith), same, w.offset) (sets-part K key at g);
    }

pub holds-shortened : (e : Entry) (es : List Entry) (key B K : List ℕ)
    → stride * length es + stride ≤ length B → key_bytes_taken es + length key ≤ length K → Holds (e ∷ es) B K
    → Holds (record { block = e.block; key = key } ∷ es)
    (set B (stride * length es + key_len_field) (length key)) (sets K (key_bytes_taken es) key)
unfolding Holds
holds-shortened e es key B K h g w = (
  shortened-held e key (length es) (key_bytes_taken es) B K h g w.0,
  holds_kept es B K _ _ (stride * length es) (key_bytes_taken es) (omega arith) (omega arith)
      (take-set-le (stride * length es) B (stride * length es + key_len_field) (length key) (omega arith))
      (sets-outside-take K key (key_bytes_taken es) (key_bytes_taken es) (omega arith)) w.1,
)
