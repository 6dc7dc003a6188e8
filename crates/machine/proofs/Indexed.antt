-- Entry i, from 0, is block i, and its final key separator i; blocks and separators keep the rows, index by index.
use Prim.Native.Nat.{ℕ, suc, ◌≤◌, ◌<◌}
use mathlib.Core.Path.{◌≡◌, refl, sym, ap, ◌∙◌}
use mathlib.Core.List.{List, [], ◌∷◌, map, reverse, reverse-cons}
use native.Mathlib.Omega.{arith}
use lib.Dec.{eqb}
use lib.ListN.{length, get_or, length-reverse, length-map, get_or-append}
use lib.Seq.{get_or_at}
use borrow.Author.Tests.{eqb-true, eqb-false}
use borrow.Table.Steps.{cases}
use Rattle.layout.specs.Layout.{max_key_len}
use Rattle.keys.specs.Order.{◌≺◌}
use Rattle.group.specs.Blocks.{block_of}
use Rattle.group.specs.Legal.{NumbersOk, Follows, Legal}
use Rattle.builder.specs.View.{View}
use Rattle.builder.specs.Rows.{RecordOk, block_no}
use Rattle.builder.specs.Area.{area_block, area_place, area_key, area_view}
use Rattle.builder.specs.Calls.{builder_of, State}
use Rattle.builder.proofs.Numbers.{BlockOk, block-good}
use Rattle.machine.specs.Plain.{Entry, Rooms, key_bytes_taken, plain_view, blocks_of, separators_of}
use Rattle.machine.specs.Runs.{rooms_of}
use Rattle.machine.proofs.Entries.{Holds, Rep, rep-view, plain-next}
use Rattle.machine.proofs.Rules.{EntryOk, Behind, EntriesOk, none, first, more}

-- ---- entries oldest first

pub length-oldest : {X : Type 0} (f : Entry → X) (es : List Entry) → length (reverse (map f es)) ≡ length es
length-oldest f es = length-reverse (map f es) ∙ length-map es f

module _ {X : Type 0} (f : Entry → X) (e : Entry) (es : List Entry) (d : X) where
  newest : get_or (reverse (map f (e ∷ es))) (length es) d ≡ f e
  newest = rw (reverse-cons (f e) (map f es)) (get_or_at (reverse (map f es)) (f e) [] d (length es) (length-oldest f es))

  older : (i : ℕ) → i < length es → get_or (reverse (map f (e ∷ es))) i d ≡ get_or (reverse (map f es)) i d
  older i h =
      rw (reverse-cons (f e) (map f es))
      (get_or-append (reverse (map f es)) (f e ∷ []) d i (omega (arith, length-oldest f es)))

-- a claim on each index, from the newest entry and those before it
each : (e : Entry) (es : List Entry) (P : ℕ → Type 0) → P (length es) → ((i : ℕ) → i < length es → P i)
    → (i : ℕ) → i < length (e ∷ es) → P i
each e es P new old i h =
    cases (eqb i (length es))
    (λ t. rw (eqb-true i (length es) t) new)
    (λ t. old i (omega (arith, eqb-false i (length es) t)))

-- ---- the areas, index by index

module _ (B K : List ℕ) where
  pub held-block : (es : List Entry) → Holds es B K → (i : ℕ) → i < length es → area_block B i ≡ block_of (blocks_of es) i
  unfolding Holds
  held-block [] w = λ i h. absurd (omega arith)
  held-block (e ∷ es) w =
      each e es (λ (i : ℕ). area_block B i ≡ block_of (blocks_of (e ∷ es)) i)
      (w.0.block ∙ sym (newest (λ (x : Entry). x.block) e es _))
      (λ i h. held-block es w.1 i h ∙ sym (older (λ (x : Entry). x.block) e es _ i h))

  pub held-key : (es : List Entry) → Holds es B K → (i : ℕ) → i < length es → area_key B K i ≡ get_or (separators_of es) i []
  unfolding Holds
  held-key [] w = λ i h. absurd (omega arith)
  held-key (e ∷ es) w =
      each e es (λ (i : ℕ). area_key B K i ≡ get_or (separators_of (e ∷ es)) i [])
      (w.0.key ∙ sym (newest (λ (x : Entry). x.key) e es []))
      (λ i h. held-key es w.1 i h ∙ sym (older (λ (x : Entry). x.key) e es [] i h))

-- the entries before the newest one
abbrev before : List Entry → State → State
before es s = record { builder = builder_of (length es); blocks = s.blocks; keys = s.keys }

rep-before : (e : Entry) (es : List Entry) (s : State) → Rep (e ∷ es) s → Rep es (before es s)
unfolding Holds key_bytes_taken
rep-before e es s r = record {
  count = refl;
  few = omega (arith, r.few);
  inside = omega (arith, r.inside);
  within = omega (arith, r.within);
  holds = r.holds.1;
}

view-before : (e : Entry) (es : List Entry) (s : State) → Rep (e ∷ es) s
    → area_view (length es) s.blocks s.keys ≡ plain_view (rooms_of s) es
view-before e es s r = rep-view es (before es s) (rep-before e es s r)

after-ok : (rooms : Rooms) (e : Entry) (es : List Entry) → EntriesOk (e ∷ es)
    → BlockOk (plain_view rooms es) e.key e.key e.block
unfolding plain_view
after-ok rooms e [] (first k) = record {
  short = k.short;
  numbers = k.numbers;
  follows = λ some. absurd (some refl);
  above = λ some. absurd (some refl);
}
after-ok rooms e (p ∷ es) (more k b ok) = record {
  short = k.short;
  numbers = k.numbers;
  follows = λ some. b.follows;
  above = λ some. b.rises;
}

entry-ok : (e : Entry) (es : List Entry) → EntriesOk (e ∷ es) → EntryOk e
entry-ok e [] (first k) = k
entry-ok e (p ∷ es) (more k b ok) = k

before-ok : (e : Entry) (es : List Entry) → EntriesOk (e ∷ es) → EntriesOk es
before-ok e [] (first k) = none
before-ok e (p ∷ es) (more k b ok) = ok

-- what the first i blocks show is what the entries before entry i show: keys touch and stand in the key area, and no block
-- breaks rows 2 to 6
pub keys-touch : (es : List Entry) (s : State) → Rep es s → (i : ℕ) → i < length es
    → (area_place s.blocks i).offset ≡ (area_view i s.blocks s.keys).next_key
unfolding Holds
keys-touch [] s r = λ i h. absurd (omega arith)
keys-touch (e ∷ es) s r =
    each e es (λ (i : ℕ). (area_place s.blocks i).offset ≡ (area_view i s.blocks s.keys).next_key)
    (r.holds.0.offset ∙ sym (ap (λ (v : View). v.next_key) (view-before e es s r) ∙ plain-next (rooms_of s) es))
    (λ i h. keys-touch es (before es s) (rep-before e es s r) i h)

pub records-fit : (es : List Entry) (s : State) → Rep es s → (i : ℕ) → i < length es
    → RecordOk (length s.keys) (area_place s.blocks i)
unfolding Holds key_bytes_taken
records-fit [] s r = λ i h. absurd (omega arith)
records-fit (e ∷ es) s r =
    each e es (λ (i : ℕ). RecordOk (length s.keys) (area_place s.blocks i))
    (record { within = omega (arith, r.within, r.holds.0.offset, r.holds.0.len) })
    (λ i h. records-fit es (before es s) (rep-before e es s r) i h)

pub blocks-keep : (es : List Entry) (s : State) → Rep es s → EntriesOk es → (i : ℕ) → i < length es
    → block_no (area_view i s.blocks s.keys) (area_key s.blocks s.keys i) (area_key s.blocks s.keys i)
    (area_block s.blocks i)
    ≡ 0
unfolding Holds
blocks-keep [] s r ok = λ i h. absurd (omega arith)
blocks-keep (e ∷ es) s r ok =
    each e es
    (λ (i : ℕ).
    block_no (area_view i s.blocks s.keys) (area_key s.blocks s.keys i) (area_key s.blocks s.keys i)
    (area_block s.blocks i)
    ≡ 0)
    (rw (view-before e es s r, r.holds.0.key, r.holds.0.block)
    (block-good (plain_view (rooms_of s) es) e.key e.key e.block (after-ok (rooms_of s) e es ok)))
    (λ i h. blocks-keep es (before es s) (rep-before e es s r) (before-ok e es ok) i h)

-- ---- the rules of blocks and separators

module _ {X : Type 0} (f : Entry → X) (d : X) where
  each_at : (P : X → Type 0) → ((e : Entry) → EntryOk e → P (f e)) → (es : List Entry) → EntriesOk es
      → (i : ℕ) → i < length es → P (get_or (reverse (map f es)) i d)
  each_at P g [] ok = λ i h. absurd (omega arith)
  each_at P g (e ∷ es) ok =
      each e es (λ (i : ℕ). P (get_or (reverse (map f (e ∷ es))) i d))
      (rw (newest f e es d) (g e (entry-ok e es ok)))
      (λ i h. rw (older f e es d i h) (each_at P g es (before-ok e es ok) i h))

  pairs-at : (R : X → X → Type 0) → ((p e : Entry) → Behind p e → R (f p) (f e)) → (es : List Entry) → EntriesOk es
      → (i : ℕ) → suc i < length es → R (get_or (reverse (map f es)) i d) (get_or (reverse (map f es)) (suc i) d)
  pairs-at R g [] ok i h = absurd (omega arith)
  pairs-at R g (e ∷ []) ok i h = absurd (omega arith)
  pairs-at R g (e ∷ p ∷ es) (more k b ok) i h =
      cases (eqb i (length es))
      (λ t.
      let z : i ≡ length es = eqb-true i (length es) t in
      rw (z, older f e (p ∷ es) d (length es) (omega arith), newest f e (p ∷ es) d, newest f p es d) (g p e b))
      (λ t.
      let l : suc i < length (p ∷ es) = omega (arith, eqb-false i (length es) t) in
      rw (older f e (p ∷ es) d i (omega arith), older f e (p ∷ es) d (suc i) l) (pairs-at R g (p ∷ es) ok i l))

pub entries-legal : (es : List Entry) → EntriesOk es → Legal (block_of (blocks_of es)) (length es)
entries-legal es ok = record {
  numbers = each_at (λ (x : Entry). x.block) _ NumbersOk (λ e k. k.numbers) es ok;
  follows = pairs-at (λ (x : Entry). x.block) _ Follows (λ p e b. b.follows) es ok;
}

pub separators-short : (es : List Entry) → EntriesOk es → (i : ℕ) → i < length es → length (get_or (separators_of es) i []) ≤ max_key_len
separators-short es ok = each_at (λ (x : Entry). x.key) [] (λ (k : List ℕ). length k ≤ max_key_len) (λ e k. k.short) es ok

pub separators-rise : (es : List Entry) → EntriesOk es → (i : ℕ) → suc i < length es
    → get_or (separators_of es) i [] ≺ get_or (separators_of es) (suc i) []
separators-rise es ok = pairs-at (λ (x : Entry). x.key) [] (λ (k l : List ℕ). k ≺ l) (λ p e b. b.rises) es ok
