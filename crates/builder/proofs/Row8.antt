-- Row 8: the tests block by block, and what they give the writers where none is hit.
use Prim.Native.Nat.{ℕ, suc, ◌+◌, ◌-◌, ◌≤◌, ◌<◌}
use mathlib.Core.Path.{◌≡◌, refl, ap, ◌∙◌}
use mathlib.Core.List.{List}
use mathlib.Core.Bool.{cond, true, false, not, ◌||◌}
use native.Mathlib.Numerals.{add-one}
use native.Mathlib.Omega.{arith}
use lib.Dec.{eqb}
use lib.ListN.{length, length-take, length-drop}
use borrow.Author.Tests.{eqb-true, eqb-false, eq-eqb, ne_eqb, not-false}
use borrow.Table.Steps.{cases}
use Rattle.layout.specs.Layout.{max_key_len}
use Rattle.std.proofs.lemmas.Bool.{or_parts, or_left, or_right}
use Rattle.layout.proofs.Fronts.{Fronts, each-kept}
use Rattle.group.specs.Legal.{Follows}
use Rattle.directory.specs.Facts.{KeysArea}
use Rattle.store.specs.Facts.{StoreArea}
use Rattle.builder.specs.View.{stride}
use Rattle.builder.specs.Rows.{record_bad, RecordOk, area_bad, AreaOk}
use Rattle.builder.specs.Area.{key_field, area_block, area_place, area_key, area_view, view_of}
use Rattle.builder.specs.Finish.{place_bad, rule_bad, places_bad, rules_bad, list_no}
use Rattle.builder.specs.declared.SSTableIndexBuilder.{SSTableIndexBuilder}
use Rattle.builder.proofs.Numbers.{row-one, BlockOk, block-ok}
use Rattle.builder.proofs.Views.{record-ok, none-ok, area-ok, next-some, last_some}

module _ (B K : List ℕ) where
  -- where the key of block m ends
  pub next-suc : (m : ℕ) → (area_view (suc m) B K).next_key ≡ (area_place B m).offset + (area_place B m).len
  next-suc m =
      let one : suc m - 1 ≡ m = omega arith in
      next-some (suc m) B K (λ z. omega arith) ∙ ap (λ (k : ℕ). (area_place B k).offset + (area_place B k).len) one

  pub next_one : (m : ℕ) → (area_view (m + 1) B K).next_key ≡ (area_place B m).offset + (area_place B m).len
  next_one m = rw (add-one m) (next-suc m)

  pub last-suc : (m : ℕ) → (area_view (suc m) B K).last ≡ area_block B m
  last-suc m =
      let one : suc m - 1 ≡ m = omega arith in
      last_some (suc m) B K (λ z. omega arith) ∙ ap (area_block B) one

  -- ---- the keys' places

  pub places-fronts : Fronts (λ m. places_bad m B K) (λ m. place_bad m B K)
  unfolding places_bad
  places-fronts = record { none = refl; more = λ m. refl }

  pub offset-hit : (m : ℕ) → ((area_place B m).offset ≡ (area_view m B K).next_key → ⊥) → place_bad m B K ≡ true
  offset-hit m ne = or_left _ _ (ap not (ne_eqb _ _ ne))

  pub record-hit : (m : ℕ) → record_bad (length K) (area_place B m) ≡ true → place_bad m B K ≡ true
  record-hit m t = or_right (not (eqb (area_place B m).offset (area_view m B K).next_key)) _ t

  pub place-good : (m : ℕ) → (area_place B m).offset ≡ (area_view m B K).next_key → record_bad (length K) (area_place B m) ≡ false
      → place_bad m B K ≡ false
  place-good m e t = rw (eq-eqb (area_place B m).offset (area_view m B K).next_key e, t)

  pub places-at : (n : ℕ) → places_bad n B K ≡ false → (i : ℕ) → i < n
      → ((area_place B i).offset ≡ (area_view i B K).next_key) × RecordOk (length K) (area_place B i)
  places-at n f i h =
      let p = or_parts _ _ (each-kept places-fronts n f i h) in
      (eqb-true (area_place B i).offset (area_view i B K).next_key (not-false _ p.0), record-ok (length K) (area_place B i) p.1)

  -- ---- rows 2 to 6

  pub rules-fronts : Fronts (λ m. rules_bad m B K) (λ m. rule_bad m B K)
  unfolding rules_bad
  rules-fronts = record { none = refl; more = λ m. refl }

  pub rules-at : (n : ℕ) → rules_bad n B K ≡ false → (i : ℕ) → i < n
      → BlockOk (area_view i B K) (area_key B K i) (area_key B K i) (area_block B i)
  rules-at n f i h =
      block-ok (area_view i B K) (area_key B K i) (area_key B K i) (area_block B i)
      (eqb-true _ 0 (not-false _ (each-kept rules-fronts n f i h)))

  -- ---- every front of the blocks fits the areas

  module _ (n : ℕ) (places : places_bad n B K ≡ false) where
    front-place : (m : ℕ) → m ≤ n → RecordOk (area_view m B K).key_room (area_view m B K).place
    unfolding area_view
    front-place m h =
        cases (eqb m 0)
        (λ e. rw e (none-ok (length K)))
        (λ e. rw e (places-at n places (m - 1) (omega (arith, eqb-false m 0 e))).1)

    pub front-ok : AreaOk (area_view n B K) → (m : ℕ) → m ≤ n → AreaOk (area_view m B K)
    unfolding area_view
    front-ok ok m h = record {
      few = omega (arith, ok.few);
      inside = omega (arith, ok.inside);
      last = front-place m h;
    }

    pub key-inside : (i : ℕ) → i < n → (area_place B i).offset + (area_place B i).len ≤ length K
    key-inside i h = (places-at n places i h).1.within

-- ---- rows 1 and 8 aren't hit

pub record ListOk (n : ℕ) (B K : List ℕ) : Type 0 where
  pub area : AreaOk (area_view n B K)
  pub places : places_bad n B K ≡ false
  pub rules : rules_bad n B K ≡ false

pub list-ok : (b : SSTableIndexBuilder) (B K : List ℕ) → list_no b B K ≡ 0 → ListOk b.n B K
unfolding list_no
list-ok b B K e =
    cases (area_bad (view_of b B K))
    (λ t. absurd (let z : ◌≡◌ {A = ℕ} 1 0 = simp t at e in omega arith))
    (λ t. cases (places_bad b.n B K || rules_bad b.n B K)
    (λ u. absurd (let z : ◌≡◌ {A = ℕ} 8 0 = simp (t, u) at e in omega arith))
    (λ u.
    let p = or_parts (places_bad b.n B K) (rules_bad b.n B K) u in
    record { area = area-ok (view_of b B K) t; places = p.0; rules = p.1 }))

module _ (b : SSTableIndexBuilder) (B K : List ℕ) where
  pub list-first : (k : ℕ) → k ≡ cond (area_bad (view_of b B K)) 1 0 → 0 < k → k ≡ list_no b B K
  unfolding list_no
  list-first k e h = row-one (view_of b B K) k _ e h

  pub list-places : area_bad (view_of b B K) ≡ false → places_bad b.n B K ≡ true → 8 ≡ list_no b B K
  unfolding list_no
  list-places e f = simp (e, f)

  pub list-rules : area_bad (view_of b B K) ≡ false → places_bad b.n B K ≡ false → rules_bad b.n B K ≡ true → 8 ≡ list_no b B K
  unfolding list_no
  list-rules e f g = simp (e, f, g)

  pub list-none : area_bad (view_of b B K) ≡ false → places_bad b.n B K ≡ false → rules_bad b.n B K ≡ false → 0 ≡ list_no b B K
  unfolding list_no
  list-none e f g = simp (e, f, g)

-- what the writers of the directory and the store ask
pub keys-area : (n : ℕ) (B K : List ℕ) → ListOk n B K → KeysArea B stride key_field K n
unfolding area_view
keys-area n B K ok = record {
  few = ok.area.few;
  place = omega arith;
  inside = ok.area.inside;
  short = λ i h.
      let short : length (area_key B K i) ≤ max_key_len = (rules-at B K n ok.rules i h).short in
      omega (arith, simp (length-take, length-drop) at short, key-inside B K n ok.places i h);
  within = λ i h. key-inside B K n ok.places i h;
}

view-some : (i : ℕ) (B K : List ℕ) → (area_view (suc i) B K).n ≡ 0 → ⊥
unfolding area_view
view-some i B K z = omega arith

behind-ok : (n : ℕ) (B K : List ℕ) → ListOk n B K → (i : ℕ) → suc i < n → Follows (area_block B i) (area_block B (suc i))
behind-ok n B K ok i h = rw (last-suc B K i) at ((rules-at B K n ok.rules (suc i) h).follows (view-some i B K))

pub store-area : (n : ℕ) (B K : List ℕ) → ListOk n B K → StoreArea B stride n
unfolding area_view
store-area n B K ok = record {
  few = ok.area.few;
  wide = omega arith;
  inside = ok.area.inside;
  legal = record {
    numbers = λ i h. (rules-at B K n ok.rules i h).numbers;
    follows = behind-ok n B K ok;
  };
}
