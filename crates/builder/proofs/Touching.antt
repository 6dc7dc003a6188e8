-- Row 8's test of each record refuses nothing by itself: where row 1 isn't hit and the keys touch, every key stands in the key area.
use Prim.Native.Nat.{ℕ, zero, suc, ◌≤◌, ◌<◌}
use mathlib.Core.Path.{◌≡◌}
use mathlib.Core.List.{List}
use mathlib.Core.Bool.{false}
use native.Mathlib.Omega.{arith}
use lib.Dec.{eqb}
use lib.ListN.{length}
use borrow.Author.Tests.{eqb-true, eqb-false}
use borrow.Table.Steps.{cases}
use Rattle.layout.proofs.Fronts.{all-kept}
use Rattle.builder.specs.Rows.{RecordOk, AreaOk}
use Rattle.builder.specs.Area.{area_place, area_view}
use Rattle.builder.specs.Finish.{places_bad}
use Rattle.builder.proofs.Views.{record-good, next-none, next-within}
use Rattle.builder.proofs.Row8.{next-suc, places-fronts, place-good}

module _ (B K : List ℕ) where
  -- the first n keys touch: each starts where the one before ends
  abbrev pub Touching : ℕ → Type 0
  Touching n = (i : ℕ) → i < n → (area_place B i).offset ≡ (area_view i B K).next_key

  pub places-good : (n : ℕ) → Touching n → ((i : ℕ) → i < n → RecordOk (length K) (area_place B i)) → places_bad n B K ≡ false
  places-good n h g =
      all-kept (places-fronts B K) n (λ i l. place-good B K i (h i l) (record-good (length K) (area_place B i) (g i l)))

  module _ (n : ℕ) (touch : Touching n) where
    next-rises : (j m : ℕ) → m ≤ j → j ≤ n → (area_view m B K).next_key ≤ (area_view j B K).next_key
    next-rises zero m h l =
        let none : m ≡ 0 = omega arith in
        omega (arith, next-none m B K none)
    next-rises (suc j) m h l =
        cases (eqb m (suc j))
        (λ t. rw (eqb-true m (suc j) t) (omega arith))
        (λ t.
        omega (arith, next-rises j m (omega (arith, eqb-false m (suc j) t)) (omega arith), next-suc B K j, touch j (omega arith)))

    touching-fit : AreaOk (area_view n B K) → (i : ℕ) → i < n → RecordOk (length K) (area_place B i)
    touching-fit ok i h = record {
      within = omega (arith, next-suc B K i, next-rises n (suc i) h (omega arith), next-within n B K ok);
    }

    pub touching-good : AreaOk (area_view n B K) → places_bad n B K ≡ false
    touching-good ok = places-good n touch (touching-fit ok)
