-- `places_bad` meets its contract: `next` is where the next key starts, for as long as the keys stand right.
use Rattle.std.proofs.Common.{◌≡◌, ◌≢◌, ◌⊎◌, ⊎_elim, ◌+◌, length, ℕ, true, false, refl, sym, rules, tests, ◌∙◌}
use Rattle.layout.proofs.Fronts.{one-hit, one-more}
use Rattle.builder.specs.Area.{area_place, area_view}
use Rattle.builder.specs.Rows.{record_bad}
use Rattle.builder.specs.Finish.{places_bad}
use Rattle.builder.proofs.Row8.{next_one, places-fronts, offset-hit, record-hit, place-good}
use Rattle.builder.proofs.Views.{next-none}
use Rattle.layout.proofs.Turns.{none-told}
use Rattle.directory.proofs.Turns.{tried}
use Rattle.builder_list.proofs.places_bad.Goals as goal

pub returns : goal.returns
unfolding places_bad
returns c =
    let a = c.args.areas.now in
    let B = a.blocks.now in
    let K = a.keys.now in
    let told = tried _ _ _ (λ (i next : ℕ). (places_bad i B K ≡ false) × ((area_view i B K).next_key ≡ next))
    (λ i next after q good called.
    let turn : (q ≡ _) × ((area_place B i).offset ≡ next) × (record_bad (length K) (area_place B i) ≡ false)
    × (after ≡ next + (area_place B i).len) = search (rules, tests) in (
      turn.0,
      (one-more (places-fronts B K) i good.0 (place-good B K i (turn.1 ∙ sym good.1) turn.2), search (rules, next_one, turn)),
    ))
    a.builder.n 0 c.try_fold.result _ c.try_fold.ensures.ran
    (refl, next-none _ _ _ refl) (true ≡ places_bad a.builder.n B K)
    (λ i next q below good called.
    let hit : ((area_place B i).offset ≢ next) ⊎ (record_bad (length K) (area_place B i) ≡ true) = search (rules, tests) in
    sym
    (one-hit (places-fronts B K) a.builder.n i below
    (⊎_elim (λ e. offset-hit B K i (λ same. e (same ∙ good.1))) (λ e. record-hit B K i e) hit))) in
    none-told _ (places_bad a.builder.n B K) c.is_none.result c.try_fold.result c.is_none.ensures told
