-- A pair that breaks a rule makes all pairs bad; one that keeps them leaves those up to it good, and the next key begins where it ends.
use Rattle.std.proofs.Common.{◌≡◌, ◌≢◌, ◌⊎◌, ⊎_elim, ℕ, ◌+◌, ◌*◌, ◌≤◌, ◌<◌, true, false, refl, sym, ◌∙◌, rules, tests}
use Rattle.serialize.specs.Digits.{number_at}
use Rattle.layout.proofs.Fronts.{one-hit, one-more}
use Rattle.layout.proofs.Turns.{none-told}
use Rattle.directory.specs.Read.{key_begin, pairs_bad}
use Rattle.directory.proofs.Rules.{pairs-fronts, offset-bad, length-bad, pair-good, next-begin}
use Rattle.directory.proofs.Turns.{tried}
use Rattle.directory_check.proofs.pairs_bad.Goals as goal

pub returns : goal.returns
unfolding pairs_bad key_begin
returns c =
    let d = c.args.directory.now in
    let n = c.args.n in
    let told = tried _ _ _ (λ (i begin : ℕ). (pairs_bad d i ≡ false) × (begin ≡ key_begin d i))
    (λ i begin after q good called.
    let turn : (q ≡ _) × (number_at d (4 + 8 * i) 4 ≡ begin) × (number_at d (4 + 8 * i + 4) 4 ≤ 1024)
    × (after ≡ begin + number_at d (4 + 8 * i + 4) 4) = search (rules, tests) in (
      turn.0,
      (
        one-more (pairs-fronts d) i good.0 (pair-good d i _ _ begin refl refl good.1 turn.1 turn.2),
        turn.3 ∙ next-begin d i _ _ begin refl refl good.1 turn.1,
      ),
    ))
    n 0 c.try_fold.result _ c.try_fold.ensures.ran (refl, refl) (true ≡ pairs_bad d n)
    (λ i begin q below good called.
    let hit : (number_at d (4 + 8 * i) 4 ≢ begin) ⊎ (1024 < number_at d (4 + 8 * i + 4) 4) = search (rules, tests) in
    sym (one-hit (pairs-fronts d) n i below (⊎_elim (λ e. offset-bad d i _ _ begin refl refl good.1 e)
    (λ e. length-bad d i _ _ begin refl refl good.1 e) hit))) in
    none-told _ (pairs_bad d n) c.is_none.result c.try_fold.result c.is_none.ensures told
