-- A record that its own test refuses has no separator.
use Rattle.std.proofs.Common.{◌≡◌, sym, ◌∙◌, Result, Ok, Err, None, MatchResult}
use Rattle.std.specs.Result.{result_ok}
use Rattle.index.proofs.Places.{place-bad}
use Rattle.index_lookup.proofs.grouped.separator_place.Goals as goal

-- what each refusal says holds where nothing came
refused : {X Y : Type 0} (Q : X → Type 0) (P : Y → Type 0) (G : Type 0) → ((y : Y) → P y → G) → (r : Result X Y) → MatchResult r Q P
    → result_ok r ≡ None → G
refused Q P G g (Ok x) h e = absurd (cc)
refused Q P G g (Err y) h e = g y h

pub returns-in_err-ok : goal.returns-in_err-ok
returns-in_err-ok c =
    let a = c.args in
    c.from_residual.ensures
    ∙ sym (place-bad a.group_len a.opened a.«data».now a.block_id
    (refused _ _ _ (λ y h. h.1) c.check.result c.check.ensures (sym c.ok.ensures.value ∙ c.in_err-ok.was)))
