-- What a try_fold whose turns hand on a value, or stop, tells of the test that its function answers.
use Rattle.std.proofs.Common.{◌≡◌, Bool, true, false, not, is_some, true≢false, ControlFlow, sym}
use Rattle.std.specs.Prelude.{Option, None, Some, MatchOption}
use Rattle.std.specs.ControlFlow.{continue_value}

-- a turn's value as the fold takes it
abbrev pub goes : {B : Type 0} (E : Type 0) → Option B → ControlFlow E B → Type 0
goes E v c = v ≡ continue_value c

-- a test that is told by whether r is none
pub none-told : {B : Type 0} (Good : B → Type 0) (bad t : Bool) (r : Option B) → is_some r ≡ not t
    → MatchOption r (true ≡ bad) (λ b. (bad ≡ false) × Good b) → t ≡ bad
none-told Good bad true None e hit = hit
none-told Good bad false (Some b) e good = sym good.0
none-told Good bad false None e hit = absurd (true≢false (sym e))
none-told Good bad true (Some b) e good = absurd (true≢false e)
