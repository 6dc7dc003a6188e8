-- What the code's own answers stand for.
use Rattle.std.specs.Prelude.{ℕ, List}
use Rattle.builder.specs.declared.SSTableIndexBuilder.{SSTableIndexBuilder}
use Rattle.builder.specs.Calls.{State, Called as Left}

-- the state that a call left, with its areas, and the call's number beside it
abbrev pub state_of : SSTableIndexBuilder → List ℕ → List ℕ → State
state_of b B K = record { builder = b; blocks = B; keys = K }

abbrev pub leaves : ℕ × SSTableIndexBuilder → List ℕ → List ℕ → Left
leaves made B K = record { no = made.0; state = state_of made.1 B K }
