-- The interval of a block's keys (SPECIFICATION 11.4): above its start, if it has one, and not above its end.
use Rattle.std.specs.Prelude.{ℕ, List, Bool, true, false, Option as MayBe, Some, None}
use Rattle.std.specs.Borrow.{Bor}
use Rattle.std.proofs.Math.Option.{Option, none, some}
use Rattle.keys.specs.Order.{◌≺◌, ◌≼◌}
use Rattle.automaton.specs.Words.{Accepts}

-- the start that a flag and a key give: where it is absent, the key is ignored
abbrev pub start_of : Bool → List ℕ → Option (List ℕ)
start_of true key = some key
start_of false key = none

-- the start that a lent key gives, if there is one
abbrev pub start_now : MayBe (Bor (List ℕ)) → Option (List ℕ)
start_now (Some key) = some key.now
start_now None = none

-- w is above the start, if there is one
abbrev pub AboveStart : Option (List ℕ) → List ℕ → Type 0
AboveStart none w = Unit {0}
AboveStart (some start) w = start ≺ w

-- an accepted string lies in the interval
abbrev pub Marked : List ℕ → Option (List ℕ) → List ℕ → Type 0
Marked t start end = Accepts t 0 (λ w. AboveStart start w × (w ≼ end))

-- from the state s on it accepts some byte string above the key
abbrev pub MatchAbove : List ℕ → ℕ → List ℕ → Type 0
MatchAbove t s key = Accepts t s (λ w. key ≺ w)

-- from the state s on it accepts some byte string above start and not above end
abbrev pub MatchBetween : List ℕ → ℕ → List ℕ → List ℕ → Type 0
MatchBetween t s start end = Accepts t s (λ w. (start ≺ w) × (w ≼ end))
