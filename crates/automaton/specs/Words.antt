-- What an automaton accepts (SPECIFICATION 11.1): the byte strings whose run from state 0 ends in a state with flag 1.
use Rattle.std.specs.Prelude.{ℕ, ◌<◌, ◌≡◌, List, [], ◌∷◌}
use Rattle.automaton.specs.Bits.{bit}
use Rattle.automaton.specs.Table.{states, flag, next}

-- a byte string
abbrev pub Bytes : List ℕ → Type 0
Bytes [] = Unit {0}
Bytes (b ∷ w) = (b < 256) × Bytes w

-- where w leads from the state s
unfoldable pub run : List ℕ → ℕ → List ℕ → ℕ
run t s [] = s
run t s (b ∷ w) = run t (next t s b) w

-- the byte string w leads from s to acceptance
pub record Hits (t : List ℕ) (s : ℕ) (w : List ℕ) : Type 0 where
  pub bytes : Bytes w
  pub ends : flag t (run t s w) ≡ 1

-- some byte string of which P holds leads from s to acceptance
pub record Accepts (t : List ℕ) (s : ℕ) (P : List ℕ → Type 0) : Type 0 where
  pub string : List ℕ
  pub hits : Hits t s string
  pub good : P string

-- `can_match` (SPECIFICATION 11.2): some byte string leads from s to acceptance
abbrev pub CanMatch : List ℕ → ℕ → Type 0
CanMatch t s = Accepts t s (λ w. Unit {0})

-- bit s of the word is set exactly when s can match, for every state
pub record Reach (t : List ℕ) (word : ℕ) : Type 0 where
  pub up : (s : ℕ) → s < states t → bit word s ≡ 1 → CanMatch t s
  pub down : (s : ℕ) → s < states t → CanMatch t s → bit word s ≡ 1
