-- `can_block_match_automaton`: the number and the value of each answer, and what a call promises.
use Rattle.std.specs.Prelude.{ℕ, ◌<◌, ◌≡◌, List, Bool, false, Result, Ok, Err}
use Rattle.std.proofs.Math.Option.{Option}
use Rattle.layout.specs.declared.refusals.Refusal.{Refusal}
use Rattle.layout.specs.Refusals.{number_of, no_of}
use Rattle.automaton.specs.Bits.{Exactly}
use Rattle.automaton.specs.Table.{table_no}
use Rattle.pruning.specs.Interval.{Marked}

abbrev pub matched_no : Result Bool Refusal → ℕ
matched_no = no_of

-- a refusal has all else zero
abbrev pub matches : Result Bool Refusal → Bool
matches (Ok b) = b
matches (Err refusal) = false

-- a refusal has a number above 0
abbrev pub MatchedCased : Result Bool Refusal → Type 0
MatchedCased (Ok b) = Unit {0}
MatchedCased (Err refusal) = 0 < number_of refusal

-- a call with the number k and this answer for the interval (start, end]
pub record CanBlockMatch (t : List ℕ) (start : Option (List ℕ)) (end : List ℕ) (k : ℕ) (answer : Bool) : Type 0 where
  -- rows 21 to 23
  pub number : k ≡ table_no t
  -- the automaton accepts some string of the interval
  pub taken : k ≡ 0 → Exactly answer (Marked t start end)
  pub refused : 0 < k → answer ≡ false
