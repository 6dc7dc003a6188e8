-- The example call (SPECIFICATION 11.8, rows 21 to 25): the first accepted string of an interval is written.
use Rattle.std.specs.Prelude.{ℕ, ◌+◌, ◌≤◌, ◌<◌, max, ◌≡◌, List, length, Result, Ok, Err}
use Rattle.std.proofs.Math.Option.{Option, none, some}
use Rattle.std.proofs.lemmas.List.Edits.{sets}
use Rattle.layout.specs.declared.refusals.Refusal.{Refusal}
use Rattle.layout.specs.Refusals.{number_of, no_of}
use Rattle.keys.specs.Order.{◌≼◌}
use Rattle.automaton.specs.Table.{table_no}
use Rattle.automaton.specs.Words.{Hits}
use Rattle.pruning.specs.Interval.{AboveStart, Marked}
use Rattle.example_leaving.specs.First.{FirstIn}

-- the longer key's length; an absent start is no key
abbrev pub longer : Option (List ℕ) → List ℕ → ℕ
longer none end = length end
longer (some start) end = max (length start) (length end)

-- the number, by the rows in their order: 21 to 23, then 24 under longer key + 64 bytes, then 25 where there is no such string
pub data ExampleNo (t : List ℕ) (start : Option (List ℕ)) (end : List ℕ) (room : ℕ) : ℕ → Type 0 where
  table : (no : ℕ) → 0 < no → no ≡ table_no t → ExampleNo t start end room no
  short : table_no t ≡ 0 → room < longer start end + 64 → ExampleNo t start end room 24
  nothing : table_no t ≡ 0 → longer start end + 64 ≤ room → (Marked t start end → ⊥) → ExampleNo t start end room 25
  accepted : table_no t ≡ 0 → longer start end + 64 ≤ room → Marked t start end → ExampleNo t start end room 0

-- the accepted strings of the interval
abbrev pub Accepted : List ℕ → Option (List ℕ) → List ℕ → List ℕ → Type 0
Accepted t start end w = Hits t 0 w × AboveStart start w × (w ≼ end)

-- the shortest of them, and of those the lowest in byte order
abbrev pub FirstExample : List ℕ → Option (List ℕ) → List ℕ → List ℕ → Type 0
FirstExample t start end = FirstIn (Accepted t start end)

-- the first `len` bytes written are that string, and not too long; the bytes behind stay
pub record Shown (t : List ℕ) (start : Option (List ℕ)) (end out written : List ℕ) (len : ℕ) : Type 0 where
  pub string : List ℕ
  pub first : FirstExample t start end string
  pub whole : len ≡ length string
  pub short : len ≤ longer start end + 64
  pub bytes : written ≡ sets out 0 string

-- the number and the length of each answer; a refusal has all else zero
abbrev pub example_answer_no : Result ℕ Refusal → ℕ
example_answer_no = no_of

abbrev pub example_answer_len : Result ℕ Refusal → ℕ
example_answer_len (Ok len) = len
example_answer_len (Err refusal) = 0

-- a refusal has a number above 0
abbrev pub ExampleAnswerCased : Result ℕ Refusal → Type 0
ExampleAnswerCased (Ok len) = Unit {0}
ExampleAnswerCased (Err refusal) = 0 < number_of refusal

-- what a call with the number k leaves: its length, and the output
pub record ExampleLeaves (t : List ℕ) (start : Option (List ℕ)) (end out written : List ℕ) (k len : ℕ) : Type 0 where
  pub taken : k ≡ 0 → Shown t start end out written len
  pub refused : 0 < k → (len ≡ 0) × (written ≡ out)

-- a call for an example of the interval (start, end]
pub record ExampleFor (t : List ℕ) (start : Option (List ℕ)) (end out written : List ℕ) (k len : ℕ) : Type 0 where
  pub number : ExampleNo t start end (length out) k
  pub leaves : ExampleLeaves t start end out written k len
