-- What add and shorten leave, for all inputs: the number, the builder and both areas.
use Rattle.std.specs.Prelude.{ℕ, zero, suc, ◌+◌, ◌-◌, ◌*◌, ◌<◌, List, cond, eqb, length, set, Result, Ok, Err}
use Rattle.std.proofs.lemmas.List.Edits.{sets}
use Rattle.layout.specs.declared.refusals.Refusal.{Refusal}
use Rattle.layout.specs.Refusals.{number_of}
use Rattle.keys.specs.Shorten.{shorten}
use Rattle.group.specs.declared.BlockAddr.{BlockAddr}
use Rattle.builder.specs.View.{stride}
use Rattle.builder.specs.Rows.{add_no, shorten_no}
use Rattle.builder.specs.Area.{key_len_field, record_numbers, area_place, area_key, view_of}
use Rattle.builder.specs.declared.SSTableIndexBuilder.{SSTableIndexBuilder}
use Rattle.builder.specs.declared.Refused.{Refused}

-- a builder of n blocks, and a builder with another count
abbrev pub builder_of : ℕ → SSTableIndexBuilder
builder_of n = record { n = n }

abbrev pub with_blocks : SSTableIndexBuilder → ℕ → SSTableIndexBuilder
with_blocks b n = record { n = n }

-- a builder with its two areas, before or after a call
pub record State : Type 0 where
  pub builder : SSTableIndexBuilder
  pub blocks : List ℕ
  pub keys : List ℕ

-- what a call answers: its number, and the state that it leaves
pub record Called : Type 0 where
  pub no : ℕ
  pub state : State

-- an answer whose refusal hands a builder back
abbrev pub handed_back : {A : Type 0} → SSTableIndexBuilder → Result A Refusal → Result A Refused
handed_back b (Ok taken) = Ok taken
handed_back b (Err refusal) = Err (record { refusal = refusal; builder = b })

-- the table's number and the builder for an answer, and all that a call leaves
abbrev pub answer_no : Result SSTableIndexBuilder Refused → ℕ
answer_no (Ok b) = 0
answer_no (Err refused) = number_of refused.refusal

abbrev pub answer_builder : Result SSTableIndexBuilder Refused → SSTableIndexBuilder
answer_builder (Ok b) = b
answer_builder (Err refused) = refused.builder

abbrev pub called_with : ℕ → SSTableIndexBuilder → List ℕ → List ℕ → Called
called_with k b B K = record { no = k; state = record { builder = b; blocks = B; keys = K } }

abbrev pub called : Result SSTableIndexBuilder Refused → List ℕ → List ℕ → Called
called r B K = called_with (answer_no r) (answer_builder r) B K

-- a refusal has a number above 0
abbrev pub AnswerCased : Result SSTableIndexBuilder Refused → Type 0
AnswerCased (Ok b) = Unit {0}
AnswerCased (Err refused) = 0 < number_of refused.refusal

-- an add whose number is known: it appends its five numbers and its key, or changes nothing
unfoldable pub step_of_add : ℕ → SSTableIndexBuilder → List ℕ → List ℕ → List ℕ → BlockAddr → Called
step_of_add zero b B K key block =
    called_with 0 (with_blocks b (b.n + 1))
    (sets B (stride * b.n) (record_numbers block (record { offset = (view_of b B K).next_key; len = length key })))
    (sets K (view_of b B K).next_key key)
step_of_add (suc k) b B K key block = called_with (suc k) b B K

unfoldable pub add_def : SSTableIndexBuilder → List ℕ → List ℕ → List ℕ → BlockAddr → Called
add_def b B K key block = step_of_add (add_no (view_of b B K) key block) b B K key block

-- the areas after an accepted shorten: the last key's shortened form over the front of it, and its length
unfoldable pub short_blocks : ℕ → List ℕ → List ℕ → List ℕ → List ℕ
short_blocks n B K next =
    cond (eqb n 0) B (set B (stride * (n - 1) + key_len_field) (length (shorten (area_key B K (n - 1)) next)))

unfoldable pub short_keys : ℕ → List ℕ → List ℕ → List ℕ → List ℕ
short_keys n B K next = cond (eqb n 0) K (sets K (area_place B (n - 1)).offset (shorten (area_key B K (n - 1)) next))

-- a shorten whose number is known
unfoldable pub step_of_shorten : ℕ → SSTableIndexBuilder → List ℕ → List ℕ → List ℕ → Called
step_of_shorten zero b B K next = called_with 0 b (short_blocks b.n B K next) (short_keys b.n B K next)
step_of_shorten (suc k) b B K next = called_with (suc k) b B K

unfoldable pub shorten_def : SSTableIndexBuilder → List ℕ → List ℕ → List ℕ → Called
shorten_def b B K next = step_of_shorten (shorten_no (view_of b B K) next) b B K next
