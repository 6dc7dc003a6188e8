-- What replaying a list answers and leaves, from the plain machine and its entries: demand 3 on running code.
use Rattle.std.specs.Prelude.{ℕ, ◌+◌, ◌*◌, ◌<◌, ◌≡◌, List, [], ◌∷◌, ◌++◌, cond, ◌⊎◌, ltb, length, get_or, Option, Some, None}
use Rattle.std.proofs.lemmas.List.Edits.{sets}
use Rattle.group.specs.declared.BlockAddr.{BlockAddr}
use Rattle.builder.specs.Index.{Settings}
use Rattle.machine.specs.Plain.{Entry, plain_numbers, plain_index}
use Rattle.machine.specs.Runs.{rooms_of, run_end}
use Rattle.automaton.specs.Table.{table_no}
use Rattle.index.specs.Answers.{part_at}
use Rattle.index.specs.Lookups.{ByIdExact, ByOrdExact, ByKeyExact, AddrByKeyExact}
use Rattle.listing.specs.Marks.{Marks, count_ones}
use Rattle.demands.specs.Demand3.{entry_block, entry_separator, entry_place}
use Rattle.replay_format.specs.Format.{
  Question,
  by_id,
  by_ordinal,
  by_key,
  address_by_key,
  separator_of,
  mark_of,
  calls,
  questions,
  call_count,
  question_count,
  list_terms,
  list_version,
  list_bad,
}
use Rattle.replay_cells.specs.Cells.{cells}
use Rattle.replay.specs.Made.{call_cells, finish_cells, opening_cells, finish_settings, fresh_of, entries_of}
use Rattle.replay.specs.Made.{finish_of_list, open_number}

-- by id: the entry's block, or 17
pub record IdAnswer (es : List Entry) (id : ℕ) (cs : List ℕ) : Type 0 where
  pub no : ℕ
  pub addr : BlockAddr
  pub written : cs ≡ cells no 0 addr.start addr.end addr.first_ordinal
  pub right : ByIdExact (entry_block es) (length es) id no addr

-- by ordinal in an index that was opened with a number of terms: id and block, or 18 or 29
pub record OrdAnswer (terms : ℕ) (es : List Entry) (ord : ℕ) (cs : List ℕ) : Type 0 where
  pub no : ℕ
  pub id : ℕ
  pub addr : BlockAddr
  pub written : cs ≡ cells no id addr.start addr.end addr.first_ordinal
  pub right : ByOrdExact (entry_block es) (length es) terms ord no id addr

-- by key: the id, or 19
pub record KeyAnswer (es : List Entry) (key : List ℕ) (cs : List ℕ) : Type 0 where
  pub no : ℕ
  pub id : ℕ
  pub written : cs ≡ cells no id 0 0 0
  pub right : ByKeyExact (entry_separator es) (length es) key no id

-- the same with its address
pub record AddrAnswer (es : List Entry) (key : List ℕ) (cs : List ℕ) : Type 0 where
  pub no : ℕ
  pub id : ℕ
  pub addr : BlockAddr
  pub written : cs ≡ cells no id addr.start addr.end addr.first_ordinal
  pub right : AddrByKeyExact (entry_separator es) (entry_block es) (length es) key no id addr

-- a separator's place as five numbers: offset, length and 1, or zeros where there is none
abbrev pub place_cells : Option (ℕ × ℕ) → List ℕ
place_cells (Some place) = cells 0 place.0 place.1 1 0
place_cells None = cells 0 0 0 0 0

-- a separator's place in the index, and that it stands there
pub record SeparatorAnswer (S : Settings) (es : List Entry) (id : ℕ) (cs : List ℕ) : Type 0 where
  pub place : cs ≡ place_cells (entry_place es id)
  pub bytes : id < length es → part_at (plain_index S es) (entry_place es id) ≡ entry_separator es id

-- a listing of the automaton's blocks: its number, or the count of ones and mark i
pub record MarkAnswer (es : List Entry) (i : ℕ) (t : List ℕ) (cs : List ℕ) : Type 0 where
  pub refused : 0 < table_no t → cs ≡ cells (table_no t) 0 0 0 0
  pub marks : List ℕ
  pub listed : table_no t ≡ 0 → Marks t (entry_separator es) (length es) marks × (cs ≡ cells 0 (count_ones marks) (get_or marks i 0) 0 0)

abbrev pub AnswerTo : Settings → ℕ → List Entry → Question → List ℕ → Type 0
AnswerTo S terms es (by_id id) cs = IdAnswer es id cs
AnswerTo S terms es (by_ordinal ord) cs = OrdAnswer terms es ord cs
AnswerTo S terms es (by_key key) cs = KeyAnswer es key cs
AnswerTo S terms es (address_by_key key) cs = AddrAnswer es key cs
AnswerTo S terms es (separator_of id) cs = SeparatorAnswer S es id cs
AnswerTo S terms es (mark_of i t) cs = MarkAnswer es i t cs

-- a question to an index that opened, or to one that didn't: opening's number
abbrev pub AnswerIn : ℕ → Settings → ℕ → List Entry → Question → List ℕ → Type 0
AnswerIn k S terms es q cs = ((k ≡ 0) × AnswerTo S terms es q cs) ⊎ ((0 < k) × (cs ≡ cells k 0 0 0 0))

-- all of them, one after the other
pub data Answered (no : ℕ) (S : Settings) (terms : ℕ) (es : List Entry) : List Question → List ℕ → Type 0 where
  no_more : Answered no S terms es [] []
  one_more : {q : Question} {qs : List Question} {c cs : List ℕ} → AnswerIn no S terms es q c → Answered no S terms es qs cs
      → Answered no S terms es (q ∷ qs) (c ++ cs)

-- 101: the bytes aren't a list; 102: not five numbers of room for each call, finish, opening and each question
unfoldable pub replay_no : List ℕ → ℕ → ℕ
replay_no s room = cond (list_bad s) 101 (cond (ltb room (5 * (call_count s + 2 + question_count s))) 102 0)

-- what a list leaves: the areas as its calls leave them, the output as finish does, and the answers
pub record Replayed (s B K out answers B' K' out' answers' : List ℕ) : Type 0 where
  pub blocks : B' ≡ (run_end (calls s) (fresh_of B K)).blocks
  pub keys : K' ≡ (run_end (calls s) (fresh_of B K)).keys
  pub output : out' ≡ (finish_of_list s B K out).out
  pub asked : List ℕ
  pub answered : Answered (open_number (list_version s) (list_terms s) (entries_of s B K) (finish_of_list s B K out)) (finish_settings s)
      (list_terms s) (entries_of s B K) (questions s) asked
  pub written : answers'
      ≡ sets answers 0
      (call_cells (plain_numbers (rooms_of (fresh_of B K)) (calls s) [])
      ++ (finish_cells (finish_of_list s B K out)
      ++ (opening_cells (list_version s) (list_terms s) (entries_of s B K) (finish_of_list s B K out) ++ asked)))
