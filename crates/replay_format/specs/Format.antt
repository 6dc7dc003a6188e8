-- A list of calls and questions in bytes: the settings' length (4) and the settings, which are the number of terms (8) and the version (8)
-- that the index is finished and opened with; how many calls and how many questions (4 and 4), the calls, the questions.
-- Each begins with its tag. Numbers are little-endian; a byte string is its length (4) and its bytes.
--     0 add        start 8, end 8, first ordinal 8, key
--     1 shorten    next key
--     2 id 8       3 ordinal 8       4 key       5 key, with its address       6 separator of an id 8
--     7 mark       block 8, automaton
use Rattle.std.specs.Prelude.{ℕ, zero, suc, ◌+◌, List, [], ◌∷◌, Bool, not, ◌||◌, cond, eqb, ltb, leb, length, get_or, take, drop}
use Rattle.serialize.specs.Digits.{number_at}
use Rattle.group.specs.declared.BlockAddr.{BlockAddr}
use Rattle.machine.specs.Plain.{Call, add, shorten_last}

-- what is asked of the finished index
pub data Question : Type 0 where
  by_id : ℕ → Question
  by_ordinal : ℕ → Question
  by_key : List ℕ → Question
  address_by_key : List ℕ → Question
  separator_of : ℕ → Question
  mark_of : ℕ → List ℕ → Question

abbrev pub tag_at : List ℕ → ℕ → ℕ
tag_at s at = get_or s at 0

abbrev pub string_len : List ℕ → ℕ → ℕ
string_len s at = number_at s at 4

abbrev pub string_at : List ℕ → ℕ → List ℕ
string_at s at = take (string_len s at) (drop (at + 4) s)

-- `len` where it is inside the list, else 0
abbrev pub within : List ℕ → ℕ → ℕ → ℕ
within s at len = cond (ltb (length s) (at + len)) 0 len

-- how many bytes the call at `at` takes; 0 where there is none
unfoldable pub call_len : List ℕ → ℕ → ℕ
call_len s at =
    cond (leb (length s) at) 0
    (cond (eqb (tag_at s at) 0) (within s at (29 + string_len s (at + 25)))
    (cond (eqb (tag_at s at) 1) (within s at (5 + string_len s (at + 1))) 0))

-- the block of the add at `at`
abbrev pub added_block : List ℕ → ℕ → BlockAddr
added_block s at = record { start = number_at s (at + 1) 8; end = number_at s (at + 9) 8; first_ordinal = number_at s (at + 17) 8 }

unfoldable pub call_at : List ℕ → ℕ → Call
call_at s at =
    cond (eqb (tag_at s at) 0)
    (add (string_at s (at + 25)) (added_block s at))
    (shorten_last (string_at s (at + 1)))

-- how many bytes the question at `at` takes; 0 where there is none
unfoldable pub question_len : List ℕ → ℕ → ℕ
question_len s at =
    cond (leb (length s) at) 0
    (cond (eqb (tag_at s at) 2 || (eqb (tag_at s at) 3 || eqb (tag_at s at) 6)) (within s at 9)
    (cond (eqb (tag_at s at) 4 || eqb (tag_at s at) 5) (within s at (5 + string_len s (at + 1)))
    (cond (eqb (tag_at s at) 7) (within s at (13 + string_len s (at + 9))) 0)))

unfoldable pub question_at : List ℕ → ℕ → Question
question_at s at =
    cond (eqb (tag_at s at) 2) (by_id (number_at s (at + 1) 8))
    (cond (eqb (tag_at s at) 3) (by_ordinal (number_at s (at + 1) 8))
    (cond (eqb (tag_at s at) 4) (by_key (string_at s (at + 1)))
    (cond (eqb (tag_at s at) 5) (address_by_key (string_at s (at + 1)))
    (cond (eqb (tag_at s at) 6) (separator_of (number_at s (at + 1) 8))
    (mark_of (number_at s (at + 1) 8) (string_at s (at + 9)))))))

-- behind k items from `at` on, whose lengths are given by their places; 0 where one of them isn't there
unfoldable pub behind : (ℕ → ℕ) → ℕ → ℕ → ℕ
behind len at zero = at
behind len at (suc k) = cond (eqb (len at) 0) 0 (behind len (at + len at) k)

-- the k items from `at` on
unfoldable pub items : {X : Type 0} → (ℕ → ℕ) → (ℕ → X) → ℕ → ℕ → List X
items len item at zero = []
items len item at (suc k) = item at ∷ items len item (at + len at) k

-- how many bytes of settings, and where the counts stand after them
abbrev pub settings_len : List ℕ → ℕ
settings_len s = number_at s 0 4

abbrev pub counts_at : List ℕ → ℕ
counts_at s = 4 + settings_len s

-- the settings of every list: the number of terms, then the version
abbrev pub known_len : ℕ
known_len = 16

abbrev pub list_terms : List ℕ → ℕ
list_terms s = number_at s 4 8

abbrev pub list_version : List ℕ → ℕ
list_version s = number_at s 12 8

-- how many calls and questions, and where each begin
abbrev pub call_count : List ℕ → ℕ
call_count s = number_at s (counts_at s) 4

abbrev pub question_count : List ℕ → ℕ
question_count s = number_at s (counts_at s + 4) 4

abbrev pub calls_from : List ℕ → ℕ
calls_from s = counts_at s + 8

abbrev pub questions_from : List ℕ → ℕ
questions_from s = behind (call_len s) (calls_from s) (call_count s)

unfoldable pub calls : List ℕ → List Call
calls s = items (call_len s) (call_at s) (calls_from s) (call_count s)

unfoldable pub questions : List ℕ → List Question
questions s = items (question_len s) (question_at s) (questions_from s) (question_count s)

-- the head isn't one: no length of settings, settings that nobody knows, or no counts
unfoldable pub head_bad : List ℕ → Bool
head_bad s = ltb (length s) 4 || (not (eqb (settings_len s) known_len) || ltb (length s) (calls_from s))

-- the bytes aren't such a list: a bad head, an item that isn't there, or bytes after the last
unfoldable pub list_bad : List ℕ → Bool
list_bad s =
    head_bad s
    || (eqb (questions_from s) 0 || not (eqb (behind (question_len s) (questions_from s) (question_count s)) (length s)))
