-- What a list's calls and the finish after them answer and leave, from the plain machine and its entries.
use Rattle.std.specs.Prelude.{ℕ, List, [], ◌∷◌, ◌++◌, cond, eqb, leb}
use Rattle.layout.specs.Versions.{version_no}
use Rattle.group.specs.Rows.{or_row}
use Rattle.builder.specs.Calls.{State, builder_of}
use Rattle.builder.specs.Index.{Settings, settings}
use Rattle.builder.specs.Finish.{Finish}
use Rattle.machine.specs.Plain.{Entry}
use Rattle.machine.specs.Finished.{plain_finish_in}
use Rattle.demands.specs.Demand3.{entries_of_calls, last_first_of}
use Rattle.replay_format.specs.Format.{calls, list_version}
use Rattle.replay_cells.specs.Cells.{cells}

-- a call's is its number
unfoldable pub call_cells : List ℕ → List ℕ
call_cells [] = []
call_cells (k ∷ ks) = cells k 0 0 0 0 ++ call_cells ks

-- a finish's is its number, the total and the directory's length
abbrev pub finish_cells : Finish → List ℕ
finish_cells f = cells f.no f.total f.directory 0 0

-- what a list's finish is made with: what its version has
abbrev pub finish_settings : List ℕ → Settings
finish_settings s = settings (list_version s)

-- a fresh builder with the lent areas, and the machine's entries after the list's calls
abbrev pub fresh_of : List ℕ → List ℕ → State
fresh_of B K = record { builder = builder_of 0; blocks = B; keys = K }

abbrev pub entries_of : List ℕ → List ℕ → List ℕ → List Entry
entries_of s B K = entries_of_calls (calls s) (fresh_of B K)

-- what finish answers and leaves
abbrev pub finish_of_list : List ℕ → List ℕ → List ℕ → List ℕ → Finish
finish_of_list s B K out = plain_finish_in (list_version s) (entries_of s B K) out

-- the number that the first total bytes get, opened alone with a version: 30 for one that no index has; no bytes get 10, and an index of
-- the entries 28 with a number of terms that isn't above the last first ordinal
unfoldable pub open_number : ℕ → ℕ → List Entry → Finish → ℕ
open_number version terms es f =
    or_row (version_no version) (cond (eqb f.total 0) 10 (cond (leb terms (last_first_of es)) 28 0))

-- the number of the check of document 02's wish 3 for them: 0 for an index of two blocks or more, 10 for no bytes
unfoldable pub check_number : ℕ → Finish → ℕ
check_number version f = or_row (version_no version) (cond (eqb f.total 0) 10 0)

-- an opening's is its number, and behind it the check's
abbrev pub opening_cells : ℕ → ℕ → List Entry → Finish → List ℕ
opening_cells version terms es f = cells (open_number version terms es f) (check_number version f) 0 0 0
