-- Lists of calls on a builder with its areas: each call gets the builder that the last one returned and the areas as it left them.
use Rattle.std.specs.Prelude.{ℕ, ◌≡◌, List, [], ◌∷◌, length}
use Rattle.builder.specs.Calls.{State, Called, add_def, shorten_def}
use Rattle.builder.specs.Index.{Settings}
use Rattle.builder.specs.Finish.{Finish, finish_def, finish_in}
use Rattle.machine.specs.Plain.{Call, add, shorten_last, Rooms}

-- no block yet; areas of any length and content
abbrev pub FreshState : State → Type 0
FreshState s = s.builder.n ≡ 0

abbrev pub rooms_of : State → Rooms
rooms_of s = record { blocks = length s.blocks; keys = length s.keys }

unfoldable pub call_def : Call → State → Called
call_def (add key block) s = add_def s.builder s.blocks s.keys key block
call_def (shorten_last next) s = shorten_def s.builder s.blocks s.keys next

unfoldable pub run_numbers : List Call → State → List ℕ
run_numbers [] s = []
run_numbers (c ∷ cs) s = (call_def c s).no ∷ run_numbers cs (call_def c s).state

unfoldable pub run_end : List Call → State → State
run_end [] s = s
run_end (c ∷ cs) s = run_end cs (call_def c s).state

-- the finish after a list of calls, with any settings, and the call of a version
abbrev pub finished_after : Settings → List Call → State → List ℕ → Finish
finished_after S cs s out = finish_def S (run_end cs s).builder (run_end cs s).blocks (run_end cs s).keys out

abbrev pub finished_in : ℕ → List Call → State → List ℕ → Finish
finished_in version cs s out = finish_in version (run_end cs s).builder (run_end cs s).blocks (run_end cs s).keys out
