-- The numbers of what keeps a list from being replayed.
use Rattle.std.specs.Prelude.{ℕ, Result, Ok, Err}
use Rattle.replay.specs.declared.ReplayError.{ReplayError}
use Rattle.replay.specs.declared.ReplayError.TheVariants.{NoList, NoRoom}

abbrev pub error_no : ReplayError → ℕ
error_no NoList = 101
error_no NoRoom = 102

-- an answer's number: 0 where the list is replayed
abbrev pub answer_no : Result (Unit {0}) ReplayError → ℕ
answer_no (Ok done) = 0
answer_no (Err error) = error_no error
