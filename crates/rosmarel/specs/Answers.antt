-- What an exported function hands back as plain numbers, put together as the definitions of the crates below have it.
use Rattle.std.specs.Prelude.{ℕ, List, Result, Ok, Err}
use Rattle.layout.specs.declared.refusals.Refusal.{Refusal}
use Rattle.group.specs.declared.BlockAddr.{BlockAddr}
use Rattle.builder.specs.Calls.{builder_of}
use Rattle.builder.specs.Finish.{Finish, FinishLen}

-- a block from its three numbers
abbrev pub block_with : ℕ → ℕ → ℕ → BlockAddr
block_with start end first = record { start = start; end = end; first_ordinal = first }

-- a finish: its number, the builder's count, the output, the total and the directory's length
abbrev pub finish_by : ℕ → ℕ → List ℕ → ℕ → ℕ → Finish
finish_by k n out total directory = record { no = k; builder = builder_of n; out = out; total = total; directory = directory }

-- a count, or 0 where it is refused
abbrev pub count_given : Result ℕ Refusal → ℕ
count_given (Ok count) = count
count_given (Err refusal) = 0

-- the total that a finish would need: its number and the total; a refusal has all else zero
abbrev pub len_no : FinishLen → ℕ
len_no finished = finished.no

abbrev pub len_total : FinishLen → ℕ
len_total finished = finished.total
