-- The bytes so far are digits, and the number so far is their value.
use Rattle.std.proofs.Common.{◌≡◌, ◌≤◌, ◌<◌, get_or, take, ℕ}
use Rattle.std.specs.Str.Parse.{digits_value}
use Rattle.case_text.proofs.decimal.Given as goal

abbrev pub invariant-loop-byte : goal.invariant-loop-byte
invariant-loop-byte l =
    ((k : ℕ) → k < l.byte-index → (48 ≤ get_or l.token k 0) × (get_or l.token k 0 ≤ 57))
    × (l.number ≡ digits_value 10 (take l.byte-index l.token))
