-- Storing what is left into the bytes as they are gives what is wanted.
use Rattle.std.proofs.Common.{◌≡◌, ◌-◌}
use Rattle.std.proofs.lemmas.List.Edits.{sets}
use Rattle.serialize.specs.Digits.{le_bytes}
use Rattle.serialize.proofs.serialize_le.Given as goal

abbrev pub invariant-loop-byte : goal.invariant-loop-byte
invariant-loop-byte l =
    sets l.initial.byte-items 0 (le_bytes l.width l.value) ≡ sets l.byte-items l.byte-index (le_bytes (l.width - l.byte-index) l.rest)
