-- What was taken stays inside the areas, which keep their lengths.
use Rattle.std.proofs.Common.{◌≡◌, ◌≤◌, length}
use Rattle.case_text.proofs.take_tokens.Given as goal

abbrev pub invariant-loop-token : goal.invariant-loop-token
invariant-loop-token l =
    (l.held.numbers ≤ length l.numbers) × (l.held.bytes ≤ length l.bytes) × (l.held.strings ≤ length l.spans)
    × (length l.numbers ≡ length l.initial.numbers) × (length l.bytes ≡ length l.initial.bytes)
    × (length l.spans ≡ length l.initial.spans)
