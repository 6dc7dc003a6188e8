-- The calls left, made on what the last one left, leave and answer what all calls do.
use Rattle.replay.proofs.Turns.{Left}
use Rattle.replay.proofs.calls.make_calls.Given as goal

abbrev pub invariant-loop-i : goal.invariant-loop-i
invariant-loop-i l = Left l.bytes l.fn.blocks l.fn.keys l.fn.answers l.i-end l.i l.at l.builder l.blocks l.keys l.answers
