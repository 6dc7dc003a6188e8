-- Whoever answers the questions left has answered all.
use Rattle.replay.proofs.Asking.{Asking}
use Rattle.replay.proofs.questions.ask_questions.Given as goal

abbrev pub invariant-loop-i : goal.invariant-loop-i
invariant-loop-i l = Asking l.list l.«data» l.fn.from l.i-end l.loaded l.first l.fn.answers l.at l.i l.answers
