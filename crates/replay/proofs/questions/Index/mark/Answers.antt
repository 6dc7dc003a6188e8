-- What is refused, and what is listed over zeros.
use Rattle.layout.proofs.Places.{get_or-replicate_same}
use Rattle.replay.proofs.Answers.{zeros-long, unlisted_answer, listed_answer}
use Rattle.replay.proofs.questions.Index.mark.Goals as goal

pub returns-in-Ok : goal.returns-in-Ok
returns-in-Ok c = λ S terms es x.
    rw c.mark_at.ensures
    (listed_answer x _ _ _ _ _ c.get_block_for_automaton.ensures (zeros-long 65536) _ c.in-Ok.is (get_or-replicate_same 0 65536))

pub returns-in-Err : goal.returns-in-Err
returns-in-Err c = λ S terms es x.
    rw c.from.ensures
    (unlisted_answer x _ _ _ _ _ c.get_block_for_automaton.ensures (zeros-long 65536) _ c.in-Err.is)
