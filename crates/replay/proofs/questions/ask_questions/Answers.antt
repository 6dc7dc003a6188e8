-- A question is there while questions are left, and is answered.
use Rattle.std.proofs.Common.{arith}
use Rattle.std.proofs.lemmas.Grind.{common_steps}
use Rattle.replay_format.proofs.Items.{item_some}
use Rattle.replay.proofs.Asking.{asking_start, question_left, asking_turn, asking_none}
use Rattle.replay.proofs.questions.ask_questions.Goals as goal

pub loop-i-init : goal.loop-i-init
loop-i-init c = asking_start

pub at-requires : goal.at-requires
at-requires c = question_left c.loop-i.invariant (rw c.question_count-i-end.ensures.0 c.requires.there) c.loop-i-test.true

pub unwrap-at-requires : goal.unwrap-at-requires
unwrap-at-requires c =
    let there = question_left c.loop-i.invariant (rw c.question_count-i-end.ensures.0 c.requires.there) c.loop-i-test.true in
    grind (arith, common_steps, there)

pub loop-i-preserved : goal.loop-i-preserved
loop-i-preserved c =
    let len = item_some _ _ c.question_len.ensures c.unwrap-at.ensures in
    asking_turn c.loop-i.invariant c.loop-i-test.true len.0 (rw len.0 len.1) c.write.ensures.five
    (rw c.at.ensures at c.answer_in.ensures) c.write.ensures.written

pub returns : goal.returns
returns c = rw (← c.question_count-i-end.ensures.0) (asking_none c.loop-i.invariant c.loop-i-test.false)
