-- A call is there while calls are left, and is made on what the last one left.
use Rattle.std.proofs.Common.{◌*◌, ap, ◌∙◌, arith}
use Rattle.std.proofs.lemmas.Grind.{common_steps}
use Rattle.std.proofs.lemmas.List.Edits.{sets}
use Rattle.replay_format.proofs.Items.{item_some}
use Rattle.replay.proofs.Turns.{left_start, next_there, left_turn, left_none}
use Rattle.replay.proofs.calls.make_calls.Goals as goal

pub loop-i-init : goal.loop-i-init
loop-i-init c = rw c.new-builder.ensures (left_start c.calls_from-at.ensures.0 c.call_count-i-end.ensures.0)

pub at-requires : goal.at-requires
at-requires c = next_there c.loop-i.invariant c.args.list.now.whole c.loop-i-test.true

pub unwrap-at-requires : goal.unwrap-at-requires
unwrap-at-requires c =
    let there = next_there c.loop-i.invariant c.args.list.now.whole c.loop-i-test.true in
    grind (arith, common_steps, there)

pub loop-i-preserved : goal.loop-i-preserved
loop-i-preserved c =
    let len = item_some _ _ c.call_len.ensures c.unwrap-at.ensures in
    left_turn c.loop-i.invariant c.loop-i-test.true (rw c.at.ensures at c.make_call-number.ensures) len.0 (rw len.0 len.1)
    (c.write.ensures.written ∙ ap (sets c.loop-i.answers (5 * c.loop-i.i)) c.number.ensures)
    (omega arith) (omega arith)

pub returns-clause-leaves_state : goal.returns-clause-leaves_state
returns-clause-leaves_state c = (left_none c.loop-i.invariant c.loop-i-test.false).0

pub returns-clause-answers_after : goal.returns-clause-answers_after
returns-clause-answers_after c = (left_none c.loop-i.invariant c.loop-i-test.false).1
