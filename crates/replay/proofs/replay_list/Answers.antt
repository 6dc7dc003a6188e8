-- The calls, the finish on what they left, and the questions to what it wrote.
use Rattle.std.proofs.Common.{length, sym, arith}
use lib.Seq.{length-take-le}
use Rattle.replay.specs.Made.{finish_settings, entries_of}
use Rattle.replay.proofs.Whole.{replay_ok, questions_there, total-fits, opened-list, replayed}
use Rattle.replay.proofs.replay_list.Goals as goal

pub make_calls-builder-requires : goal.make_calls-builder-requires
make_calls-builder-requires c = omega (arith, replay_ok c.args.list.now.head.list.now (length c.args.answers.now) c.requires)

pub finish_list-total-requires : goal.finish_list-total-requires
finish_list-total-requires c =
    let room = replay_ok c.args.list.now.head.list.now (length c.args.answers.now) c.requires in
    omega (arith, room, c.call_count-count.ensures.0, c.make_calls-builder.auto.answers)

-- what is opened lies inside the output
pub slice_bounds-open_list-end : goal.slice_bounds-open_list-end
slice_bounds-open_list-end c =
    let a = c.args in
    let m = c.make_calls-builder in
    let l = c.finish_list-total in
    total-fits a.list.now.head.list.now a.blocks.now a.keys.now a.out.now m.new.blocks m.new.keys m.result m.ensures.leaves_state
    l.result l.new.out (rw c.version.ensures at l.ensures.value) (rw c.version.ensures at l.ensures.out_after) l.auto.out

pub slice_bounds-open_list-end-2 : goal.slice_bounds-open_list-end-2
slice_bounds-open_list-end-2 c = sym (length-take-le _ _ (slice_bounds-open_list-end c))

pub open_list-requires-clause-there : goal.open_list-requires-clause-there
open_list-requires-clause-there c = questions_there _ _ c.args.list.now.counted c.args.list.now.head.good c.args.list.now.whole

pub open_list-requires-clause-room : goal.open_list-requires-clause-room
open_list-requires-clause-room c =
    let room = replay_ok c.args.list.now.head.list.now (length c.args.answers.now) c.requires in
    omega (arith, room, c.call_count-count.ensures.0, c.make_calls-builder.auto.answers, c.finish_list-total.auto.answers)

pub returns : goal.returns
returns c =
    let a = c.args in
    let s = a.list.now.head.list.now in
    let m = c.make_calls-builder in
    let l = c.finish_list-total in
    replayed s a.blocks.now a.keys.now a.out.now m.new.blocks m.new.keys m.result m.ensures.leaves_state
    a.answers.now c.call_count-count.result c.call_count-count.ensures.0 _ _ _ l.new.out
    m.ensures.answers_after (rw c.version.ensures at l.ensures.out_after) (rw c.version.ensures at l.ensures.answers_after) _
    a.list.now.counted
    (c.open_list.ensures _ _ (finish_settings s) (entries_of s a.blocks.now a.keys.now)
    (opened-list s a.blocks.now a.keys.now a.out.now m.new.blocks m.new.keys m.result m.ensures.leaves_state
    l.result l.new.out (rw c.version.ensures at l.ensures.value) (rw c.version.ensures at l.ensures.out_after)))
