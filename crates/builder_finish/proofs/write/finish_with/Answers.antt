-- `finish_with` meets its contract: row 9, or the index written.
use Rattle.std.proofs.Common.{arith}
use Rattle.builder.specs.Index.{settings_of}
use Rattle.builder.proofs.FinishNumbers.{finish-short, finish-taken, finish-none}
use Rattle.builder_finish.proofs.write.finish_with.Goals as goal

pub returns-then-out-total : goal.returns-then-out-total
returns-then-out-total g c =
    let a = c.args.list.now.areas in
    finish-short (settings_of c.args.group_len) a.builder a.blocks.now a.keys.now c.args.out.now c.args.list.now.checked
    (omega (arith, c.if-out-total.true, c.plan_index-total.ensures.value))

pub returns-then-builder-lt2 : goal.returns-then-builder-lt2
returns-then-builder-lt2 g c =
    let a = c.args.list.now.areas in
    finish-none (settings_of c.args.group_len) a.builder a.blocks.now a.keys.now c.args.out.now c.args.list.now.checked
    (omega (arith, c.if-out-total.false, c.plan_index-total.ensures.value)) c.if-builder-lt2.true

pub returns : goal.returns
returns g c =
    let a = c.args.list.now.areas in
    let call = c.write_index-directory_len in
    let len = c.plan_index-total in
    finish-taken (settings_of c.args.group_len) a.builder a.blocks.now a.keys.now c.args.out.now c.args.list.now.checked call.new.out
    len.result call.result (omega (arith, c.if-out-total.false, len.ensures.value))
    call.ensures.written len.ensures.value call.ensures.directory
