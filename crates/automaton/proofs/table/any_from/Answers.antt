-- The loop takes what is left one byte further, and at its end nothing is left.
use Rattle.std.proofs.Common.{sym, ◌∙◌, arith}
use Rattle.automaton.proofs.Refusal.{any_step, any-end}
use Rattle.automaton.proofs.table.any_from.Goals as goal

pub loop-byte-preserved : goal.loop-byte-preserved
loop-byte-preserved c =
    let l = c.loop-byte in
    l.invariant ∙ any_step c.args.bound c.args.bytes.now l.byte-index l.found (omega arith)

pub returns : goal.returns
returns c =
    let l = c.loop-byte in
    sym (l.invariant ∙ any-end c.args.bound c.args.bytes.now l.byte-index l.found (omega arith))
