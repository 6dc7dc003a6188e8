-- `(!word << (64 - m)) >> (64 - m)`: `Word.others`.
use Rattle.std.proofs.Common.{arith}
use Rattle.automaton.proofs.Word.{others}
use Rattle.automaton_reach.proofs.others.Goals as goal

pub returns : goal.returns
returns c =
    let o = others c.args.m c.args.word (omega arith) (omega arith) in
    record { upper_bound = o.0; by_index = o.1 }
