-- The highest byte that leads on decides at the key's, or the walk goes on behind it.
use Rattle.std.proofs.Common.{◌+◌, ◌∙◌, get_or, arith}
use mathlib.Core.Logic.Iff
use lib.Dec.{ltb}
use Rattle.automaton.proofs.Exact.{exactly-map}
use Rattle.automaton_live.proofs.Kept.{same-end, same-ends}
use Rattle.pruning.proofs.Intervals.{after-end}
use Rattle.pruning.proofs.Looks.{after-decided-at, after-next-at}
use Rattle.pruning.proofs.block_match_automaton.match_range_start.Goals as goal

pub returns-then-most-behind-clause-exactly : goal.returns-then-most-behind-clause-exactly
returns-then-most-behind-clause-exactly c =
    let key = c.args.start_key.now in
    let l = c.loop-kb in
    let e = same-end l.invariant.ready l.at c.end-most.result c.end-most.ensures.end_live in
    let g = after-decided-at key l.kb-index (omega arith) (omega (arith, c.type_inv.start_key l.kb-index)) _ l.at _ e
    (rw c.from-behind.ensures at c.if-most-behind.true) in
    rw c.from-behind.ensures (exactly-map (ltb (get_or key l.kb-index 0 + 1) c.end-most.result) l.invariant.same.1 l.invariant.same.0 g)

pub loop-kb-preserved : goal.loop-kb-preserved
loop-kb-preserved c =
    let key = c.args.start_key.now in
    let l = c.loop-kb in
    let e = same-end l.invariant.ready l.at c.end-most.result c.end-most.ensures.end_live in
    let r = after-next-at key l.kb-index (omega arith) (omega (arith, c.type_inv.start_key l.kb-index)) _ l.at _ e
    (omega (arith, c.from-behind.ensures)) in
    record {
      state = c.accept-at.ensures.1;
      ready = same-ends l.invariant.ready c.end-most.ensures.ready;
      firsts = c.end-most.ensures.firsts ∙ l.invariant.firsts;
      reach = c.end-most.ensures.reach ∙ l.invariant.reach;
      same = rw c.accept-at.ensures.0 (Iff.trans l.invariant.same r);
    }

pub returns-clause-exactly : goal.returns-clause-exactly
returns-clause-exactly c =
    let l = c.loop-kb in
    let t = c.args.prepared.now.table.bytes.now in
    let e = same-end l.invariant.ready l.at c.end.result c.end.ensures.end_live in
    let n = Iff.trans l.invariant.same (after-end t l.at c.args.start_key.now l.kb-index (omega arith)) in
    exactly-map (ltb 0 c.end.result) n.1 n.0 (e 0)
