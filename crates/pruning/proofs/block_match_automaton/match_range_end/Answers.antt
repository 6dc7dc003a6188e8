-- The lowest byte that leads on decides at the key's, or the walk goes on behind it.
use Rattle.std.proofs.Common.{◌∙◌, get_or, inl, arith}
use mathlib.Core.Logic.Iff
use lib.Dec.{ltb}
use Rattle.automaton.proofs.Exact.{when_true, when_false, exactly-map}
use Rattle.automaton_live.proofs.Kept.{same-first, same-firsts}
use Rattle.pruning.proofs.Intervals.{past, upto-end}
use Rattle.pruning.proofs.Looks.{upto-decided-at, upto-next-at}
use Rattle.pruning.proofs.block_match_automaton.match_range_end.Goals as goal

pub returns-then-least-byte-clause-exactly : goal.returns-then-least-byte-clause-exactly
returns-then-least-byte-clause-exactly c =
    let key = c.args.end_key.now in
    let l = c.loop-kb in
    let f = same-first l.invariant.ready l.at c.first-least.result c.first-least.ensures.first_live in
    let g = upto-decided-at key l.kb-index (omega arith) (omega (arith, c.type_inv.end_key l.kb-index)) _ l.at _ f
    (rw c.from-byte.ensures at c.if-least-byte.true) in
    rw c.from-byte.ensures (exactly-map (ltb c.first-least.result (get_or key l.kb-index 0)) l.invariant.same.1 l.invariant.same.0 g)

pub returns-then-is_match-clause-exactly : goal.returns-then-is_match-clause-exactly
returns-then-is_match-clause-exactly c =
    let key = c.args.end_key.now in
    let l = c.loop-kb in
    let f = same-first l.invariant.ready l.at c.first-least.result c.first-least.ensures.first_live in
    let n = upto-next-at key l.kb-index (omega arith) (omega (arith, c.type_inv.end_key l.kb-index)) _ l.at _ f
    (omega (arith, c.from-byte.ensures)) in
    l.invariant.same.1 (n.1 (inl (when_true (rw c.accept-at.ensures.0 at c.is_match.ensures) c.if-is_match.true)))

pub loop-kb-preserved : goal.loop-kb-preserved
loop-kb-preserved c =
    let key = c.args.end_key.now in
    let l = c.loop-kb in
    let f = same-first l.invariant.ready l.at c.first-least.result c.first-least.ensures.first_live in
    let n = upto-next-at key l.kb-index (omega arith) (omega (arith, c.type_inv.end_key l.kb-index)) _ l.at _ f
    (omega (arith, c.from-byte.ensures)) in
    let r = past n (when_false (rw c.accept-at.ensures.0 at c.is_match.ensures) c.if-is_match.false) in
    record {
      state = c.accept-at.ensures.1;
      ready = same-firsts l.invariant.ready c.first-least.ensures.ready;
      ends = c.first-least.ensures.ends ∙ l.invariant.ends;
      reach = c.first-least.ensures.reach ∙ l.invariant.reach;
      same = rw c.accept-at.ensures.0 (Iff.trans l.invariant.same r);
    }

pub returns-clause-exactly : goal.returns-clause-exactly
returns-clause-exactly c =
    let l = c.loop-kb in
    λ m. upto-end c.args.prepared.now.table.bytes.now l.at c.args.end_key.now l.kb-index (omega arith) (l.invariant.same.0 m)
