-- Each test that fails leaves one kind of string less to look for.
use Rattle.std.proofs.Common.{inl, inr, arith}
use Rattle.automaton.proofs.Exact.{exactly-map}
use Rattle.std.proofs.lemmas.List.{take_rest}
use Rattle.automaton_live.proofs.Kept.{same-first, firsts-ready, end-kept, first-kept}
use Rattle.pruning.proofs.Intervals.{past}
use Rattle.pruning.proofs.Looks.{heads-parted, none-low, none-high}
use Rattle.pruning.proofs.block_match_automaton.match_between.Goals as goal

pub returns-then-end-from-clause-exactly : goal.returns-then-end-from-clause-exactly
returns-then-end-from-clause-exactly c =
    none-low c.args.start_key.now c.args.end_key.now c.requires (omega (arith, c.type_inv.end_key 0)) _ c.end.ensures.end_live
    (rw c.from.ensures at c.if-end-from.true)

pub returns-then-first-from-clause-exactly : goal.returns-then-first-from-clause-exactly
returns-then-first-from-clause-exactly c =
    let p = end-kept c.requires.0 c.end.ensures.ready c.end.ensures.firsts in
    none-high c.args.start_key.now c.args.end_key.now c.requires (omega (arith, c.type_inv.end_key 0)) _
    (same-first (firsts-ready p) c.args.state c.first.result c.first.ensures.first_live) (rw c.from-2.ensures at c.if-first-from.true)

pub returns-then-match_range_start-clause-exactly : goal.returns-then-match_range_start-clause-exactly
returns-then-match_range_start-clause-exactly c =
    let mid = heads-parted c.args.start_key.now c.args.end_key.now c.requires (omega (arith, c.type_inv.end_key 0)) in
    let p = first-kept (end-kept c.requires.0 c.end.ensures.ready c.end.ensures.firsts) c.first.ensures.ready c.first.ensures.ends in
    let e = take_rest c.args.start_key.now 1 in
    mid.1 (inl (rw (p.same, c.accept-start_state.ensures.0, e) at c.if-match_range_start.ensures.exactly))

pub returns-then-any_byte-clause-exactly : goal.returns-then-any_byte-clause-exactly
returns-then-any_byte-clause-exactly c =
    let mid = heads-parted c.args.start_key.now c.args.end_key.now c.requires (omega (arith, c.type_inv.end_key 0)) in
    let p = first-kept (end-kept c.requires.0 c.end.ensures.ready c.end.ensures.firsts) c.first.ensures.ready c.first.ensures.ends in
    let q = end-kept p c.match_range_start.ensures.ready c.match_range_start.ensures.firsts in
    mid.1 (inr (inl (rw (q.same, c.from-3.ensures, c.from-4.ensures) at c.if-any_byte.ensures)))

pub returns-then-is_match-clause-exactly : goal.returns-then-is_match-clause-exactly
returns-then-is_match-clause-exactly c =
    let mid = heads-parted c.args.start_key.now c.args.end_key.now c.requires (omega (arith, c.type_inv.end_key 0)) in
    mid.1 (inr (inr (inl (rw c.accept-end_state.ensures.0 at c.if-is_match.ensures))))

pub returns-clause-exactly : goal.returns-clause-exactly
returns-clause-exactly c =
    let mid = heads-parted c.args.start_key.now c.args.end_key.now c.requires (omega (arith, c.type_inv.end_key 0)) in
    let p = first-kept (end-kept c.requires.0 c.end.ensures.ready c.end.ensures.firsts) c.first.ensures.ready c.first.ensures.ends in
    let q = end-kept p c.match_range_start.ensures.ready c.match_range_start.ensures.firsts in
    let e₁ = take_rest c.args.start_key.now 1 in
    let e₂ = take_rest c.args.end_key.now 1 in
    let r₁ = past mid (rw (p.same, c.accept-start_state.ensures.0, e₁) at c.if-match_range_start.ensures.exactly) in
    let r₂ = past r₁ (rw (q.same, c.from-3.ensures, c.from-4.ensures) at c.if-any_byte.ensures) in
    let r₃ = past r₂ (rw c.accept-end_state.ensures.0 at c.if-is_match.ensures) in
    exactly-map c.match_range_end.result r₃.1 r₃.0
    (rw (q.same, c.accept-end_state.ensures.0, e₂) at c.match_range_end.ensures.exactly)
