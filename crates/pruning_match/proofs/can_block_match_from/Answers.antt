-- What is looked for behind the common prefix, from the state that it leads to.
use Rattle.std.proofs.Common.{◌<◌, length, arith}
use Rattle.keys.proofs.Order.{common_prefix_len-left, common_prefix_len-right, common-below}
use Rattle.automaton.specs.Words.{Bytes}
use Rattle.automaton.proofs.Exact.{exactly-map}
use Rattle.std.proofs.lemmas.List.{take_rest}
use Rattle.automaton.proofs.Strings.{bytes_of}
use Rattle.pruning.proofs.Intervals.{part-some, part-first, common-none, common-above, common-run, common-end}
use Rattle.pruning_match.proofs.can_block_match_from.Goals as goal

pub returns-then-n-end_key-clause-exactly : goal.returns-then-n-end_key-clause-exactly
returns-then-n-end_key-clause-exactly c =
    let a = c.args in
    common-none _ 0 a.start_key.now a.end_key.now c.requires.1 (omega arith)

pub slice_bounds-match_range_end-count : goal.slice_bounds-match_range_end-count
slice_bounds-match_range_end-count c = omega (arith, common_prefix_len-right c.args.start_key.now c.args.end_key.now)

pub slice_bounds-match_range_end-start : goal.slice_bounds-match_range_end-start
slice_bounds-match_range_end-start c = omega (arith, common_prefix_len-right c.args.start_key.now c.args.end_key.now)

pub returns-then-n-start_key-clause-exactly : goal.returns-then-n-start_key-clause-exactly
returns-then-n-start_key-clause-exactly c =
    let a = c.args in
    let bytes : Bytes a.start_key.now = bytes_of a.start_key.now (λ i. omega (arith, c.type_inv.start_key i)) in
    let i = common-end _ 0 a.start_key.now a.end_key.now c.requires.1 bytes c.requires.2 (omega arith) in
    exactly-map c.match_range_end.result i.1 i.0 (rw (take_rest a.end_key.now a.n) at c.match_range_end.ensures.exactly)

pub bounds-end_key-n : goal.bounds-end_key-n
bounds-end_key-n c = omega (arith, common_prefix_len-right c.args.start_key.now c.args.end_key.now)

pub bounds-start_key-n : goal.bounds-start_key-n
bounds-start_key-n c = omega (arith, common_prefix_len-left c.args.start_key.now c.args.end_key.now)

pub returns-then-end_key-n-clause-exactly : goal.returns-then-end_key-n-clause-exactly
returns-then-end_key-n-clause-exactly c =
    let a = c.args in
    let l = common_prefix_len-left a.start_key.now a.end_key.now in
    let r = common_prefix_len-right a.start_key.now a.end_key.now in
    common-above _ 0 a.start_key.now a.end_key.now c.requires.1 (omega (arith, l)) (omega (arith, r)) c.if-end_key-n.true

pub slice_bounds-match_between-count : goal.slice_bounds-match_between-count
slice_bounds-match_between-count c = omega (arith, common_prefix_len-left c.args.start_key.now c.args.end_key.now)

pub slice_bounds-match_between-start : goal.slice_bounds-match_between-start
slice_bounds-match_between-start c = omega (arith, common_prefix_len-left c.args.start_key.now c.args.end_key.now)

pub slice_bounds-match_between-count-2 : goal.slice_bounds-match_between-count-2
slice_bounds-match_between-count-2 c = omega (arith, common_prefix_len-right c.args.start_key.now c.args.end_key.now)

pub slice_bounds-match_between-start-2 : goal.slice_bounds-match_between-start-2
slice_bounds-match_between-start-2 c = omega (arith, common_prefix_len-right c.args.start_key.now c.args.end_key.now)

pub match_between-requires : goal.match_between-requires
match_between-requires c =
    let a = c.args in
    let l = common_prefix_len-left a.start_key.now a.end_key.now in
    let r = common_prefix_len-right a.start_key.now a.end_key.now in
    let ha : a.n < length a.start_key.now = omega (arith, l) in
    let hb : a.n < length a.end_key.now = omega (arith, r) in
    let below = common-below a.start_key.now a.end_key.now c.requires.1 ha hb (omega arith) in (
      c.requires.0,
      c.requires.3,
      part-some a.start_key.now a.n ha,
      part-some a.end_key.now a.n hb,
      rw (part-first a.start_key.now a.n ha, part-first a.end_key.now a.n hb) below,
    )

pub returns-clause-exactly : goal.returns-clause-exactly
returns-clause-exactly c =
    let a = c.args in
    let bytes : Bytes a.start_key.now = bytes_of a.start_key.now (λ i. omega (arith, c.type_inv.start_key i)) in
    let i = common-run _ 0 a.start_key.now a.end_key.now c.requires.1 bytes c.requires.2 in
    exactly-map c.match_between.result i.1 i.0
    (rw (take_rest a.start_key.now a.n, take_rest a.end_key.now a.n) at c.match_between.ensures.exactly)
