-- Without a start the empty string comes first, and then the strings above it.
use Rattle.std.proofs.Common.{inl}
use Rattle.automaton.proofs.Exact.{exactly-map}
use Rattle.pruning.proofs.Intervals.{past, marked-none}
use Rattle.pruning_match.proofs.can_block_match.Goals as goal

pub returns-then-is_match-clause-exactly : goal.returns-then-is_match-clause-exactly
returns-then-is_match-clause-exactly c =
    rw (c.in-None.is, c.if-is_match.true)
    ((marked-none c.args.prepared.now.table.bytes.now c.args.end_key.now).1 (inl c.if-is_match.ensures))

pub returns-else-is_match-clause-exactly : goal.returns-else-is_match-clause-exactly
returns-else-is_match-clause-exactly c =
    let answer = c.can_block_match_automaton_with_start-else-is_match in
    let r = past (marked-none c.args.prepared.now.table.bytes.now c.args.end_key.now) c.if-is_match.ensures in
    rw c.in-None.is (exactly-map answer.result r.1 r.0 answer.ensures.exactly)
