-- One state of those that wait is taken with each turn, and those that lead to it and aren't found yet are put to both words.
use Rattle.std.proofs.Common.{◌≡◌, ℕ, ap, ◌∙◌, subst, arith, get_or}
use Rattle.automaton.specs.Bits.{bit}
use Rattle.automaton.proofs.Word.{bit-lt, bit-off, bit-zero, or-keeps}
use Rattle.automaton.proofs.Predecessors.{zeros}
use Rattle.automaton.proofs.Worklist.{Work, Turned, work_start, work-turn, work-done, flags-match, work_none, work-all, not_found}
use Rattle.automaton_reach.proofs.reach.Goals as goal
use Rattle.automaton_reach.proofs.reach.Goals.{In-Some, then-accepting-eq0-via-then-accepting-eq0}
use Rattle.automaton_reach.proofs.reach.Goals.{then-accepting-eq0-via-else-accepting-eq0+then-unfound-eq0}

pub returns-then-accepting-eq0-clause-reach : goal.returns-then-accepting-eq0-clause-reach
returns-then-accepting-eq0-clause-reach c =
    let wf = c.args.table.well_formed in
    let fl = c.flags-accepting in
    let o = c.others-unfound in
    elim c.then-accepting-eq0.branch [
      | then-accepting-eq0-via-then-accepting-eq0 w ↦ work_none wf fl.ensures.upper_bound fl.ensures.by_index w.if-accepting-eq0.true
      | then-accepting-eq0-via-else-accepting-eq0+then-unfound-eq0 w ↦
          work-all wf fl.ensures.upper_bound fl.ensures.by_index (λ q hq. omega (
            arith,
            ap (λ (x : ℕ). bit x q) w.if-unfound-eq0.true ∙ bit-zero q,
            o.ensures.by_index q (omega arith),
            bit-lt fl.result q,
          ))
    ]

pub first_look-found-requires-clause-accepting : goal.first_look-found-requires-clause-accepting
first_look-found-requires-clause-accepting c =
    let fl = c.flags-accepting.ensures in
    (fl.upper_bound, flags-match c.args.table.well_formed fl.upper_bound fl.by_index)

pub first_look-found-requires-clause-before_empty : goal.first_look-found-requires-clause-before_empty
first_look-found-requires-clause-before_empty c = zeros 64

pub loop-s-init : goal.loop-s-init
loop-s-init c =
    let look = c.first_look-found.ensures.upper_bound in
    record { work = work_start look.0 (λ q h e. look.1 q (c.flags-accepting.ensures.by_index q h ∙ e)) look.2; kept = λ q e. e }

-- what one turn leaves, and that the measure falls
turn : (c : In-Some)
    → Turned c.args.table.bytes.now c.loop-s.found c.loop-s.waiting.left
    (get_or c.first_look-found.new.before c.in-Some.s 0) c.next.new.self.left
turn c =
    let wf = c.args.table.well_formed in
    let l = c.loop-s in
    let took = c.in-Some.ensures.steps in
    let look = c.first_look-found in
    let o = c.others-unfound in
    let fl = c.flags-accepting in
    let words = look.new.before in
    work-turn wf l.invariant.work c.in-Some.s took.set (get_or words c.in-Some.s 0) (look.ensures.by_index c.in-Some.s)
    (λ q k hq z hk e. subst (λ (x : ℕ). bit (get_or words x 0) q ≡ 1) e
    (look.ensures.by_index_2 q k
    (omega (arith, o.ensures.by_index q (omega arith), fl.ensures.by_index q hq, not_found wf l.invariant.work q hq z))
    (bit-off look.result q (λ g. let g' = l.invariant.kept q g in absurd (omega arith)))
    hk))
    (λ q e. look.ensures.by_index_3 q c.in-Some.s e)
    c.next.new.self.left
    took.rest

pub loop-s-smaller : goal.loop-s-smaller
loop-s-smaller c = (turn c).1

pub loop-s-preserved : goal.loop-s-preserved
loop-s-preserved c =
    let l = c.loop-s in
    record { work = (turn c).0; kept = λ q e. or-keeps l.found _ q (l.invariant.kept q e) }

pub returns-clause-reach : goal.returns-clause-reach
returns-clause-reach c =
    let i = c.loop-s.invariant.work in
    work-done c.args.table.well_formed (subst (Work c.args.table.bytes.now c.loop-s.found) c.in_default.ensures.steps.0 i)
