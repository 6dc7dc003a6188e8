-- One word more is stored with each turn.
use Rattle.std.proofs.Common.{arith}
use lib.Bits.{and_zero_r}
use lib.ListN.{length-set}
use Rattle.layout.proofs.Places.{each_next}
use Rattle.automaton.specs.Table.{next}
use Rattle.automaton.proofs.Built.{Holds}
use Rattle.automaton.proofs.Rows.{row-below, row-holds}
use Rattle.automaton_reach.proofs.successors.Goals as goal

pub next_states-requires : goal.next_states-requires
next_states-requires c =
    (c.row.ensures.row_len, row-below _ _ _ c.row.ensures.by_index c.args.table.well_formed (omega arith))

pub loop-p-preserved : goal.loop-p-preserved
loop-p-preserved c =
    let a = c.args.table.bytes.now in
    let l = c.loop-p in
    let s = c.next_states.ensures in
    let row : Holds (next a l.p) 256 c.next_states.result =
    row-holds _ _ _ c.row.ensures.by_index (s.b_value (and_zero_r c.next_states.result)) s.by_index in (
      simp length-set l.invariant.0,
      each_next (λ k w. Holds (next a k) 256 w) l.words l.p c.next_states.result (omega arith) l.invariant.1 row,
    )
