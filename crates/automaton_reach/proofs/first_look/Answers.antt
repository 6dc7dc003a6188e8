-- A state whose row has a state that is found is found; else its next states keep that it leads there.
use Rattle.std.proofs.Common.{arith}
use Rattle.automaton.specs.Table.{next}
use Rattle.automaton.proofs.Built.{Holds}
use Rattle.automaton.proofs.Rows.{row-below, row-only, row-holds}
use Rattle.automaton.proofs.SetBits.{passed-all}
use Rattle.automaton.proofs.Predecessors.{sound_more, led-none, led-below, led-found, led-more}
use Rattle.automaton_reach.proofs.first_look.Goals as goal

pub loop-p-init : goal.loop-p-init
loop-p-init c =
    let p = c.requires in
    record {
      sound = record { small = p.accepting.0; has = λ s e. e; sound = p.accepting.1 };
      led = rw c.into_iter-p-iterator.ensures.into_iter_gives (led-none _ _ _ _ p.before_empty);
      long = omega arith;
    }

pub row-requires : goal.row-requires
row-requires c = led-below c.loop-p.invariant.led c.requires.unfound c.in-Some.p c.in-Some.ensures.steps.set

pub next_states-states-requires : goal.next_states-states-requires
next_states-states-requires c =
    let w = c.args.table.well_formed in
    let below = led-below c.loop-p.invariant.led c.requires.unfound c.in-Some.p c.in-Some.ensures.steps.set in
    (c.row.ensures.row_len, row-below _ _ _ c.row.ensures.by_index w below)

pub loop-p-preserved-then-states-found-ne0 : goal.loop-p-preserved-then-states-found-ne0
loop-p-preserved-then-states-found-ne0 c =
    let l = c.loop-p.invariant in
    let took = c.in-Some.ensures.steps in
    let below = led-below l.led c.requires.unfound c.in-Some.p took.set in
    let row = c.next_states-states in
    record {
      sound = sound_more l.sound c.in-Some.p below took.below row.result
          (λ s e. row-only _ _ _ c.row.ensures.by_index s (row.ensures.by_index s e)) c.if-states-found-ne0.true;
      led = led-found l.led c.in-Some.p took.set took.below _ took.rest;
      long = l.long;
    }

-- none is, so that the whole row was looked at
pub loop-p-preserved : goal.loop-p-preserved
loop-p-preserved c =
    let l = c.loop-p.invariant in
    let took = c.in-Some.ensures.steps in
    let below = led-below l.led c.requires.unfound c.in-Some.p took.set in
    let row = c.next_states-states in
    let h : Holds (next c.args.table.bytes.now c.in-Some.p) 256 row.result =
    row-holds _ _ _ c.row.ensures.by_index (row.ensures.b_value c.if-states-found-ne0.false) row.ensures.by_index in
    record {
      sound = l.sound;
      led = led-more l.led c.in-Some.p took.set below row.result h c.mark.ensures.by_index c.mark.ensures.by_index_2 _ took.rest;
      long = c.mark.ensures.words_len;
    }

pub returns-clause-by_index_2 : goal.returns-clause-by_index_2
returns-clause-by_index_2 c = λ p b e z h. passed-all c.loop-p.invariant.led.leads c.in-None.ensures.steps.0 p e z b h
