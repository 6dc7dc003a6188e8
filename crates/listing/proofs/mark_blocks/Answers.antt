-- One block more is marked with each turn.
use Rattle.std.proofs.Common.{◌≡◌, ◌+◌, ◌-◌, ◌<◌, arith}
use native.Mathlib.Nat.{zero-add}
use Rattle.layout.proofs.Fronts.{each-kept}
use Rattle.automaton.specs.Bits.{Exactly}
use Rattle.directory.specs.Read.{key_of}
use Rattle.pruning.specs.Interval.{Marked}
use Rattle.automaton_live.proofs.Kept.{same-prepared}
use Rattle.listing.specs.Marks.{start_at}
use Rattle.listing.proofs.Outside.{outside-fronts}
use Rattle.listing.proofs.Turns.{start-behind, listing_none, listing-turn, listing-count, one_at_most}
use Rattle.listing.proofs.mark_blocks.Goals as goal

pub key-requires : goal.key-requires
key-requires c =
    let some : 0 < c.args.directory.n = omega (arith, c.args.directory.counted.0) in
    (some, each-kept (outside-fronts _ _) _ c.requires.0 0 some)

pub loop-i-init : goal.loop-i-init
loop-i-init c =
    let a = c.args in
    let t = a.table.bytes.now in
    let f = key_of a.directory.bytes.now a.directory.n in
    let p = c.new-prepared.ensures in
    let b = c.can_block_match-first in
    let e : Exactly b.result (Marked t (start_at f 0) (f 0)) = rw (p.same, c.key.ensures) at b.ensures.exactly in
    let m = c.mark-count.ensures in
    record {
      some = omega arith;
      trail = c.new-trail.ensures t (f 0);
      prepared = same-prepared p b.ensures.prepared;
      listed = rw (zero-add c.mark-count.result) at (listing-turn t f 0 0 a.marks.now a.marks.now
          (listing_none t f a.marks.now) b.result c.mark-count.result _ e m.0 m.1);
    }

pub key-start_key-requires : goal.key-start_key-requires
key-start_key-requires c =
    let h : c.loop-i.i - 1 < c.args.directory.n = omega (arith, c.loop-i.invariant.some) in
    (h, each-kept (outside-fronts _ _) _ c.requires.0 (c.loop-i.i - 1) h)

pub key-end_key-requires : goal.key-end_key-requires
key-end_key-requires c = (c.loop-i-test.true, each-kept (outside-fronts _ _) _ c.requires.0 c.loop-i.i c.loop-i-test.true)

pub overflow_add-count : goal.overflow_add-count
overflow_add-count c =
    omega (
      arith,
      listing-count c.loop-i.invariant.listed,
      one_at_most c.match_block-matches.result,
      c.mark-count-in-loop-i.ensures.0,
      c.args.directory.counted.1,
    )

pub loop-i-preserved : goal.loop-i-preserved
loop-i-preserved c =
    let a = c.args in
    let l = c.loop-i in
    let t = a.table.bytes.now in
    let f = key_of a.directory.bytes.now a.directory.n in
    let p = l.invariant.prepared in
    let b = c.match_block-matches in
    let turned = rw (p.same, c.key-start_key.ensures, c.key-end_key.ensures) at b.ensures.turned in
    let e : Exactly b.result (Marked t (start_at f l.i) (f l.i)) = rw (start-behind f l.i l.invariant.some) turned.right in
    let m = c.mark-count-in-loop-i.ensures in
    let q : l.i + 1 - 1 ≡ l.i = omega arith in
    record {
      some = omega arith;
      trail = rw q turned.along;
      prepared = same-prepared p b.ensures.prepared;
      listed = listing-turn t f l.i l.count _ l.marks l.invariant.listed b.result c.mark-count-in-loop-i.result _ e m.0 m.1;
    }
