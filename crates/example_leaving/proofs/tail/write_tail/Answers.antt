-- Each byte is the lowest that leads one nearer, and after as many as the state is far none is left.
use Rattle.std.proofs.Common.{◌≡◌, ℕ, ◌+◌, ◌-◌, ◌≤◌, List, sym, subst, arith, set, take, drop, length, length-take, length-drop, get_or}
use borrow.Rule.Slice.PartMut.{put_mid}
use lib.Seq.{sets}
use Rattle.serialize.proofs.Stores.{sets_within}
use Rattle.example_leaving.proofs.Tails.{Sofar, sofar-none, sofar-more, sofar-done}
use Rattle.example_leaving.proofs.tail.write_tail.Goals as goal

-- the part that was lent, in its place
put-back : (out items v : List ℕ) (at k : ℕ) → at + k ≤ length out → length v ≤ k → items ≡ sets (take k (drop at out)) 0 v
    → put_mid at k out items ≡ sets out at v
put-back out items v at k h l e = rw e (sets_within out v at k h l)

pub loop-place-init : goal.loop-place-init
loop-place-init c = sofar-none c.args.state c.requires.1

pub loop-place-preserved : goal.loop-place-preserved
loop-place-preserved c =
    let l = c.loop-place in
    let m = c.args.measured.now in
    let b = c.nearer in
    let part = take (c.args.at + c.from.result - c.args.at) (drop c.args.at c.args.out.now) in
    subst (λ (q : ℕ). Sofar m.table.bytes.now m.distances part (set l.place-items l.place-index b.result) c.args.state q
    (l.place-index + 1))
    (sym c.accept-s.ensures.0) (sofar-more l.invariant c.requires.0 m.table.well_formed b.result (omega arith) b.ensures)

pub returns-clause-tail : goal.returns-clause-tail
returns-clause-tail c =
    let a = c.args in
    let i = c.loop-place.invariant in
    let k = a.at + c.from.result - a.at in
    let h = simp (length-take, length-drop) at c.loop-place-test.false in
    let d = c.from.ensures in
    let e : get_or a.measured.now.distances c.loop-place.s 0 ≡ 0 = omega (arith, i.ends, i.left, h, d, c.requires.3) in
    record {
      tail = i.string;
      is-first = sofar-done i c.requires.0 a.measured.now.table.well_formed e;
      put = put-back a.out.now _ i.string a.at k (omega (arith, d, c.requires.3)) (omega (arith, i.left, d)) i.put;
    }
