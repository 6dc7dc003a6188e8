-- No search has begun at the start, and each is at its end where nothing is left.
use Rattle.std.proofs.Common.{◌≡◌, refl, arith}
use Rattle.std.proofs.lemmas.List.{get_or-take, length-take-le}
use Rattle.batch_search.specs.Lanes.{fresh}
use Rattle.batch_search.proofs.Entries.{ended-in, ended-exact}
use Rattle.batch_search.proofs.Turns.{default-fresh, lanes-fresh, lanes-ended}
use Rattle.batch_search.proofs.lanes.side_by_side.Goals as goal

pub loop-len-init : goal.loop-len-init
loop-len-init c = rw (default-fresh c.default-lanes.result c.default-lanes.ensures) (lanes-fresh _ _ _ _)

pub returns-clause-entries : goal.returns-clause-entries
returns-clause-entries c =
    let a = c.args in
    let z : c.loop-len.len ≡ 0 = omega arith in
    let lanes = c.loop-len.lanes in
    let last = lanes-ended a.directory.bytes.now a.directory.n a.list.now.pairs.now a.list.now.keys.now lanes (rw z at
    c.loop-len.invariant) in
    let front = length-take-le c.len.result lanes (omega arith) in
    record {
      long = c.entries.ensures.0;
      allowed = λ t i h.
          rw (rw (get_or-take c.len.result lanes i fresh (omega (arith, c.len.ensures, h))) at
          (c.entries.ensures.1 i (omega (arith, front, c.len.ensures, h)))) (ended-in _ _ _ _ _ _ (last i h));
      ends = λ sorted. refl;
      exact = λ sorted i h.
          rw (rw (get_or-take c.len.result lanes i fresh (omega (arith, c.len.ensures, h))) at
          (c.entries.ensures.1 i (omega (arith, front, c.len.ensures, h)))) (ended-exact _ _ _ _ _ _ (last i h) sorted);
    }
