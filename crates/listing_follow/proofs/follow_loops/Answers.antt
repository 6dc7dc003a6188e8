-- Eight bytes that lead back to the state are eight more of the states.
use Rattle.std.proofs.Common.{◌≡◌, ◌≤◌, ◌+◌, ◌*◌, arith}
use Rattle.listing_follow.proofs.Following.{followed-stay}
use Rattle.listing_follow.proofs.follow_loops.Goals as goal

pub loop-k-preserved : goal.loop-k-preserved
loop-k-preserved c =
    let a = c.args in
    let p = c.requires in
    let l = c.loop-k in
    let i = a.from + 8 * l.k in
    let e : i + 8 ≡ a.from + 8 * (l.k + 1) = omega arith in
    let room : i + 8 ≤ a.end = omega (arith, p.2) in
    let f = followed-stay a.table.bytes.now a.key.now l.states 8 i a.state l.invariant.followed (omega (arith, p.3.0))
    (omega (arith, p.3.1)) l.invariant.last c.if-not-stays.ensures in
    rw (c.fill_eight.ensures, ← e) (record { followed = f.0; last = f.1 })
