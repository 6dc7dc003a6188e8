-- One byte more is tested with each turn.
use Rattle.std.proofs.Common.{◌≡◌, ℕ, ◌+◌, ◌-◌, ◌<◌, subst, arith, get_or, drop, length-take, length-drop}
use Rattle.std.proofs.lemmas.List.{get_or-take, get_or-drop}
use Rattle.automaton.specs.Bits.{Exactly}
use Rattle.automaton.specs.Table.{next}
use Rattle.listing_follow.proofs.Eights.{all_more}
use Rattle.listing_follow.proofs.stays.Goals as goal

pub loop-byte-preserved : goal.loop-byte-preserved
loop-byte-preserved c =
    let a = c.args in
    let l = c.loop-byte in
    let i = l.byte-index in
    let h = simp (length-take, length-drop) at c.loop-byte-test.true in
    rw (c.accept.ensures.0, get_or-take (a.at + 8 - a.at) (drop a.at a.key.now) i 0 (omega (arith, h)), get_or-drop a.at a.key.now i 0)
    (all_more (λ k. next a.table.bytes.now a.state (get_or a.key.now (a.at + k) 0)) a.state i l.all l.invariant)

pub returns : goal.returns
returns c =
    let a = c.args in
    let l = c.loop-byte in
    let h = simp (length-take, length-drop) at c.loop-byte-test.false in
    let k = simp (length-take, length-drop) at l.auto.byte-index-end in
    let e : l.byte-index ≡ 8 = omega (arith, h, k) in
    subst (λ (n : ℕ). Exactly l.all ((k : ℕ) → k < n → next a.table.bytes.now a.state (get_or a.key.now (a.at + k) 0) ≡ a.state))
    e l.invariant
