-- No bit at first, one more with each turn, and at the end a bit for each state.
use Rattle.std.proofs.Common.{◌≡◌, List, ℕ, ◌+◌, ◌-◌, ◌<◌, refl, ◌∙◌, subst, arith, length, take, drop, length-take, length-drop}
use Rattle.automaton.specs.Table.{WellFormed, states, flag}
use Rattle.automaton.proofs.Built.{Filled, filled_none, filled_more}
use Rattle.automaton.proofs.Eights.{part-byte}
use Rattle.automaton_reach.proofs.flags.Goals as goal

-- how many flags the loop goes over
flags-long : (t : List ℕ) (m : ℕ) → WellFormed t → m ≡ states t → length (take (m + 1 - 1) (drop 1 t)) ≡ m
flags-long t m w e = simp (length-take, length-drop) (omega (arith, w.long))

pub loop-s-init : goal.loop-s-init
loop-s-init c = filled_none _

pub loop-s-preserved : goal.loop-s-preserved
loop-s-preserved c =
    let t = c.args.table in
    let m = c.states.result in
    let s = c.loop-s.s in
    let inside : s < m = omega (arith, flags-long t.bytes.now m t.well_formed c.states.ensures, c.loop-s-test.true) in
    let is : c.from.result ≡ flag t.bytes.now s = c.from.ensures ∙ part-byte t.bytes.now _ 1 (m + 1 - 1) s refl (omega arith) in
    filled_more c.loop-s.invariant c.from.result is
    (omega (arith, is, c.states.ensures, t.well_formed.flags s (omega (arith, c.states.ensures))))
    (omega (arith, c.states.ensures, t.well_formed.few))

pub returns : goal.returns
returns c =
    let t = c.args.table in
    let e : c.loop-s.s ≡ states t.bytes.now =
    omega (arith, c.states.ensures, flags-long t.bytes.now c.states.result t.well_formed c.states.ensures, c.loop-s-test.false) in
    let i = subst (λ (x : ℕ). Filled (flag t.bytes.now) x c.loop-s.word) e c.loop-s.invariant in
    record { upper_bound = i.small; by_index = i.at }
