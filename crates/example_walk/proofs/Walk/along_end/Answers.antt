-- One place along the end key: what leaves it there, and its front alone.
use Rattle.std.proofs.Common.{◌≡◌, ℕ, List, [], ◌∷◌, ◌++◌, ◌+◌, sym, subst, arith, take}
use Rattle.std.proofs.lemmas.List.{take_more}
use Rattle.example_walk.specs.Walk.{BestBetween}
use Rattle.example_walk.proofs.Walk.along_end.Goals as goal

pub returns-clause-looked : goal.returns-clause-looked
returns-clause-looked c =
    let a = c.args in
    let m = a.measured.now in
    let t = m.table.bytes.now in
    let p = take a.place a.key.now in
    let e : p ++ (c.from.result ∷ []) ≡ take (a.place + 1) a.key.now =
    rw c.from.ensures (sym (take_more a.key.now a.place 0 (omega (arith, c.if-place-key.false)))) in
    λ b z. c.look_at_front.ensures.looked b
    (subst (λ (q : List ℕ). BestBetween t m.distances b q c.look_above.new.self) e (c.look_above.ensures.looked b z))

pub returns-clause-covers : goal.returns-clause-covers
returns-clause-covers c = c.look_at_front.ensures.covers (c.args.place + 1) c.look_above.ensures.covers
