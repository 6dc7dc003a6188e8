-- One place along the start key: inside it, and behind its last byte.
use Rattle.std.proofs.Common.{ℕ, List, [], ◌∷◌, ◌++◌, ◌+◌, subst, arith, take}
use Rattle.example_walk.specs.Walk.{BestBetween}
use Rattle.example_walk.proofs.Edges.{low-inside, low-last, looked-next}
use Rattle.example_walk.proofs.Fronts.{reached-more}
use Rattle.example_walk.proofs.Walk.along_start.Goals as goal

pub returns-then-place-key-clause-reached : goal.returns-then-place-key-clause-reached
returns-then-place-key-clause-reached c =
    let a = c.args in
    reached-more a.measured.now.table.bytes.now a.key.now a.place a.state c.accept.result c.if-place-key.true
    (c.requires.measured.1.led (omega (arith, c.if-place-key.true))) c.accept.ensures.0 c.accept.ensures.1

pub returns-then-place-key-clause-looked : goal.returns-then-place-key-clause-looked
returns-then-place-key-clause-looked c =
    let a = c.args in
    let m = a.measured.now in
    let t = m.table.bytes.now in
    let p = take a.place a.key.now in
    λ b z. looked-next c.requires.measured.0 m.table.well_formed a.key.now a.place c.if-place-key.true
    (subst (λ (k : ℕ). BestBetween t m.distances (p ++ ((k + 1) ∷ [])) b c.look_below.new.self) c.from.ensures
    (c.look_below.ensures.looked b
    (subst (λ (e : List ℕ). BestBetween t m.distances e b a.self.now)
    (low-inside a.key.now a.place (omega (arith, c.if-place-key.true))) z)))

pub returns-then-place-key-2-clause-looked : goal.returns-then-place-key-2-clause-looked
returns-then-place-key-2-clause-looked c =
    let a = c.args in
    let m = a.measured.now in
    let t = m.table.bytes.now in
    λ b z. subst (λ (e : List ℕ). BestBetween t m.distances e b c.look_below-then-place-key-2.new.self)
    (low-last a.key.now a.place c.if-place-key-2.true)
    (c.look_below-then-place-key-2.ensures.looked b
    (subst (λ (e : List ℕ). BestBetween t m.distances e b a.self.now)
    (low-inside a.key.now a.place (omega (arith, c.if-place-key-2.true))) z))
