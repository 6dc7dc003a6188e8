-- Below: the class is skipped, or the lower of two equally long strings is taken, and its bytes are covered.
use Rattle.std.proofs.Common.{◌≡◌, max, arith, get_or}
use Rattle.automaton.proofs.Strings.{bytes_of}
use Rattle.example_walk.proofs.Looks.{covers-below}
use Rattle.example_walk.proofs.Steps.{below-skipped, below-passed, ends, looked-below-found, looked-below-kept}
use Rattle.example_walk.proofs.Walk.look_below.Goals as goal
use Rattle.example_walk.proofs.Walk.look_below.Goals.{then-found-self, else-found-self}

pub returns-then-place-nearest-clause-looked : goal.returns-then-place-nearest-clause-looked
returns-then-place-nearest-clause-looked c =
    let a = c.args in
    let m = a.measured.now in
    λ b z. below-skipped c.requires.measured.0 m.table.well_formed a.key.now (bytes_of a.key.now (λ i. omega (arith, c.type_inv.key i)))
    a.place a.state c.requires.measured.1 c.requires.measured.2 c.requires.place_in_bounds.0 c.requires.place_in_bounds.1 a.self.now a.lo
    c.requires.place_in_bounds.2 z (omega (arith, c.if-place-nearest.true, c.from-nearest.ensures, c.saturating_sub.ensures))

pub returns-then-to-lo-clause-looked : goal.returns-then-to-lo-clause-looked
returns-then-to-lo-clause-looked c =
    let a = c.args in
    let m = a.measured.now in
    λ b z. below-passed c.requires.measured.0 m.table.well_formed a.key.now (bytes_of a.key.now (λ i. omega (arith, c.type_inv.key i)))
    a.place a.state c.requires.measured.1 c.requires.measured.2 c.requires.place_in_bounds.0 c.requires.place_in_bounds.1 a.self.now a.lo
    c.requires.place_in_bounds.2 z c.requires.covers (omega (arith, c.if-to-lo.true, c.from-to.ensures))

pub first_at-found-requires-clause-place_in_bounds :
    goal.first_at-found-requires-clause-place_in_bounds
first_at-found-requires-clause-place_in_bounds c =
    (c.requires.place_in_bounds.0, c.requires.place_in_bounds.1, omega (arith, c.from-to.ensures, c.requires.covers.from-fits c.args.state))

pub returns-clause-looked : goal.returns-clause-looked
returns-clause-looked c =
    let a = c.args in
    let m = a.measured.now in
    let x = c.requires.measured.0 in
    let wf = m.table.well_formed in
    let bytes = bytes_of a.key.now (λ i. omega (arith, c.type_inv.key i)) in
    let hs = c.requires.measured.1 in
    let e = c.requires.measured.2 in
    let inside = c.requires.place_in_bounds.0 in
    let room = c.requires.place_in_bounds.1 in
    let fits = c.requires.place_in_bounds.2 in
    let from = c.max-from.result in
    let to = c.from-to.result in
    let ef : from ≡ max a.lo (get_or a.self.now.passed_below a.state 0) = omega (arith, c.max-from.ensures, c.from.ensures) in
    λ b z.
    let low = ends x wf a.key.now bytes a.place a.state hs e inside room a.self.now a.lo fits z in
    elim c.if-found-self.branch [
      | then-found-self w ↦ rw w.self-is (record {
        ordered = low;
        first = looked-below-found x wf a.key.now bytes a.place a.state hs e inside room a.self.now a.lo fits z c.requires.covers from to
            c.first_at-found.result c.first_at-found.ensures ef c.from-to.ensures w.if-found-self.true;
      })
      | else-found-self w ↦ rw w.self-is (record {
        ordered = low;
        first = looked-below-kept x wf a.key.now bytes a.place a.state hs e inside room a.self.now a.lo fits z c.requires.covers from to
            c.first_at-found.result c.first_at-found.ensures ef c.from-to.ensures w.if-found-self.false;
      })
    ]

pub returns-clause-covers : goal.returns-clause-covers
returns-clause-covers c =
    let a = c.args in
    let m = a.measured.now in
    let x = c.requires.measured.0 in
    let wf = m.table.well_formed in
    let bytes = bytes_of a.key.now (λ i. omega (arith, c.type_inv.key i)) in
    let hs = c.requires.measured.1 in
    let e = c.requires.measured.2 in
    let inside = c.requires.place_in_bounds.0 in
    let room = c.requires.place_in_bounds.1 in
    let from = c.max-from.result in
    let to = c.from-to.result in
    let ef : from ≡ max a.lo (get_or a.self.now.passed_below a.state 0) = omega (arith, c.max-from.ensures, c.from.ensures) in
    let found = c.first_at-found.result in
    elim c.if-found-self.branch [
      | then-found-self w ↦ rw w.self-is
          (covers-below x wf a.key.now bytes a.place a.state hs e inside room a.self.now a.place
          c.requires.covers (omega arith) from to a.lo
          found found c.first_at-found.ensures (omega (arith, w.if-found-self.true)) (omega arith) ef c.from-to.ensures c.if-to-lo.false wf.few)
      | else-found-self w ↦ rw w.self-is
          (covers-below x wf a.key.now bytes a.place a.state hs e inside room a.self.now a.place
          c.requires.covers (omega arith) from to a.lo
          found a.self.now.best c.first_at-found.ensures (omega arith) (omega (arith, w.if-found-self.false)) ef c.from-to.ensures c.if-to-lo.false wf.few)
    ]
