-- Above: the class is skipped, or of two equally long strings the lower one is kept, and its bytes are covered.
use Rattle.std.proofs.Common.{◌≡◌, ◌+◌, min, arith, get_or}
use Rattle.automaton.proofs.Strings.{bytes_of}
use Rattle.example_walk.proofs.Looks.{covers-above}
use Rattle.example_walk.proofs.Steps.{above-skipped, above-passed, begins, looked-above-found, looked-above-kept}
use Rattle.example_walk.proofs.Walk.look_above.Goals as goal
use Rattle.example_walk.proofs.Walk.look_above.Goals.{then-found-self, else-found-self}

pub returns-then-place-nearest-clause-looked : goal.returns-then-place-nearest-clause-looked
returns-then-place-nearest-clause-looked c =
    let a = c.args in
    let m = a.measured.now in
    λ b z. above-skipped c.requires.measured.0 m.table.well_formed a.key.now (bytes_of a.key.now (λ i. omega (arith, c.type_inv.key i)))
    a.place a.state c.requires.measured.1 c.requires.measured.2 c.requires.place_in_bounds.0 c.requires.place_in_bounds.1 a.self.now a.hi
    c.requires.place_in_bounds.2 z (omega (arith, c.if-place-nearest.true, c.from-nearest.ensures, c.saturating_sub.ensures))

pub returns-then-hi-from-clause-looked : goal.returns-then-hi-from-clause-looked
returns-then-hi-from-clause-looked c =
    let a = c.args in
    let m = a.measured.now in
    λ b z. above-passed c.requires.measured.0 m.table.well_formed a.key.now (bytes_of a.key.now (λ i. omega (arith, c.type_inv.key i)))
    a.place a.state c.requires.measured.1 c.requires.measured.2 c.requires.place_in_bounds.0 c.requires.place_in_bounds.1 a.self.now a.hi
    c.requires.place_in_bounds.2 z c.requires.covers (omega (arith, c.if-hi-from.true, c.from-from.ensures))

pub returns-clause-looked : goal.returns-clause-looked
returns-clause-looked c =
    let a = c.args in
    let m = a.measured.now in
    let x = c.requires.measured.0 in
    let wf = m.table.well_formed in
    let bytes = bytes_of a.key.now (λ i. omega (arith, c.type_inv.key i)) in
    let hs = c.requires.measured.1 in
    let e = c.requires.measured.2 in
    let inside = c.requires.place_in_bounds.0 in
    let room = c.requires.place_in_bounds.1 in
    let fits = c.requires.place_in_bounds.2 in
    let from = c.from-from.result in
    let to = c.min-to.result in
    let et : to ≡ min a.hi (get_or a.self.now.passed_from a.state 0) = omega (arith, c.min-to.ensures, c.from.ensures) in
    λ b z.
    let low = begins x wf a.key.now bytes a.place a.state hs e inside room a.self.now a.hi fits z in
    elim c.if-found-self.branch [
      | then-found-self w ↦ rw w.self-is (record {
        ordered = low;
        first = looked-above-found x wf a.key.now bytes a.place a.state hs e inside room a.self.now a.hi fits z c.requires.covers from to
            c.first_at-found.result c.first_at-found.ensures c.from-from.ensures et w.if-found-self.true;
      })
      | else-found-self w ↦ rw w.self-is (record {
        ordered = low;
        first = looked-above-kept x wf a.key.now bytes a.place a.state hs e inside room a.self.now a.hi fits z c.requires.covers from to
            c.first_at-found.result c.first_at-found.ensures c.from-from.ensures et w.if-found-self.false;
      })
    ]

pub returns-clause-covers : goal.returns-clause-covers
returns-clause-covers c =
    let a = c.args in
    let m = a.measured.now in
    let x = c.requires.measured.0 in
    let wf = m.table.well_formed in
    let bytes = bytes_of a.key.now (λ i. omega (arith, c.type_inv.key i)) in
    let hs = c.requires.measured.1 in
    let e = c.requires.measured.2 in
    let inside = c.requires.place_in_bounds.0 in
    let room = c.requires.place_in_bounds.1 in
    let from = c.from-from.result in
    let to = c.min-to.result in
    let et : to ≡ min a.hi (get_or a.self.now.passed_from a.state 0) = omega (arith, c.min-to.ensures, c.from.ensures) in
    let found = c.first_at-found.result in
    elim c.if-found-self.branch [
      | then-found-self w ↦ rw w.self-is
          (covers-above x wf a.key.now bytes a.place a.state hs e inside room a.self.now (a.place + 1)
          c.requires.covers (omega arith) from to a.hi
          found found c.first_at-found.ensures (omega (arith, w.if-found-self.true)) (omega arith) c.from-from.ensures et c.if-hi-from.false wf.few)
      | else-found-self w ↦ rw w.self-is
          (covers-above x wf a.key.now bytes a.place a.state hs e inside room a.self.now (a.place + 1)
          c.requires.covers (omega arith) from to a.hi
          found a.self.now.best c.first_at-found.ensures (omega arith) (omega (arith, w.if-found-self.false)) c.from-from.ensures et c.if-hi-from.false wf.few)
    ]
