-- The front is taken where it is accepted and shorter than the best string.
use Rattle.std.proofs.Common.{refl, [], ◌∷◌, ◌++◌, ◌+◌, arith, take, get_or}
use Rattle.automaton.proofs.Strings.{bytes_of}
use Rattle.keys.proofs.Order.{≼_trans, prefix-≼}
use Rattle.example_leaving.specs.declared.Leaving.{Leaving}
use Rattle.example_walk.proofs.Fronts.{reached-more, front-taken, front-left}
use Rattle.example_walk.proofs.Walk.look_at_front.Goals as goal
use Rattle.example_walk.proofs.Walk.look_at_front.Goals.{else-measured-to-eq0-via-then-measured-to-eq0+else-place-self}
use Rattle.example_walk.proofs.Walk.look_at_front.Goals.{else-measured-to-eq0-via-else-measured-to-eq0}

pub returns-then-place-self-clause-reached : goal.returns-then-place-self-clause-reached
returns-then-place-self-clause-reached c =
    let a = c.args in
    reached-more a.measured.now.table.bytes.now a.key.now a.place a.state c.accept-to.result c.requires.place_in_bounds.0
    c.requires.measured.2 c.accept-to.ensures.0 c.accept-to.ensures.1

pub returns-else-measured-to-eq0-clause-reached : goal.returns-else-measured-to-eq0-clause-reached
returns-else-measured-to-eq0-clause-reached c =
    let a = c.args in
    reached-more a.measured.now.table.bytes.now a.key.now a.place a.state c.accept-to.result c.requires.place_in_bounds.0
    c.requires.measured.2 c.accept-to.ensures.0 c.accept-to.ensures.1

pub returns-then-place-self-clause-looked : goal.returns-then-place-self-clause-looked
returns-then-place-self-clause-looked c =
    let a = c.args in
    let m = a.measured.now in
    let t = m.table.bytes.now in
    let r = reached-more t a.key.now a.place a.state c.accept-to.result c.requires.place_in_bounds.0 c.requires.measured.2
    c.accept-to.ensures.0 c.accept-to.ensures.1 in
    let p = take (a.place + 1) a.key.now in
    let one : Leaving =
    record { key = a.key; place = a.place; byte = get_or a.key.now a.place 0; state = c.accept-to.result; last = a.place } in
    λ b z. record {
      ordered = ≼_trans b p (p ++ (0 ∷ [])) z.ordered (prefix-≼ p (0 ∷ []));
      first = front-taken c.requires.measured.0 m.table.well_formed one (bytes_of a.key.now (λ i. omega (arith, c.type_inv.key i)))
          c.requires.place_in_bounds.0 c.requires.place_in_bounds.1 (omega (arith, c.type_inv.key a.place)) refl (r.led (omega arith))
          r.small refl
          z.ordered z.first c.if-measured-to-eq0.true c.if-place-self.true;
    }

pub returns-else-measured-to-eq0-clause-looked : goal.returns-else-measured-to-eq0-clause-looked
returns-else-measured-to-eq0-clause-looked c =
    let a = c.args in
    let m = a.measured.now in
    let t = m.table.bytes.now in
    let r = reached-more t a.key.now a.place a.state c.accept-to.result c.requires.place_in_bounds.0 c.requires.measured.2
    c.accept-to.ensures.0 c.accept-to.ensures.1 in
    let p = take (a.place + 1) a.key.now in
    let one : Leaving =
    record { key = a.key; place = a.place; byte = get_or a.key.now a.place 0; state = c.accept-to.result; last = a.place } in
    λ b z. record {
      ordered = ≼_trans b p (p ++ (0 ∷ [])) z.ordered (prefix-≼ p (0 ∷ []));
      first = front-left c.requires.measured.0 m.table.well_formed one (bytes_of a.key.now (λ i. omega (arith, c.type_inv.key i)))
          c.requires.place_in_bounds.0 c.requires.place_in_bounds.1 (omega (arith, c.type_inv.key a.place)) refl (r.led (omega arith))
          r.small refl
          z.ordered z.first (λ near. elim c.else-measured-to-eq0.branch [
            | else-measured-to-eq0-via-then-measured-to-eq0+else-place-self w ↦ w.if-place-self.false
            | else-measured-to-eq0-via-else-measured-to-eq0 w ↦ absurd (w.if-measured-to-eq0.false near)
          ]);
    }
