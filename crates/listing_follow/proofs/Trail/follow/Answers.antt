-- One byte more is followed, and a loop behind it at once.
use Rattle.std.proofs.Common.{ℕ, ◌<◌, ◌≤◌, sym, ap, ◌∙◌, arith, get_or, length}
use Rattle.automaton.specs.Table.{next}
use Rattle.automaton.specs.Words.{Bytes}
use Rattle.automaton.proofs.Strings.{run_more, bytes_of}
use Rattle.listing_follow.proofs.Following.{followed-less, followed-more, followed-state}
use Rattle.listing_follow.proofs.Trail.follow.Goals as goal

pub loop-i-init : goal.loop-i-init
loop-i-init c =
    let a = c.args in
    let t = a.prepared.now.table in
    let trail = a.self.now in
    let p = c.requires in
    let bytes : Bytes a.key.now = bytes_of a.key.now (λ i. omega (arith, c.type_inv.key i)) in
    let h : c.min-i.result ≤ trail.known = omega arith in
    rw c.from-state.ensures (record {
      within = omega arith;
      last = p.0.each c.min-i.result h;
      small = followed-state t.bytes.now a.key.now trail.states trail.known c.min-i.result p.0 t.well_formed bytes h;
      followed = followed-less t.bytes.now a.key.now trail.states trail.known c.min-i.result p.0 h;
    })

pub follow_loops-i-requires : goal.follow_loops-i-requires
follow_loops-i-requires c =
    let a = c.args in
    let l = c.loop-i in
    let t = a.prepared.now.table.bytes.now in
    let h : l.i < length a.key.now = omega arith in
    let r =
    c.accept-behind.ensures.0 ∙ ap (λ (x : ℕ). next t x (get_or a.key.now l.i 0)) l.invariant.last ∙ sym (run_more t 0 a.key.now l.i h) in (
      followed-more t a.key.now l.self.states l.i c.accept-behind.result l.invariant.followed (omega arith) r,
      (sym c.if-behind-state.true ∙ r, l.invariant.small),
      omega arith,
      (omega arith, omega arith),
    )

pub loop-i-preserved : goal.loop-i-preserved
loop-i-preserved c =
    let a = c.args in
    let l = c.loop-i in
    let t = a.prepared.now.table.bytes.now in
    let h : l.i < length a.key.now = omega arith in
    let r =
    c.accept-behind.ensures.0 ∙ ap (λ (x : ℕ). next t x (get_or a.key.now l.i 0)) l.invariant.last ∙ sym (run_more t 0 a.key.now l.i h) in
    record {
      within = omega arith;
      last = r;
      small = c.accept-behind.ensures.1;
      followed = followed-more t a.key.now l.self.states l.i c.accept-behind.result l.invariant.followed (omega arith) r;
    }
