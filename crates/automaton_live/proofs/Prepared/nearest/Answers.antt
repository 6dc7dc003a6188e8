-- The eight of this turn has the nearest byte, or it is one more of those with none.
use Rattle.std.proofs.Common.{◌≡◌, ℕ, ◌*◌, ◌/◌, ◌<◌, sym, ◌∙◌, subst, arith}
use denote.Param.{number}
use Rattle.automaton.specs.Table.{next}
use Rattle.automaton.specs.Words.{CanMatch}
use Rattle.automaton.proofs.Rows.{row-small}
use Rattle.automaton.proofs.Eights.{eight_at, Blank, chunk-of, part-word}
use Rattle.automaton_live.specs.contracts.Prepared.nearest.{BACK-type}
use Rattle.automaton_live.proofs.Places.{Past, InEight, place-lt, past-more, eights-here, eights-none}
use Rattle.automaton_live.proofs.Places.{eight-below, eight-some, eight-blank, eight-new, blank-none}
use Rattle.automaton_live.proofs.Prepared.nearest.Goals as goal
use Rattle.automaton_live.proofs.Prepared.nearest.Goals.{then-eight-dead+in_default, else-eight-dead}

pub loop-k-init : goal.loop-k-init
loop-k-init g c = record { past = λ m h. absurd (omega arith); blank = blank-none c.args.self.now.reach (omega arith) }

pub place-from-requires : goal.place-from-requires
place-from-requires g c = omega arith

pub bounds-eights-from : goal.bounds-eights-from
bounds-eights-from g c =
    let p = c.place-from in
    let l : p.result < 32 = rw p.ensures (place-lt (BACK-type (number g.row.BACK)) 32 c.loop-k.k (omega arith)) in
    omega (arith, c.as_chunks.ensures.front_len, c.row-row.ensures.row_len)

pub nearest_of_eight-requires : goal.nearest_of_eight-requires
nearest_of_eight-requires g c =
    let a = c.args in
    let w = a.self.now.table.well_formed in
    let p = c.place-from in
    let l : p.result < 32 = rw p.ensures (place-lt (BACK-type (number g.row.BACK)) 32 c.loop-k.k (omega arith)) in
    (omega (arith, c.row-row.ensures.row_len), eight-below w a.state c.requires.1 _ c.row-row.ensures.by_index (8 * p.result) (omega arith))

pub returns-in-Some : goal.returns-in-Some
returns-in-Some g c =
    let a = c.args in
    let t = a.self.now.table.bytes.now in
    let k = c.loop-k.k in
    let p = c.place-from in
    let l : p.result < 32 = rw p.ensures (place-lt (BACK-type (number g.row.BACK)) 32 k (omega arith)) in
    eights-here (λ b. CanMatch t (next t a.state b)) (BACK-type (number g.row.BACK)) k p.result c.in-Some.j (omega arith) p.ensures
    (eight-some a.self.now.table.well_formed a.state c.requires.1 _ c.row-row.ensures.by_index (8 * p.result) (omega arith) c.requires.0
    (BACK-type (number g.row.BACK)) c.in-Some.j c.in-Some.ensures)
    c.loop-k.invariant.past

pub loop-k-preserved : goal.loop-k-preserved
loop-k-preserved g c =
    let a = c.args in
    let t = a.self.now.table.bytes.now in
    let k = c.loop-k.k in
    let p = c.place-from in
    let row = c.row-row.result.now in
    let at = 8 * p.result in
    let l : p.result < 32 = rw p.ensures (place-lt (BACK-type (number g.row.BACK)) 32 k (omega arith)) in
    let r = c.row-row.ensures in
    let small = row-small _ _ row r.by_index a.self.now.table.well_formed c.requires.1 r.row_len in
    let x = c.from_le_bytes-eight in
    let part = chunk-of 8 (at / 8) row _ c.as_chunks.ensures.front (omega (arith, r.row_len)) in
    let whole : 8 * (at / 8) ≡ at = omega arith in
    let word : x.result ≡ eight_at row at =
    subst (λ (n : ℕ). x.result ≡ eight_at row n) whole (x.ensures ∙ part-word row _ (8 * (at / 8)) part (omega (arith, r.row_len))) in
    let j = c.if-eight-dead in
    let d : Blank a.self.now.reach x.result =
    elim j.branch [
      | then-eight-dead+in_default w ↦ eight-new row a.self.now.reach at small
          (BACK-type (number g.row.BACK)) x.result word w.in_default.ensures
      | else-eight-dead w ↦ subst (Blank a.self.now.reach) (sym w.if-eight-dead.false) c.loop-k.invariant.blank
    ] in
    let e : j.dead ≡ x.result =
    elim j.branch [ then-eight-dead+in_default w ↦ w.dead-is | else-eight-dead w ↦ w.dead-is ∙ sym w.if-eight-dead.false ] in
    record {
      past = past-more (InEight (λ b. CanMatch t (next t a.state b)))
          (BACK-type (number g.row.BACK)) 32 k p.result p.ensures c.loop-k.invariant.past
          (eight-blank a.self.now.table.well_formed a.state c.requires.1 row r.by_index at (omega arith) c.requires.0
          small x.result word d);
      blank = subst (Blank a.self.now.reach) (sym e) d;
    }

pub returns : goal.returns
returns g c =
    let a = c.args in
    let P = λ (b : ℕ). CanMatch a.self.now.table.bytes.now (next a.self.now.table.bytes.now a.state b) in
    let e : c.loop-k.k ≡ 32 = omega arith in
    eights-none P (BACK-type (number g.row.BACK)) (subst (Past (InEight P) (BACK-type (number g.row.BACK)) 32) e c.loop-k.invariant.past)
