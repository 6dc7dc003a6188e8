-- Each piece is written behind those before it, so that in the end all of them are.
use Rattle.std.proofs.Common.{◌≡◌, ℕ, zero, suc, ◌+◌, ◌≤◌, ◌<◌, List, [], ◌∷◌, ◌++◌, arith}
use Rattle.std.proofs.Common.{sym, ap, ◌∙◌, subst, length, take, get_or, drop, refl, append-nil, append_assoc, add-one}
use mathlib.Core.List.{flatten}
use lib.Seq.{take_all, take_at, sets, sets-eq}
use Rattle.std.specs.Io.KnownBytes.{Appends}
use Rattle.std.proofs.KnownBytes.{Appends-nil, Appends-trans}
use Rattle.block_lines.specs.Text.{blocks_text, blocks_pieces, piece_at}
use Rattle.blocks_io.proofs.print.Goals as goal

-- one piece more
grows : (ps : List (List ℕ)) (i : ℕ) → i < length ps → flatten (take (i + 1) ps) ≡ flatten (take i ps) ++ get_or ps i []
unfolding flatten
grows [] i h = absurd (omega (arith, h))
grows (p ∷ ps) zero h = append-nil p
grows (p ∷ ps) (suc i) h =
    rw (add-one (suc i)) (
    ap (λ l. p ++ l) (rw (add-one i) at (grows ps i (omega arith))) ∙ sym (append_assoc p (flatten (take i ps)) (get_or ps i [])))

-- what is put to the front of an area is its front
put-front : (d out w : List ℕ) (at : ℕ) → (at ≡ length w) × (out ≡ sets d 0 w) → length w ≤ length d → take at out ≡ w
put-front d out w at p h = rw (p.0, p.1, sets-eq w d 0 (omega arith)) (take_at w (drop (0 + length w) d) (length w) refl)

pub loop-i-init : goal.loop-i-init
unfolding flatten
loop-i-init g c = Appends-nil _

pub loop-i-preserved : goal.loop-i-preserved
loop-i-preserved g c =
    let f = c.args.«data».now in
    let i = c.loop-i.i in
    let put = c.put-len in
    let written : take put.result put.new.out ≡ piece_at f i =
    put-front c.loop-i.text put.new.out _ put.result put.ensures (omega (arith, c.piece.ensures.short)) ∙ c.piece.ensures.whole in
    let more : flatten (take i (blocks_pieces f)) ++ take put.result put.new.out ≡ flatten (take (i + 1) (blocks_pieces f)) =
    ap (λ l. flatten (take i (blocks_pieces f)) ++ l) written
    ∙ sym (grows (blocks_pieces f) i (omega (arith, c.loop-i-test.true, c.pieces-i-end.ensures))) in
    subst (Appends _ _) more (Appends-trans _ _ _ _ _ c.loop-i.invariant c.in_ok-write_all.ensures.bytes)

pub returns : goal.returns
unfolding blocks_text
returns g c =
    let all = take_all c.loop-i.i (blocks_pieces c.args.«data».now) (omega (arith, c.loop-i-test.false, c.pieces-i-end.ensures)) in
    subst (Appends _ _) (ap flatten all) c.loop-i.invariant
