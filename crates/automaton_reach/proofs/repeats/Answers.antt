-- One word more is compared with each turn, and after eight of them the test tells of all.
use Rattle.std.proofs.Common.{◌≡◌, ℕ, ◌*◌, ◌/◌, ◌<◌, refl, ◌∙◌, subst, arith, length}
use Rattle.automaton.proofs.Eights.{eight_at, Differ, differ-more, differ-exactly, chunk-of, part-word}
use Rattle.automaton_reach.proofs.repeats.Goals as goal

pub loop-eight-init : goal.loop-eight-init
loop-eight-init c = record { up = λ z k l. absurd (omega arith); down = λ h. refl }

pub loop-eight-preserved : goal.loop-eight-preserved
loop-eight-preserved c =
    let t = c.args.bytes.now in
    let k = c.loop-eight.eight-index in
    let inside : k < length t / 8 = omega (arith, c.as_chunks.ensures.front_len, c.loop-eight-test.true) in
    differ-more c.loop-eight.invariant c.from_le_bytes.result
    (c.from_le_bytes.ensures ∙ part-word t _ (8 * k) (chunk-of 8 k t _ c.as_chunks.ensures.front inside) (omega arith))

pub returns : goal.returns
returns c =
    let a = c.args in
    let e : c.loop-eight.eight-index ≡ 8 = omega (arith, c.as_chunks.ensures.front_len) in
    differ-exactly (subst (λ (x : ℕ). Differ (λ j. eight_at a.bytes.now (8 * j)) a.last x c.loop-eight.differ) e c.loop-eight.invariant)
