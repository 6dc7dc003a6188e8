-- Each byte puts its two digits behind those written.
use Rattle.std.proofs.Common.{false, ◌<◌, refl, get_or, arith, rules}
use Rattle.std.proofs.lemmas.Grind.{put_two}
use Rattle.std.proofs.lemmas.Fmt.{hex_byte}
use Rattle.line_text.specs.Lines.{hex}
use Rattle.line_text.proofs.Decimal.{hex-more}
use Rattle.line_text.proofs.SeparatorDisplay.fmt.Goals as goal

pub loop-byte-init : goal.loop-byte-init
unfolding hex
loop-byte-init g c plain = search rules

pub loop-byte-preserved : goal.loop-byte-preserved
loop-byte-preserved g c plain =
    let bytes = c.args.self.now.bytes.now in
    let i = c.loop-byte.byte-index in
    let before = c.loop-byte.invariant plain in
    let told = rw (c.laid_out.ensures, c.in_radix.ensures) at c.in_ok-write.ensures.writes in
    let byte : get_or bytes i 0 < 256 = omega arith in
    let two = rw (hex_byte false (get_or bytes i 0) byte) at (told before.plain refl) in
    put_two _ _ _ _ _ _ _ before two (hex-more bytes i (omega arith))
