-- A field whose bits from its width on are 0 fits.
use Rattle.std.proofs.Common.{ℕ, ◌<◌, ◌^◌, length, get_or, below_more, arith}
use Rattle.leaf_vectors.proofs.Widths.{width, low_bits, fit-ranges, fit-ordinals}
use Rattle.leaf_vectors.proofs.pack.Widths.fit.Goals as goal

pub loop-i-preserved : goal.loop-i-preserved
loop-i-preserved c =
    let i = c.loop-i.i in
    let fits = low_bits (get_or c.args.fields.now i 0) c.at.result c.if-field-at-ne0.false in
    below_more _ _ c.loop-i.invariant (rw c.at.ensures at fits)

pub returns : goal.returns
returns c e =
    let fs = c.args.fields.now in
    let all : (k : ℕ) → k < length fs → get_or fs k 0 < 2 ^ width c.args.self.range c.args.self.ordinal k =
    λ k l. c.loop-i.invariant k (omega arith) in
    (fit-ranges c.args.self.range c.args.self.ordinal fs all, fit-ordinals c.args.self.range c.args.self.ordinal fs all)
