-- `refused`, the row's digits and the line's end, one behind the other.
use Rattle.std.proofs.Common.{◌≡◌, [], ◌∷◌, arith}
use Rattle.line_text.specs.Lines.{decimal, refused_text, refused_line}
use Rattle.line_text.proofs.Stored.{wrote-first, wrote-next, refused-parts}
use Rattle.line_text.proofs.put.put_refusal.Goals as goal

pub put-next-requires : goal.put-next-requires
put-next-requires c = omega (arith, c.requires, refused-parts c.args.row)

pub put_number-end-requires : goal.put_number-end-requires
put_number-end-requires c =
    rw c.from.ensures (omega (arith, c.requires, refused-parts c.args.row, c.put-next.ensures.0, c.put-next.auto.out))

pub put-requires : goal.put-requires
put-requires c =
    omega (
      arith,
      c.requires,
      refused-parts c.args.row,
      c.put-next.ensures.0,
      c.put-next.auto.out,
      rw c.from.ensures at c.put_number-end.ensures.0,
      c.put_number-end.auto.out,
    )

pub returns : goal.returns
unfolding refused_line
returns c =
    let out = c.args.out.now in
    let one = wrote-first out c.put-next.new.out refused_text c.put-next.result c.put-next.ensures in
    let two = wrote-next out _ _ refused_text one _ (decimal c.args.row) _ (rw c.from.ensures at c.put_number-end.ensures) in
    let all = wrote-next out _ _ _ two _ (10 ∷ []) _ c.put.ensures in
    (all.end, all.stored)
