-- The line's parts, one behind the other. Each answer names what is written so far; a lemma for each length would be no shorter.
use Rattle.std.proofs.Common.{[], ◌∷◌, arith}
use Rattle.line_text.specs.Lines.{decimal, separator_text, line_of}
use Rattle.line_text.proofs.Written.{parts-line}
use Rattle.line_text.proofs.Stored.{Wrote, wrote-first, wrote-next, line-parts}
use Rattle.line_text.proofs.Line.put.Goals as goal

pub put_number-at-requires : goal.put_number-at-requires
put_number-at-requires c =
    let s = c.args.self.now in
    omega (arith, c.requires, line-parts s.id s.block s.separator.bytes.now)

pub put_next-at-requires : goal.put_next-at-requires
put_next-at-requires c =
    let s = c.args.self.now in
    omega (
      arith,
      c.requires,
      line-parts s.id s.block s.separator.bytes.now,
      c.put_number-at.ensures.0,
      c.put_number-at.auto.out,
    )

pub put_next-at-requires-2 : goal.put_next-at-requires-2
put_next-at-requires-2 c =
    let s = c.args.self.now in
    omega (
      arith,
      c.requires,
      line-parts s.id s.block s.separator.bytes.now,
      c.put_number-at.ensures.0,
      c.put_number-at.auto.out,
      c.put_next-at.ensures.0,
      c.put_next-at.auto.out,
    )

pub put_next-at-requires-3 : goal.put_next-at-requires-3
put_next-at-requires-3 c =
    let s = c.args.self.now in
    omega (
      arith,
      c.requires,
      line-parts s.id s.block s.separator.bytes.now,
      c.put_number-at.ensures.0,
      c.put_number-at.auto.out,
      c.put_next-at.ensures.0,
      c.put_next-at.auto.out,
      c.put_next-at-2.ensures.0,
      c.put_next-at-2.auto.out,
    )

pub put_separator-at-requires : goal.put_separator-at-requires
put_separator-at-requires c =
    let s = c.args.self.now in
    omega (
      arith,
      c.requires,
      line-parts s.id s.block s.separator.bytes.now,
      c.put_number-at.ensures.0,
      c.put_number-at.auto.out,
      c.put_next-at.ensures.0,
      c.put_next-at.auto.out,
      c.put_next-at-2.ensures.0,
      c.put_next-at-2.auto.out,
      c.put_next-at-3.ensures.0,
      c.put_next-at-3.auto.out,
    )

pub put-requires : goal.put-requires
put-requires c =
    let s = c.args.self.now in
    omega (
      arith,
      c.requires,
      line-parts s.id s.block s.separator.bytes.now,
      c.put_number-at.ensures.0,
      c.put_number-at.auto.out,
      c.put_next-at.ensures.0,
      c.put_next-at.auto.out,
      c.put_next-at-2.ensures.0,
      c.put_next-at-2.auto.out,
      c.put_next-at-3.ensures.0,
      c.put_next-at-3.auto.out,
      c.put_separator-at.ensures.0,
      c.put_separator-at.auto.out,
    )

pub returns : goal.returns
returns c =
    let out = c.args.out.now in
    let s = c.args.self.now in
    let one = wrote-first out c.put_number-at.new.out (decimal s.id) c.put_number-at.result c.put_number-at.ensures in
    let two = wrote-next out _ _ _ one _ (32 ∷ decimal s.block.start) _ c.put_next-at.ensures in
    let three = wrote-next out _ _ _ two _ (32 ∷ decimal s.block.end) _ c.put_next-at-2.ensures in
    let four = wrote-next out _ _ _ three _ (32 ∷ decimal s.block.first_ordinal) _ c.put_next-at-3.ensures in
    let five = wrote-next out _ _ _ four _ (32 ∷ separator_text s.separator.bytes.now) _ c.put_separator-at.ensures in
    let all = wrote-next out _ _ _ five _ (10 ∷ []) _ c.put.ensures in
    let wrote : Wrote out c.put.new.out c.put.result (line_of s.id s.block s.separator.bytes.now) =
    rw (parts-line s.id s.block s.separator.bytes.now) at all in
    (wrote.end, wrote.stored)
