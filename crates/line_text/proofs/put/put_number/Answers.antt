-- The digits that itoa gives are the definition's.
use Rattle.std.proofs.Common.{◌≡◌, arith, ◌∙◌}
use Rattle.line_text.specs.Lines.{decimal}
use Rattle.line_text.proofs.Decimal.{decimal_shown}
use Rattle.line_text.proofs.put.put_number.Goals as goal

pub put-requires : goal.put-requires
put-requires c =
    let text : c.as_bytes.result.now ≡ decimal c.args.n =
    c.as_bytes.ensures.value ∙ c.format.ensures.text ∙ decimal_shown c.args.n (omega arith) in
    rw text c.requires

pub returns : goal.returns
returns c =
    let text : c.as_bytes.result.now ≡ decimal c.args.n =
    c.as_bytes.ensures.value ∙ c.format.ensures.text ∙ decimal_shown c.args.n (omega arith) in
    rw text at c.put.ensures
