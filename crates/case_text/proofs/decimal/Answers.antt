-- A digit more makes ten times the value and the digit's own, and no front has a larger value than the whole.
use Rattle.std.proofs.Common.{rules, ◌+◌}
use Rattle.std.proofs.lemmas.Int.Digits.{digits_value_more}
use Rattle.std.proofs.lemmas.Str.Parse.{digits_value-take-le}
use Rattle.std.proofs.lemmas.Str.{digit_value_digit}
use Rattle.case_text.proofs.decimal.Goals as goal

pub loop-byte-preserved : goal.loop-byte-preserved
loop-byte-preserved c = search (rules, digits_value_more 10 c.args.token.now c.loop-byte.byte-index, digit_value_digit)

pub returns-in_err-checked_mul-clause-some : goal.returns-in_err-checked_mul-clause-some
returns-in_err-checked_mul-clause-some c digits less = search (
  rules,
  digits_value_more 10 c.args.token.now c.loop-byte.byte-index,
  digits_value-take-le 10 c.args.token.now (c.loop-byte.byte-index + 1),
)

pub returns-in_err-number-clause-some : goal.returns-in_err-number-clause-some
returns-in_err-number-clause-some c digits less = search (
  rules,
  digits_value_more 10 c.args.token.now c.loop-byte.byte-index,
  digits_value-take-le 10 c.args.token.now (c.loop-byte.byte-index + 1),
  digit_value_digit,
)
