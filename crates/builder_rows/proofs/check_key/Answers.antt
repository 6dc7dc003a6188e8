-- `check_key` meets its contract: the one row on a key alone is that it is long.
use Rattle.std.proofs.Common.{sym, arith}
use Rattle.builder.proofs.Numbers.{long-hit, short-good}
use Rattle.builder_rows.proofs.check_key.Goals as goal

pub returns-then-key-gt-MAX_KEY_LEN : goal.returns-then-key-gt-MAX_KEY_LEN
returns-then-key-gt-MAX_KEY_LEN c = sym (long-hit c.args.key.now (omega arith))

pub returns : goal.returns
returns c = sym (short-good c.args.key.now (omega arith))
