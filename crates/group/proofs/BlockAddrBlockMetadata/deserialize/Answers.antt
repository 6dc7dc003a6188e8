-- The two numbers of one byte are read by their places.
use Rattle.std.proofs.Common.{◌≡◌, ℕ, ◌+◌, List, get_or, ◌∙◌, rules, tests, arith}
use native.Mathlib.Nat.{add-zero, mul-zero}
use lib.ListN.{drop}
use lib.Seq.{get_or-drop}
use Rattle.serialize.specs.Digits.{of_digits, number_at}
use Rattle.serialize.proofs.Digits.{of_digits-suc}
use Rattle.group.specs.Meta.{metadata_at}
use Rattle.group.proofs.BlockAddrBlockMetadata.deserialize.Goals as goal

byte : (l : List ℕ) (at : ℕ) → number_at l at 1 ≡ get_or l at 0
unfolding of_digits
byte l at = of_digits-suc 8 (drop at l) 0 ∙ rw (get_or-drop, add-zero at, mul-zero 8) (omega arith)

pub returns : goal.returns
unfolding metadata_at
returns c = rw (byte c.args.bytes.now (c.args.at + 32), byte c.args.bytes.now (c.args.at + 33)) (search (rules, tests))
