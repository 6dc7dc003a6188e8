-- What was found is whether fewer bytes are in common than were compared.
use Rattle.std.proofs.Common.{◌≡◌, drop, ltb}
use Rattle.keys.specs.Order.{common_prefix_len}
use Rattle.keys.proofs.differs.Given as goal

abbrev pub invariant-loop-i : goal.invariant-loop-i
invariant-loop-i l = l.found ≡ ltb (common_prefix_len (drop l.at l.left) (drop l.at l.right)) l.i
