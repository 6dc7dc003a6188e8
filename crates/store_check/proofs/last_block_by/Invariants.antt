-- The start and the ordinal are those of the block before i, and those before it rise.
use Rattle.std.proofs.Common.{◌≡◌, ◌-◌}
use Rattle.serialize.specs.Digits.{le_val}
use Rattle.group.specs.Read.{range_read, ordinal_read}
use Rattle.store_check.proofs.Rising.{Rising}
use Rattle.store_check.proofs.last_block_by.Given as goal

abbrev pub invariant-loop-i : goal.invariant-loop-i
invariant-loop-i g l =
    (l.start ≡ range_read l.group.meta (le_val l.group.«data».now) (l.i - 1))
    × (l.first_ordinal ≡ ordinal_read l.group.meta (le_val l.group.«data».now) (l.i - 1))
    × Rising l.group.meta (le_val l.group.«data».now) (l.i - 1)
