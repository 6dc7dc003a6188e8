-- The area's front holds the blocks passed, and `start` is where the next one starts.
use Rattle.std.proofs.Common.{◌≡◌, take}
use Rattle.serialize.specs.Digits.{le_val}
use Rattle.group.specs.Blocks.{blocks_at}
use Rattle.group.specs.Read.{range_read}
use Rattle.store_canonical.proofs.Own.{own}
use Rattle.store_canonical.proofs.read_group.Given as goal

abbrev pub invariant-loop-i : goal.invariant-loop-i
invariant-loop-i l =
    (l.start ≡ range_read l.group.meta (le_val l.group.«data».now) l.i)
    × (blocks_at l.area 3 0 l.i ≡ take l.i (own l.group.meta l.group.«data».now))
