-- No refusal has the number 0.
use Rattle.std.specs.Prelude.{◌<◌}
use native.Mathlib.Omega.{arith}
use Rattle.layout.specs.declared.refusals.Refusal.{Refusal}
use Rattle.layout.specs.declared.refusals.Refusal.TheVariants.{AreaBad, KeyLong, NumbersBad, JoinBad, OrdinalBad, KeyBad}
use Rattle.layout.specs.declared.refusals.Refusal.TheVariants.{RoomBad, ListBad, OutShort, FileShort, NoDirectory, DirectoryBad}
use Rattle.layout.specs.declared.refusals.Refusal.TheVariants.{KeysUnsorted, RecordsBad, GroupBad, BlockBad, UnknownId, OrdinalBelow}
use Rattle.layout.specs.declared.refusals.Refusal.TheVariants.{KeyAbove, Unfit, TableBad, FlagBad, StateBad, RoomShort}
use Rattle.layout.specs.declared.refusals.Refusal.TheVariants.{NoExample, KeyListBad, NotCanonical, TermsBad, OrdinalAbove, VersionBad}
use Rattle.layout.specs.Refusals.{number_of}

pub number_positive : (r : Refusal) → 0 < number_of r
number_positive AreaBad = omega arith
number_positive KeyLong = omega arith
number_positive NumbersBad = omega arith
number_positive JoinBad = omega arith
number_positive OrdinalBad = omega arith
number_positive KeyBad = omega arith
number_positive RoomBad = omega arith
number_positive ListBad = omega arith
number_positive OutShort = omega arith
number_positive FileShort = omega arith
number_positive NoDirectory = omega arith
number_positive DirectoryBad = omega arith
number_positive KeysUnsorted = omega arith
number_positive RecordsBad = omega arith
number_positive GroupBad = omega arith
number_positive BlockBad = omega arith
number_positive UnknownId = omega arith
number_positive OrdinalBelow = omega arith
number_positive KeyAbove = omega arith
number_positive Unfit = omega arith
number_positive TableBad = omega arith
number_positive FlagBad = omega arith
number_positive StateBad = omega arith
number_positive RoomShort = omega arith
number_positive NoExample = omega arith
number_positive KeyListBad = omega arith
number_positive NotCanonical = omega arith
number_positive TermsBad = omega arith
number_positive OrdinalAbove = omega arith
number_positive VersionBad = omega arith
