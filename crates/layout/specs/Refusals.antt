-- The numbers of the table of refusals.
use Rattle.std.specs.Prelude.{ℕ, Result, Ok, Err}
use Rattle.layout.specs.declared.refusals.Refusal.{Refusal}
use Rattle.layout.specs.declared.refusals.Refusal.TheVariants.{AreaBad, KeyLong, NumbersBad, JoinBad, OrdinalBad, KeyBad}
use Rattle.layout.specs.declared.refusals.Refusal.TheVariants.{RoomBad, ListBad, OutShort, FileShort, NoDirectory, DirectoryBad}
use Rattle.layout.specs.declared.refusals.Refusal.TheVariants.{KeysUnsorted, RecordsBad, GroupBad, BlockBad, UnknownId, OrdinalBelow}
use Rattle.layout.specs.declared.refusals.Refusal.TheVariants.{KeyAbove, Unfit, TableBad, FlagBad, StateBad, RoomShort}
use Rattle.layout.specs.declared.refusals.Refusal.TheVariants.{NoExample, KeyListBad, NotCanonical, TermsBad, OrdinalAbove, VersionBad}

-- the row that a refusal is
abbrev pub number_of : Refusal → ℕ
number_of AreaBad = 1
number_of KeyLong = 2
number_of NumbersBad = 3
number_of JoinBad = 4
number_of OrdinalBad = 5
number_of KeyBad = 6
number_of RoomBad = 7
number_of ListBad = 8
number_of OutShort = 9
number_of FileShort = 10
number_of NoDirectory = 11
number_of DirectoryBad = 12
number_of KeysUnsorted = 13
number_of RecordsBad = 14
number_of GroupBad = 15
number_of BlockBad = 16
number_of UnknownId = 17
number_of OrdinalBelow = 18
number_of KeyAbove = 19
number_of Unfit = 20
number_of TableBad = 21
number_of FlagBad = 22
number_of StateBad = 23
number_of RoomShort = 24
number_of NoExample = 25
number_of KeyListBad = 26
number_of NotCanonical = 27
number_of TermsBad = 28
number_of OrdinalAbove = 29
number_of VersionBad = 30

-- an answer's number: 0 where the call isn't refused
abbrev pub no_of : {A : Type 0} → Result A Refusal → ℕ
no_of (Ok a) = 0
no_of (Err refusal) = number_of refusal
