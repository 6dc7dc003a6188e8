-- The tags of a list's items, and what the code answers for a length of an item.
use Rattle.std.specs.Prelude.{ℕ, ◌≡◌, ◌+◌, ◌<◌, ◌≤◌, ◌⊎◌, List, length, Option, Result, MatchOption, MatchResult}
use Rattle.replay_format.specs.declared.Tag.{Tag}
use Rattle.replay_format.specs.declared.Tag.TheVariants.{Add, Shorten, ById, ByOrdinal, ByKey, AddressByKey, Separator, Mark}
use Rattle.replay_format.specs.declared.UnknownTag.{UnknownTag}
use Rattle.replay_format.specs.Format.{tag_at}

-- the byte that a tag is
abbrev pub byte_of : Tag → ℕ
byte_of Add = 0
byte_of Shorten = 1
byte_of ById = 2
byte_of ByOrdinal = 3
byte_of ByKey = 4
byte_of AddressByKey = 5
byte_of Separator = 6
byte_of Mark = 7

-- the tag of a byte, or a byte above all tags
abbrev pub Decodes : ℕ → Result Tag UnknownTag → Type 0
Decodes byte r = MatchResult r (λ tag. byte_of tag ≡ byte) (λ e. (e.0 ≡ byte) × (7 < byte))

-- the tag of the item at `at`; none behind the list's end and where no tag stands
abbrev pub TagAt : List ℕ → ℕ → Option Tag → Type 0
TagAt s at r = MatchOption r ((length s ≤ at) ⊎ (7 < tag_at s at)) (λ tag. (at < length s) × (byte_of tag ≡ tag_at s at))

-- a length that isn't 0, or none for 0
abbrev pub IsLen : Option ℕ → ℕ → Type 0
IsLen r n = MatchOption r (n ≡ 0) (λ len. (len ≡ n) × (0 < n))

-- the length of an item at `at`, which ends inside the list, or none for 0
abbrev pub IsItem : List ℕ → ℕ → Option ℕ → ℕ → Type 0
IsItem s at r n = MatchOption r (n ≡ 0) (λ len. (len ≡ n) × (0 < n) × (at + n ≤ length s))
