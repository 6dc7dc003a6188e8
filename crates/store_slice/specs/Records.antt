-- What is known of records that were seen one after the other.
use Rattle.std.specs.Prelude.{ℕ, List, [], ◌∷◌, Bool, false, ◌||◌, cond, ltb, Option, Some, None}
use Rattle.layout.specs.Layout.{max_blocks}
use Rattle.group.specs.declared.BlockAddr.{BlockAddr}
use Rattle.group.specs.Rows.{are_numbers_bad, is_join_bad, is_ordinal_bad}
use Rattle.store_slice.specs.declared.rows.Seen.{Seen}

-- a record behind the last one, if there was any
abbrev pub breaks_behind : (BlockAddr → BlockAddr → Bool) → Option BlockAddr → BlockAddr → Bool
breaks_behind bad None b = false
breaks_behind bad (Some last) b = bad last b

-- one record more
unfoldable pub seen_with : Seen → BlockAddr → Seen
seen_with s b = record {
  last = Some b;
  numbers_bad = s.numbers_bad || are_numbers_bad b;
  join_bad = s.join_bad || breaks_behind is_join_bad s.last b;
  ordinal_bad = s.ordinal_bad || breaks_behind is_ordinal_bad s.last b;
}

-- before the first
abbrev pub none_seen : Seen
none_seen = record {
  last = None;
  numbers_bad = false;
  join_bad = false;
  ordinal_bad = false;
}

-- all of them, one after the other
unfoldable pub seen_all : Seen → List BlockAddr → Seen
seen_all s [] = s
seen_all s (b ∷ bs) = seen_all (seen_with s b) bs

-- the first row that was hit by n records
unfoldable pub seen_number : Seen → ℕ → ℕ
seen_number s n = cond s.numbers_bad 3 (cond s.join_bad 4 (cond s.ordinal_bad 5 (cond (ltb max_blocks n) 7 0)))
