-- Rows 3, 4 and 5 of document 01's table, as tests, and the order of rows: the first hit decides.
use Rattle.std.specs.Prelude.{ℕ, zero, suc, Bool, not, ◌||◌, eqb, ltb, leb}
use Rattle.group.specs.Legal.{limit}
use Rattle.group.specs.declared.BlockAddr.{BlockAddr}

-- row 3 (SPECIFICATION 13.3): a block that ends before it starts, or a number that is too large
unfoldable pub are_numbers_bad : BlockAddr → Bool
are_numbers_bad b = ltb b.end b.start || (leb limit b.end || leb limit b.first_ordinal)

-- row 4 (SPECIFICATION 13.4): a block that doesn't touch the one before it
unfoldable pub is_join_bad : BlockAddr → BlockAddr → Bool
is_join_bad before b = not (eqb b.start before.end)

-- row 5 (SPECIFICATION 13.5): a first ordinal that doesn't rise
unfoldable pub is_ordinal_bad : BlockAddr → BlockAddr → Bool
is_ordinal_bad before b = leb b.first_ordinal before.first_ordinal

-- a row that was hit, else those behind it; 0 where none is hit
abbrev pub or_row : ℕ → ℕ → ℕ
or_row zero later = later
or_row (suc k) later = suc k
