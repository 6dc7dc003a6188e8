-- Records that are given as three numbers each: start, end, first ordinal.
use Rattle.std.specs.Prelude.{ℕ, List, map, get_or}
use Rattle.group.specs.declared.BlockAddr.{BlockAddr}

abbrev pub block_of_numbers : List ℕ → BlockAddr
block_of_numbers numbers = record { start = get_or numbers 0 0; end = get_or numbers 1 0; first_ordinal = get_or numbers 2 0 }

abbrev pub blocks_of_numbers : List (List ℕ) → List BlockAddr
blocks_of_numbers blocks = map block_of_numbers blocks
