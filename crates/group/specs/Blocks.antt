-- Document 01's block (start, end, first ordinal) is a `BlockAddr`; the blocks of a lent area.
use Rattle.std.specs.Prelude.{ℕ, zero, suc, ◌+◌, ◌*◌, List, [], ◌∷◌, get_or, set}
use Rattle.group.specs.declared.BlockAddr.{BlockAddr}

-- all zeros, which stands where there is no block
abbrev pub no_block : BlockAddr
no_block = record { start = 0; end = 0; first_ordinal = 0 }

-- block i of a list
abbrev pub block_of : List BlockAddr → ℕ → BlockAddr
block_of bs i = get_or bs i no_block

-- the block whose three numbers stand in an area from place `at` on
abbrev pub block_from : List ℕ → ℕ → BlockAddr
block_from area at = record {
  start = get_or area at 0;
  end = get_or area (at + 1) 0;
  first_ordinal = get_or area (at + 2) 0;
}

-- the area with the block's numbers there
abbrev pub with_block : List ℕ → ℕ → BlockAddr → List ℕ
with_block area at b = set (set (set area at b.start) (at + 1) b.end) (at + 2) b.first_ordinal

-- block i of an area with `stride` numbers a block, of which these three come first
abbrev pub block_at : List ℕ → ℕ → ℕ → BlockAddr
block_at area stride i = record {
  start = get_or area (stride * i) 0;
  end = get_or area (stride * i + 1) 0;
  first_ordinal = get_or area (stride * i + 2) 0;
}

-- the `count` blocks from block i on
unfoldable pub blocks_at : List ℕ → ℕ → ℕ → ℕ → List BlockAddr
blocks_at area stride i zero = []
blocks_at area stride i (suc count) = block_at area stride i ∷ blocks_at area stride (suc i) count
