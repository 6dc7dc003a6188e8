-- The blocks of an opened index.
use Rattle.std.specs.Prelude.{ℕ, List}
use Rattle.group.specs.declared.BlockAddr.{BlockAddr}
use Rattle.index.specs.declared.SSTableIndexV3.{SSTableIndexV3}
use Rattle.index.specs.Parts.{block_in}
use Rattle.index.specs.Opening.{group_of}

-- block id of an opened record
abbrev pub opened_block : SSTableIndexV3 → List ℕ → ℕ → BlockAddr
opened_block opened f id = block_in (group_of opened) f id
