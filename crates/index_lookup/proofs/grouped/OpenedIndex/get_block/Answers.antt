-- An id that no block has, or what is read.
use Rattle.std.proofs.Common.{arith}
use Rattle.index.proofs.Lookups.{block-unknown, block-answer}
use Rattle.index_lookup.proofs.grouped.OpenedIndex.get_block.Goals as goal

pub returns-then-block_id-self : goal.returns-then-block_id-self
returns-then-block_id-self c = let s = c.args.self.now in block-unknown s.group_len s.«data».now s.opened s.fits c.args.block_id
    (omega arith)

pub returns : goal.returns
returns c = let s = c.args.self.now in block-answer s.group_len s.«data».now s.opened s.fits c.args.block_id (omega arith) _ c.block.ensures
