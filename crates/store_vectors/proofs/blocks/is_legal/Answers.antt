-- The block was read from the area.
use Rattle.std.proofs.lemmas.Bool.{not-true}
use Rattle.store_vectors.proofs.Read.{numbers-read}
use Rattle.store_vectors.proofs.blocks.is_legal.Goals as goal

pub returns : goal.returns
returns c e = numbers-read c.args.area.now c.args.i c.block_at.ensures c.numbers_bad.ensures (not-true _ e)
