-- Both blocks were read from the area.
use Rattle.std.proofs.lemmas.Bool.{not-true}
use Rattle.store_vectors.proofs.Read.{follows-read}
use Rattle.store_vectors.proofs.blocks.is_followed.Goals as goal

pub returns-then-not-join_bad : goal.returns-then-not-join_bad
returns-then-not-join_bad c e =
    follows-read c.args.area.now c.args.i c.block_at-before.ensures c.block_at-block.ensures c.join_bad.ensures
    c.if-not-join_bad.true c.ordinal_bad.ensures (not-true _ e)
