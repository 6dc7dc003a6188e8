-- A shorten keeps the builder.
use Rattle.rosmarel.proofs.Kept.{shorten-with}
use Rattle.rosmarel.proofs.build.rosmarel_shorten.Goals as goal

pub returns : goal.returns
returns c =
    rw c.number_and_builder.ensures.0
    (shorten-with _ c.args.n _ _ _ _ _ _
    (rw c.new-builder.ensures at c.shorten_last_block_key_given_next_key-shortened.ensures.answers))
