-- What is copied is the entries.
use lib.Seq.{take-length}
use Rattle.serialize.proofs.Stores.{copied}
use Rattle.batch.proofs.grouped.write.Goals as goal

pub returns : goal.returns
returns c =
    rw c.copy_from_slice.ensures.after (rw (take-length c.args.entries.now) at (copied c.args.ids.now c.args.entries.now c.requires))
