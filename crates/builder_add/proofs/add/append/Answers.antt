-- `append` meets its contract: five stores are one run, and a copy into the end of the key area is a run after the last key.
use Rattle.std.proofs.Common.{arith}
use Rattle.serialize.proofs.Stores.{copied-in-part}
use Rattle.builder_add.proofs.add.append.Goals as goal

pub returns-clause-keys_after : goal.returns-clause-keys_after
returns-clause-keys_after c =
    copied-in-part c.args.keys.now c.args.key.now _ c.args.offset (omega (arith, c.requires.1)) c.copy.ensures.copied
