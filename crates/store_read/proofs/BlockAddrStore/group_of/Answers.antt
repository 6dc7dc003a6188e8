-- The part of the address bytes is all of them from the offset on.
use Rattle.std.proofs.Common.{refl}
use Rattle.std.proofs.lemmas.List.{take_rest}
use Rattle.store_read.proofs.BlockAddrStore.group_of.Goals as goal

pub invariant_of-result : goal.invariant_of-result
invariant_of-result c = record { readable = rw (take_rest c.args.self.now.addrs.now c.args.meta.offset) c.requires.1 }

pub returns : goal.returns
returns c = (refl, take_rest c.args.self.now.addrs.now c.args.meta.offset)
