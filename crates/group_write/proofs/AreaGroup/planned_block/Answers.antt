-- The numbers that were kept hold each slope and its width, and the rest is the first block's.
use Rattle.group_write.proofs.Plans.{range-small, ordinal-small, record-kept}
use Rattle.group_write.proofs.AreaGroup.planned_block.Goals as goal

pub unpacked-requires : goal.unpacked-requires
unpacked-requires c = range-small c.args.self.now _ _ c.requires

pub unpacked-requires-2 : goal.unpacked-requires-2
unpacked-requires-2 c = ordinal-small c.args.self.now _ _ c.requires

pub returns : goal.returns
returns c = record-kept c.args.self.now _ _ c.requires c.unpacked.ensures c.unpacked-2.ensures c.record.ensures
