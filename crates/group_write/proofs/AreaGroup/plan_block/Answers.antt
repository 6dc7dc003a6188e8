-- The two columns keep their rule, and with their slopes and widths the record is the group's.
use Rattle.group_write.proofs.Plans.{ends-ok, ordinals-ok, record-planned}
use Rattle.group_write.proofs.AreaGroup.plan_block.Goals as goal

pub invariant_of-ends : goal.invariant_of-ends
invariant_of-ends c = record { ok = ends-ok c.args.self.now c.block-first.ensures }

pub invariant_of-ordinals : goal.invariant_of-ordinals
invariant_of-ordinals c = record { ok = ordinals-ok c.args.self.now c.block-first.ensures }

pub returns : goal.returns
returns c =
    record-planned c.args.self.now c.block-first.ensures c.find_best_slope.ensures c.find_best_slope-2.ensures c.record.ensures
