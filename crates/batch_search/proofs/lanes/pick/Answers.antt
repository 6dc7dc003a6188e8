-- No bits of what differs leave the first word, all of them give the second.
use Rattle.batch_search.proofs.Picked.{picked}
use Rattle.batch_search.proofs.lanes.pick.Goals as goal

pub returns : goal.returns
returns c = picked c.args.which c.args.first c.args.second c.requires c.ranges.first.fits c.ranges.second.fits
