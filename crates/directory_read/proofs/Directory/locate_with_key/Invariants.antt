-- What the search knows of its bounds.
use Rattle.std.proofs.Common.{◌-◌}
use Rattle.directory.proofs.Search.{Around}
use Rattle.directory_read.proofs.Directory.locate_with_key.Given as goal

abbrev pub invariant-loop-left : goal.invariant-loop-left
invariant-loop-left l = Around l.self.bytes.now l.self.n l.key l.left l.right l.left_shared l.right_shared

abbrev pub decreases-loop-left : goal.decreases-loop-left
decreases-loop-left l = l.right - l.left
