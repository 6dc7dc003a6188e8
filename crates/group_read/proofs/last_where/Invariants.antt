-- `holds` at left, which is 0 or was asked, and not at right, which was asked or is the end.
use Rattle.std.proofs.Common.{◌-◌, ◌≤◌, ◌<◌, true, false}
use Rattle.group_read.proofs.last_where.Given as goal

abbrev pub invariant-loop-left : goal.invariant-loop-left
invariant-loop-left g l =
    record {
      order : l.left < l.right;
      end : l.right ≤ l.end;
      low : 0 < l.left → goal.F-post g l.holds l.left true;
      high : l.right < l.end → goal.F-post g l.holds l.right false;
    }

abbrev pub decreases-loop-left : goal.decreases-loop-left
decreases-loop-left g l = l.right - l.left
