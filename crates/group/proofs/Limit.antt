-- All that proofs use of the limit.
use Prim.Native.Nat.{◌^◌, ◌≤◌}
use lib.Dec.{lit≤}
use Rattle.group.specs.Legal.{limit}

pub limit-low : 2 ^ 40 ≤ limit
unfolding limit
limit-low = lit≤ tt

pub limit-high : limit ≤ 2 ^ 55
unfolding limit
limit-high = lit≤ tt
