-- Behind no byte stands the start state.
use Rattle.std.proofs.Common.{refl, zero-le}
use Rattle.listing_follow.proofs.Following.{followed-none}
use Rattle.listing_follow.proofs.Trail.new.Goals as goal

pub returns : goal.returns
returns c = λ t key. record { followed = followed-none t key _ refl refl; few = zero-le; within = zero-le }
