-- Nothing was looked at.
use Rattle.example_walk.proofs.Begin.{none-covered}
use Rattle.example_walk.proofs.Walk.new.Goals as goal

pub returns-clause-covers : goal.returns-clause-covers
returns-clause-covers c = λ t d k few. none-covered t d k c.args.best few
