-- The lowest and the highest of all points are kept by one loop after the other.
use Rattle.std.proofs.Common.{◌∙◌, arith}
use Rattle.slope.specs.Column.{column}
use Rattle.slope.specs.Slope.{best_slope}
use Rattle.slope.proofs.Points.{kept-start, kept-stop}
use Rattle.slope.proofs.Column.best_slope.Goals as goal

pub returns-then-self-eq0 : goal.returns-then-self-eq0
unfolding best_slope column
returns-then-self-eq0 c = rw c.if-self-eq0.true

pub uncut_extremes-requires : goal.uncut_extremes-requires
uncut_extremes-requires c = kept-start _ _ _ _ _ _ _ (omega arith) c.value.ensures c.new-first.ensures

pub returns : goal.returns
returns c = c.between.ensures ∙ kept-stop _ _ _ _ _ _ _ _ c.cut_extremes-all.ensures.1 c.cut_extremes-all.ensures.0
