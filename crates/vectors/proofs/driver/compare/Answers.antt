-- The closure can be called again in whichever way the turn went.
use Rattle.std.proofs.Common.{rules, sym}
use denote.Param.Always.{mut_next}
use Rattle.vectors.proofs.driver.compare.Goals.{in-Bad, in-Case+in-Some-fitting+in_ok-is_same-in-Some-fitting, in-Case+in-None}
use Rattle.vectors.proofs.driver.compare.Goals as goal

pub loop-line-preserved-in-Some : goal.loop-line-preserved-in-Some
loop-line-preserved-in-Some g c = (
  elim c.match-parse.branch [
    | in-Bad w ↦ search rules
    | in-Case+in-Some-fitting+in_ok-is_same-in-Some-fitting w ↦ mut_next _ _ _ _ _ _ w.same.ensures (sym w.same-is) c.loop-line.invariant.0
    | in-Case+in-None w ↦ search rules
  ],
  search rules,
)

pub loop-line-preserved : goal.loop-line-preserved
loop-line-preserved g c = (
  elim c.match-parse.branch [
    | in-Bad w ↦ search rules
    | in-Case+in-Some-fitting+in_ok-is_same-in-Some-fitting w ↦ mut_next _ _ _ _ _ _ w.same.ensures (sym w.same-is) c.loop-line.invariant.0
    | in-Case+in-None w ↦ search rules
  ],
  search rules,
)
