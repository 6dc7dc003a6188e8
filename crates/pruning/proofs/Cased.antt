-- A refusal has a number above 0.
use Rattle.std.specs.Prelude.{Bool, Result, Ok, Err}
use Rattle.layout.specs.declared.refusals.Refusal.{Refusal}
use Rattle.layout.proofs.Numbers.{number_positive}
use Rattle.pruning.specs.Answers.{MatchedCased}

pub matched_cased : (answer : Result Bool Refusal) → MatchedCased answer
matched_cased (Ok matches) = tt
matched_cased (Err refusal) = number_positive refusal
