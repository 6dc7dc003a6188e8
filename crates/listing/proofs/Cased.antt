-- A refusal has a number above 0.
use Rattle.std.specs.Prelude.{ℕ, Result, Ok, Err}
use Rattle.layout.specs.declared.refusals.Refusal.{Refusal}
use Rattle.layout.proofs.Numbers.{number_positive}
use Rattle.listing.specs.Listing.{ListedCased}

pub listed_cased : (answer : Result ℕ Refusal) → ListedCased answer
listed_cased (Ok count) = tt
listed_cased (Err refusal) = number_positive refusal
