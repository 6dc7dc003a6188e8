-- A refusal of an add, a shorten or a finish has a number above 0, and a `?` hands its number on.
use Rattle.std.specs.Prelude.{◌≡◌, ℕ, List, Result, Ok, Err, IsErrAnd}
use Rattle.std.proofs.Common.{refl}
use Rattle.std.proofs.lemmas.Result.{err_from_is_err_and}
use Rattle.layout.specs.Refusals.{number_of, no_of}
use Rattle.layout.specs.declared.refusals.Refusal.{Refusal}
use Rattle.layout.proofs.Numbers.{number_positive}
use Rattle.builder.specs.Calls.{AnswerCased, handed_back, called, called_with}
use Rattle.builder.specs.Finish.{FinishedCased}
use Rattle.builder.specs.declared.SSTableIndexBuilder.{SSTableIndexBuilder}
use Rattle.builder.specs.declared.Refused.{Refused}
use Rattle.builder.specs.declared.Written.{Written}

pub answer_cased : (r : Result SSTableIndexBuilder Refused) → AnswerCased r
answer_cased (Ok b) = tt
answer_cased (Err refused) = number_positive refused.refusal

pub finished_cased : (r : Result Written Refused) → FinishedCased r
finished_cased (Ok written) = tt
finished_cased (Err refused) = number_positive refused.refusal

-- the number that a `?` hands on
pub passed-number : {A : Type 0} (r : Result A Refusal) (e : Refusal) → IsErrAnd r (λ y. y ≡ e) → no_of r ≡ number_of e
passed-number r e h = let p = err_from_is_err_and r h in rw (p.1, p.2)

-- what a call leaves that a `?` ends
pub passed-on : (b : SSTableIndexBuilder) (r : Result SSTableIndexBuilder Refusal) (e : Refusal) (B K : List ℕ) → IsErrAnd r (λ y. y ≡ e)
    → called (handed_back b r) B K ≡ called_with (number_of e) b B K
passed-on b r e B K h = let p = err_from_is_err_and r h in rw (p.1, p.2) refl
