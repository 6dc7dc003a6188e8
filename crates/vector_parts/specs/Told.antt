-- Answers as a list gives them.
use Rattle.std.specs.Prelude.{ℕ, List, ◌∷◌, replicate, Result, Ok, Err}
use Rattle.layout.specs.declared.refusals.Refusal.{Refusal}
use Rattle.layout.specs.Refusals.{number_of}

-- 0 and the answer's n numbers, or a refusal's number and n zeros
abbrev pub told : ℕ → Result (List ℕ) Refusal → List ℕ
told n (Ok numbers) = 0 ∷ numbers
told n (Err refusal) = number_of refusal ∷ replicate n 0
