-- An answer: five numbers.
use Rattle.std.specs.Prelude.{ℕ, List, [], ◌∷◌}
use Rattle.replay_cells.specs.declared.Cells.{Cells}

abbrev pub cells : ℕ → ℕ → ℕ → ℕ → ℕ → List ℕ
cells k a b c d = k ∷ a ∷ b ∷ c ∷ d ∷ []

-- those of the code's answer
abbrev pub cells_of : Cells → List ℕ
cells_of x = x.0
