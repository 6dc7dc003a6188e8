-- A group's fields in turn, range and ordinal, taken apart.
use Rattle.std.specs.Prelude.{ℕ, List, [], ◌∷◌}

-- fields 0, 2, 4 ..
unfoldable pub ranges : List ℕ → List ℕ
ranges [] = []
ranges (x ∷ []) = x ∷ []
ranges (x ∷ (y ∷ fs)) = x ∷ ranges fs

-- fields 1, 3, 5 ..
unfoldable pub ordinals : List ℕ → List ℕ
ordinals [] = []
ordinals (x ∷ fs) = ranges fs
