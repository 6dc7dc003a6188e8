-- The shortened separator, `find_shorter_str_in_between` (document 01, "Shortening").
use Rattle.std.specs.Prelude.{ℕ, ◌+◌, List, [], ◌∷◌, cond, eqb}

-- FFs are passed over; the byte after them is raised, and nothing after it stays. All FF stays as it is
unfoldable pub raise : List ℕ → List ℕ
raise [] = []
raise (x ∷ xs) = cond (eqb x 255) (x ∷ raise xs) ((x + 1) ∷ [])

-- the shared front stays; the byte that differs stays too, and what comes after it is raised
unfoldable pub shorten : List ℕ → List ℕ → List ℕ
shorten [] right = []
shorten (x ∷ xs) [] = x ∷ raise xs
shorten (x ∷ xs) (y ∷ ys) = cond (eqb x y) (x ∷ shorten xs ys) (x ∷ raise xs)
