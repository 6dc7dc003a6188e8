-- The order of byte strings, which are lists of numbers, and their common prefix.
use Rattle.std.specs.Prelude.{ℕ, suc, ◌≡◌, List, [], ◌∷◌, Bool, true, false, cond, eqb, ltb}

-- the order of byte strings (SPECIFICATION 1.3): the first byte that differs decides, and a front is below the whole
unfoldable pub less : List ℕ → List ℕ → Bool
less [] [] = false
less [] (y ∷ ys) = true
less (x ∷ xs) [] = false
less (x ∷ xs) (y ∷ ys) = cond (eqb x y) (less xs ys) (ltb x y)

infix 50 ◌≺◌
infix 50 ◌≼◌
-- a is below b
abbrev pub ◌≺◌ : List ℕ → List ℕ → Type 0
a ≺ b = less a b ≡ true

-- a isn't above b
abbrev pub ◌≼◌ : List ℕ → List ℕ → Type 0
a ≼ b = less b a ≡ false

-- how many bytes two byte strings have in common at the front
unfoldable pub common_prefix_len : List ℕ → List ℕ → ℕ
common_prefix_len [] r = 0
common_prefix_len (x ∷ xs) [] = 0
common_prefix_len (x ∷ xs) (y ∷ ys) = cond (eqb x y) (suc (common_prefix_len xs ys)) 0
