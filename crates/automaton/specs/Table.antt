-- The automaton's table (SPECIFICATION 3.6): its number of states, a flag for each, a row of next states for each; and rows 21 to 23.
use Rattle.std.specs.Prelude.{ℕ, ◌+◌, ◌*◌, ◌≤◌, ◌<◌, ◌≡◌, List, [], ◌∷◌, Bool, false, not, ◌||◌, cond, eqb, ltb, leb}
use Rattle.std.specs.Prelude.{length, get_or, take, drop}

-- m
abbrev pub states : List ℕ → ℕ
states t = get_or t 0 0

-- the accept flag of state s
abbrev pub flag : List ℕ → ℕ → ℕ
flag t s = get_or t (1 + s) 0

-- the next state of s with the byte b
abbrev pub next : List ℕ → ℕ → ℕ → ℕ
next t s b = get_or t (1 + states t + s * 256 + b) 0

-- some element is at or above the bound
unfoldable pub any_from : ℕ → List ℕ → Bool
any_from bound [] = false
any_from bound (x ∷ xs) = leb bound x || any_from bound xs

-- rows 21 (the number of states, the length), 22 (the flags) and 23 (the next states), SPECIFICATION 13.21 to 13.23; 0 where none is hit
unfoldable pub table_no : List ℕ → ℕ
table_no t =
    cond (ltb (states t) 1 || (ltb 64 (states t) || not (eqb (length t) (1 + 257 * states t)))) 21
    (cond (any_from 2 (take (states t) (drop 1 t))) 22
    (cond (any_from (states t) (drop (1 + states t) t)) 23 0))

-- a table that hits none of them, in numbers
pub record WellFormed (t : List ℕ) : Type 0 where
  pub some : 1 ≤ states t
  pub few : states t ≤ 64
  pub long : length t ≡ 1 + 257 * states t
  pub flags : (s : ℕ) → s < states t → flag t s ≤ 1
  pub closed : (s b : ℕ) → s < states t → b < 256 → next t s b < states t
