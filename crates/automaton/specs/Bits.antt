-- The bits of a word, and what "exactly when" says of a test.
use Rattle.std.specs.Prelude.{ℕ, zero, suc, ◌/◌, ◌%◌, Bool, true, false}

-- bit s of w, the lowest first
unfoldable pub bit : ℕ → ℕ → ℕ
bit w zero = w % 2
bit w (suc s) = bit (w / 2) s

-- the test is true exactly when P
abbrev pub Exactly : Bool → Type 0 → Type 0
Exactly true P = P
Exactly false P = P → ⊥
