-- A test of eight bytes at once.
use mathlib.Core.Path.{◌≡◌}
use mathlib.Core.Bool.{Bool, true, false, ◌&&◌}
use mathlib.Core.Logic.{⊎_elim}
use Prim.Native.Nat.{ℕ, ◌+◌, ◌<◌}
use native.Mathlib.Omega.{arith}
use lib.Dec.{eqb}
use Rattle.std.proofs.lemmas.Bool.{cases_eq}
use Rattle.automaton.specs.Bits.{Exactly}
use Rattle.automaton.proofs.Exact.{exactly-eqb, exactly-map}

-- one more that equals s
pub all_more : (f : ℕ → ℕ) (s j : ℕ) (all : Bool) → Exactly all ((k : ℕ) → k < j → f k ≡ s)
    → Exactly (all && eqb (f j) s) ((k : ℕ) → k < j + 1 → f k ≡ s)
all_more f s j true p =
    exactly-map (eqb (f j) s)
    (λ e k h. ⊎_elim (λ q. rw q e) (λ d. p k (omega (arith, d))) (cases_eq k j))
    (λ g. g j (omega arith))
    (exactly-eqb (f j) s)
all_more f s j false n = λ g. n (λ k h. g k (omega arith))
