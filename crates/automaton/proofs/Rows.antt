-- A state's row of next states.
use mathlib.Core.Path.{◌≡◌, sym, ◌∙◌, subst}
use mathlib.Core.List.{List}
use mathlib.Core.Logic.{⊎_elim}
use Prim.Native.Nat.{ℕ, ◌<◌}
use lib.Dec.{lit<}
use Rattle.std.proofs.lemmas.List.{get_or_past}
use Rattle.std.proofs.lemmas.Bool.{cases_lt}
use native.Mathlib.Omega.{arith}
use lib.ListN.{length, get_or}
use Rattle.serialize.specs.Digits.{DigitsBelow}
use Rattle.automaton.specs.Bits.{bit}
use Rattle.automaton.specs.Table.{WellFormed, states, next}
use Rattle.automaton.proofs.Built.{Holds}

-- what `row` says of the bytes that it gives
module _ (t : List ℕ) (s : ℕ) (row : List ℕ) (is : (b : ℕ) → b < 256 → get_or row b 0 ≡ next t s b) where
  pub row-below : WellFormed t → s < states t → (b : ℕ) → b < 256 → get_or row b 0 < 64
  row-below w h b l = omega (arith, is b l, w.closed s b h l, w.few)

  -- each state that is in it is a next state
  pub row-only : (q : ℕ) → ((b : ℕ) × (b < 256) × (get_or row b 0 ≡ q)) → (b : ℕ) × (b < 256) × (next t s b ≡ q)
  row-only q (b, l, g) = (b, l, sym (is b l) ∙ g)

  -- the word of its next states
  pub row-holds : {w : ℕ} → ((b : ℕ) → b < 256 → bit w (get_or row b 0) ≡ 1)
      → ((q : ℕ) → bit w q ≡ 1 → (b : ℕ) × (b < 256) × (get_or row b 0 ≡ q)) → Holds (next t s) 256 w
  row-holds {w} f g = record {
    has = λ b l. subst (λ (x : ℕ). bit w x ≡ 1) (is b l) (f b l);
    only = λ q e. row-only q (g q e);
  }

  -- its bytes are bytes
  pub row-small : WellFormed t → s < states t → length row ≡ 256 → DigitsBelow 8 row
  row-small w h long i =
      ⊎_elim (λ l. omega (arith, row-below w h i l)) (λ l. rw (get_or_past row i 0 (omega arith)) (lit< tt)) (cases_lt i 256)
