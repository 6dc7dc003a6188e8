-- Steps along exact distances, each to a state one nearer.
use mathlib.Core.Path.{◌≡◌}
use mathlib.Core.List.{List, [], ◌∷◌}
use Prim.Native.Nat.{ℕ, ◌+◌, ◌≤◌, ◌<◌}
use native.Mathlib.Omega.{arith}
use lib.ListN.{length, get_or}
use Rattle.automaton.specs.Table.{WellFormed, states, flag, next}
use Rattle.automaton.proofs.Strings.{hits-nil, hits-cons, word-cases}
use Rattle.example_distance.specs.Distance.{Distances}

module _ {t d : List ℕ} (x : Distances t d) where
  -- a state at distance 0 accepts, and no other does
  pub at_zero : (s : ℕ) → s < states t → get_or d s 0 ≡ 0 → flag t s ≡ 1
  at_zero s hs e =
      word-cases (λ w. length w ≡ get_or d s 0) (flag t s ≡ 1)
      (λ f p. f)
      (λ b w h i p. absurd (omega (arith, p)))
      (x.near s hs (omega arith))

  pub zero-at : (s : ℕ) → s < states t → flag t s ≡ 1 → get_or d s 0 ≡ 0
  zero-at s hs f = omega (arith, x.least s [] hs (hits-nil f))

  -- a byte leads to a nearer state
  pub some-nearer : (s : ℕ) → WellFormed t → s < states t → 0 < get_or d s 0 → get_or d s 0 < 64
      → (b : ℕ) × (b < 256) × (get_or d (next t s b) 0 < get_or d s 0)
  some-nearer s wf hs pos small =
      word-cases (λ w. length w ≡ get_or d s 0) ((b : ℕ) × (b < 256) × (get_or d (next t s b) 0 < get_or d s 0))
      (λ f p. absurd (omega (arith, p)))
      (λ b w h i p. (b, h, omega (arith, p, x.least (next t s b) w (wf.closed s b hs h) i)))
      (x.near s hs small)

  -- no byte leads more than one nearer
  pub at_most-one : (s b : ℕ) → WellFormed t → s < states t → b < 256 → get_or d (next t s b) 0 < 64
      → get_or d s 0 ≤ get_or d (next t s b) 0 + 1
  at_most-one s b wf hs hb near =
      let m = x.near (next t s b) (wf.closed s b hs hb) near in
      omega (arith, m.good, x.least s (b ∷ m.string) hs (hits-cons s b hb m.hits))

  -- and a nearer state is one nearer
  pub one-nearer : (s b : ℕ) → WellFormed t → s < states t → b < 256 → get_or d s 0 < 64 → get_or d (next t s b) 0 < get_or d s 0
      → get_or d (next t s b) 0 + 1 ≡ get_or d s 0
  one-nearer s b wf hs hb small less = omega (arith, at_most-one s b wf hs hb (omega arith))
