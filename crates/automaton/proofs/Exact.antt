-- Tests: what one that is true exactly when P tells of P.
use mathlib.Core.Path.{◌≡◌, refl, subst}
use mathlib.Core.Bool.{Bool, true, false, not}
use Prim.Native.Nat.{ℕ, ◌<◌}
use native.Mathlib.Omega.{arith}
use lib.Dec.{eqb, ltb}
use borrow.Author.Tests.{eqb-true, eqb-false, ltb-true, ltb-false}
use Rattle.automaton.specs.Bits.{Exactly}

pub exactly-eqb : (a b : ℕ) → Exactly (eqb a b) (a ≡ b)
exactly-eqb a b = go (eqb a b) refl
  where
    go : (r : Bool) → eqb a b ≡ r → Exactly r (a ≡ b)
    go true e = eqb-true a b e
    go false e = eqb-false a b e

pub exactly-ltb : (a b : ℕ) → Exactly (ltb a b) (a < b)
exactly-ltb a b = go (ltb a b) refl
  where
    go : (r : Bool) → ltb a b ≡ r → Exactly r (a < b)
    go true e = ltb-true a b e
    go false e = λ h. omega (arith, ltb-false a b e)

pub when_true : {P : Type 0} {r : Bool} → Exactly r P → r ≡ true → P
when_true {P} x e = subst (λ (b : Bool). Exactly b P) e x

pub when_false : {P : Type 0} {r : Bool} → Exactly r P → r ≡ false → P → ⊥
when_false {P} x e = subst (λ (b : Bool). Exactly b P) e x

pub exactly-map : {P Q : Type 0} (r : Bool) → (P → Q) → (Q → P) → Exactly r P → Exactly r Q
exactly-map true f g p = f p
exactly-map false f g n = λ q. n (g q)

-- a test that is turned round
pub exactly-not : {P Q : Type 0} (r : Bool) → Exactly r P → ((P → ⊥) → Q) → (Q → P → ⊥) → Exactly (not r) Q
exactly-not true p f g = λ q. g q p
exactly-not false n f g = f n
