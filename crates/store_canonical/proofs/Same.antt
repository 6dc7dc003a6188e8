-- The test whether two lists are equal is true exactly of equal lists.
use Prim.Native.Nat.{ℕ}
use mathlib.Core.Path.{◌≡◌, refl}
use mathlib.Core.Bool.{true, false, not-eq-not}
use mathlib.Core.List.{List, [], ◌∷◌}
use native.Mathlib.Omega.{arith}
use borrow.Author.Tests.{eqb-true, eq-eqb}
use lib.Dec.{eqb}
use Rattle.std.proofs.lemmas.Bool.{and_parts}
use Rattle.store_canonical.specs.Same.{same_bytes}

pub same_self : (a : List ℕ) → same_bytes a a ≡ true
unfolding same_bytes
same_self [] = refl
same_self (x ∷ a) = simp (eq-eqb x x refl) (same_self a)

pub same_true : (a b : List ℕ) → a ≡ b → same_bytes a b ≡ true
same_true a b e = rw (← e) (same_self a)

pub same-equal : (a b : List ℕ) → same_bytes a b ≡ true → a ≡ b
unfolding same_bytes
same-equal [] [] e = refl
same-equal [] (y ∷ b) e = absurd (let z : ◌≡◌ {A = ℕ} 0 1 = cc in omega arith)
same-equal (x ∷ a) [] e = absurd (let z : ◌≡◌ {A = ℕ} 0 1 = cc in omega arith)
same-equal (x ∷ a) (y ∷ b) e =
    let t = and_parts (eqb x y) (same_bytes a b) e in
    let head = eqb-true x y t.0 in
    let tail = same-equal a b t.1 in
    cc

pub same_differs : (a b : List ℕ) → same_bytes a b ≡ false → a ≡ b → ⊥
same_differs a b e same = let t = same_true a b same in let z : ◌≡◌ {A = ℕ} 0 1 = cc in omega arith

pub differs-same : (a b : List ℕ) → (a ≡ b → ⊥) → same_bytes a b ≡ false
differs-same a b differs = (not-eq-not {a = same_bytes a b} {b = false}).0 (λ t. differs (same-equal a b t))
