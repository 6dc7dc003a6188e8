-- Laws of the first byte string of a set: which of two comes first, behind a prefix too, and that there is one.
use mathlib.Core.Path.{◌≡◌}
use mathlib.Core.List.{List, ◌++◌}
use mathlib.Core.Logic.{inl, inr, ⊎_elim}
use Prim.Native.Nat.{ℕ, ◌≤◌}
use native.Mathlib.Omega.{arith}
use lib.ListN.{length, length-append}
use Rattle.std.proofs.lemmas.Bool.{cases_eq}
use Rattle.keys.specs.Order.{◌≼◌}
use Rattle.keys.proofs.Order.{less-total}
use Rattle.example_leaving.specs.First.{NotAfter, FirstIn}
use Rattle.example_leaving.proofs.Bounds.{≼-behind}

-- ---- the order by length, then by bytes
pub not-after : (w v : List ℕ) → length w ≤ length v → w ≼ v → NotAfter w v
not-after w v l b = ⊎_elim (λ e. inr (e, b)) (λ n. inl (omega arith)) (cases_eq (length w) (length v))

pub not-longer : (w v : List ℕ) → NotAfter w v → length w ≤ length v
not-longer w v = ⊎_elim (λ l. omega arith) (λ e. omega (arith, e.0))

-- a prefix in front of both
pub not-after-behind : (p w v : List ℕ) → NotAfter w v → NotAfter (p ++ w) (p ++ v)
not-after-behind p w v =
    let a = length-append p w in
    let b = length-append p v in
    ⊎_elim (λ l. inl (omega arith)) (λ e. inr (omega (arith, e.0), ≼-behind p w v e.1))

-- neither of two comes after the other
pub not-after-both : (v w : List ℕ) → NotAfter v w → NotAfter w v → v ≡ w
not-after-both v w (inl a) (inl b) = absurd (omega arith)
not-after-both v w (inl a) (inr b) = absurd (omega (arith, b.0))
not-after-both v w (inr a) (inl b) = absurd (omega (arith, a.0))
not-after-both v w (inr a) (inr b) = less-total v w b.1 a.1

-- ---- a set has one first string
pub first-unique : {P : List ℕ → Type 0} (v w : List ℕ) → FirstIn P v → FirstIn P w → v ≡ w
first-unique v w x y = not-after-both v w (x.first w y.is-one) (y.first v x.is-one)

-- the same strings, said in another way
pub first-map : {P : List ℕ → Type 0} (Q : List ℕ → Type 0) {w : List ℕ} → (P w → Q w) → ((v : List ℕ) → Q v → P v) → FirstIn P w
    → FirstIn Q w
first-map Q f g x = record { is-one = f x.is-one; first = λ v q. x.first v (g v q) }
