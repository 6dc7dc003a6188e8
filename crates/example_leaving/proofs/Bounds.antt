-- The order around a prefix: what stands next to it, the strings that leave it with a byte of a range, and those between two that
-- begin with it.
use mathlib.Core.Path.{◌≡◌, refl, ◌∙◌, subst}
use mathlib.Core.List.{List, [], ◌∷◌, ◌++◌}
use mathlib.Core.Logic.{◌⊎◌, inl, inr, ⊎_elim}
use Prim.Native.Nat.{ℕ, ◌+◌, ◌≤◌, ◌<◌}
use native.Mathlib.Omega.{arith}
use lib.Arith.{lt_of_le-ne}
use Rattle.std.proofs.lemmas.Bool.{cases_eq}
use Rattle.keys.specs.Order.{◌≺◌, ◌≼◌}
use Rattle.keys.proofs.Order.{less-append, prefix-≼, prefix-≺}
use Rattle.automaton.specs.Words.{Bytes}
use Rattle.pruning.proofs.Intervals.{≺-lower, ≼-lower, ≺-same, ≼-same, ≺-heads, ≼-heads, not-≺-nil, not-cons-≼-nil}

-- ---- behind a common prefix
pub ≺-behind : (p a b : List ℕ) → a ≺ b → (p ++ a) ≺ (p ++ b)
≺-behind p a b h = less-append p a b ∙ h

pub ≼-behind : (p a b : List ℕ) → a ≼ b → (p ++ a) ≼ (p ++ b)
≼-behind p a b h = less-append p b a ∙ h

-- by their first bytes
pub ≼-byte : (x y : ℕ) (b : List ℕ) → x ≤ y → (x ∷ []) ≼ (y ∷ b)
≼-byte x y b h =
    ⊎_elim
    (λ e. subst (λ (z : ℕ). (x ∷ []) ≼ (z ∷ b)) e (≼-same x [] b (prefix-≼ [] b)))
    (λ n. ≼-lower x y [] b (lt_of_le-ne h n))
    (cases_eq x y)

-- ---- the next string after p is p and a 0
pub next-string : (p w : List ℕ) → p ≺ w → (p ++ (0 ∷ [])) ≼ w
next-string [] [] h = absurd (not-≺-nil [] h)
next-string [] (b ∷ w) h = ≼-byte 0 b w (omega arith)
next-string (x ∷ p) [] h = absurd (not-≺-nil (x ∷ p) h)
next-string (x ∷ p) (b ∷ w) h =
    ⊎_elim
    (λ l. ≼-lower x b (p ++ (0 ∷ [])) w l)
    (λ q. subst (λ (z : ℕ). (x ∷ (p ++ (0 ∷ []))) ≼ (z ∷ w)) q.0 (≼-same x (p ++ (0 ∷ [])) w (next-string p w q.1)))
    (≺-heads x b p w h)

-- ---- a byte string below p and the byte x + 1 is below p, x and what is no byte
pub below-256 : (w : List ℕ) → Bytes w → w ≺ (256 ∷ [])
below-256 [] h = prefix-≺ [] 256 []
below-256 (b ∷ w) h = ≺-lower b 256 w [] h.0

pub next-byte : (p : List ℕ) (x : ℕ) (w : List ℕ) → Bytes w → w ≺ (p ++ ((x + 1) ∷ [])) → w ≺ (p ++ (x ∷ (256 ∷ [])))
next-byte [] x [] bs h = prefix-≺ [] x (256 ∷ [])
next-byte [] x (b ∷ w) bs h =
    ⊎_elim
    (λ l. ⊎_elim
    (λ e. subst (λ (z : ℕ). (b ∷ w) ≺ (z ∷ (256 ∷ []))) e (≺-same b w (256 ∷ []) (below-256 w bs.1)))
    (λ n. ≺-lower b x w (256 ∷ []) (lt_of_le-ne (omega arith) n))
    (cases_eq b x))
    (λ q. absurd (not-≺-nil w q.1))
    (≺-heads b (x + 1) w [] h)
next-byte (y ∷ p) x [] bs h = prefix-≺ [] y (p ++ (x ∷ (256 ∷ [])))
next-byte (y ∷ p) x (b ∷ w) bs h =
    ⊎_elim
    (λ l. ≺-lower b y w (p ++ (x ∷ (256 ∷ []))) l)
    (λ q. subst (λ (z : ℕ). (b ∷ w) ≺ (z ∷ (p ++ (x ∷ (256 ∷ []))))) q.0 (≺-same b w (p ++ (x ∷ (256 ∷ []))) (next-byte p x w bs.1 q.1)))
    (≺-heads b y w (p ++ ((x + 1) ∷ [])) h)

-- ---- strings that leave p with a byte from lo on and below hi
pub leaving : (p v : List ℕ) (b lo hi : ℕ) → lo ≤ b → b < hi → ((p ++ (lo ∷ [])) ≼ (p ++ (b ∷ v))) × ((p ++ (b ∷ v)) ≺ (p ++ (hi ∷ [])))
leaving p v b lo hi l h = (≼-behind p (lo ∷ []) (b ∷ v) (≼-byte lo b v l), ≺-behind p (b ∷ v) (hi ∷ []) (≺-lower b hi v [] h))

-- ---- a string between two that begin with p begins with p
pub record BeginsWith (p a b v : List ℕ) : Type 0 where
  pub rest : List ℕ
  pub whole : v ≡ p ++ rest
  pub from-a : a ≼ rest
  pub below-b : rest ≺ b

-- neither first byte is below the other
meet : {A B : Type 0} (x b : ℕ) → (x < b) ⊎ ((x ≡ b) × A) → (b < x) ⊎ ((b ≡ x) × B) → (x ≡ b) × A × B
meet x b (inl g) (inl k) = absurd (omega arith)
meet x b (inl g) (inr k) = absurd (omega (arith, k.0))
meet x b (inr g) (inl k) = absurd (omega (arith, g.0))
meet x b (inr g) (inr k) = (g.0, g.1, k.1)

pub begins-with : (p a b v : List ℕ) → (p ++ a) ≼ v → v ≺ (p ++ b) → BeginsWith p a b v
begins-with [] a b v l u = record { rest = v; whole = refl; from-a = l; below-b = u }
begins-with (x ∷ p) a b [] l u = absurd (not-cons-≼-nil x (p ++ a) l)
begins-with (x ∷ p) a b (y ∷ v) l u =
    let (e, l', u') = meet x y (≼-heads x y (p ++ a) v l) (≺-heads y x v (p ++ b) u) in
    let w = begins-with p a b v l' u' in
    record { rest = w.rest; whole = cc (e, w.whole); from-a = w.from-a; below-b = w.below-b }
