-- What is known of a list's element at each place.
use mathlib.Core.Path.{◌≡◌, refl}
use mathlib.Core.List.{List}
use mathlib.Core.Logic.{⊎_elim}
use Prim.Native.Nat.{ℕ, zero, suc, ◌+◌, ◌<◌}
use native.Mathlib.Omega.{arith}
use lib.ListN.{length, get_or, set, replicate}
use lib.Seq.{get_or-set_same, get_or-set_other}
use Rattle.std.proofs.lemmas.Bool.{cases_eq}

-- facts about each element before a place go on to the next place, where one is stored
pub each_next : (P : ℕ → ℕ → Type 0) (l : List ℕ) (i x : ℕ) → i < length l → ((j : ℕ) → j < i → P j (get_or l j 0)) → P i x
    → (j : ℕ) → j < i + 1 → P j (get_or (set l i x) j 0)
each_next P l i x h p q j g =
    ⊎_elim
    (λ (e : j ≡ i). rw (e, get_or-set_same l i x 0 h) q)
    (λ d. rw (get_or-set_other l i j x 0 d) (p j (omega arith)))
    (cases_eq j i)

-- a list of one element alone, read at any place
pub get_or-replicate_same : {X : Type 0} (x : X) (n i : ℕ) → ◌≡◌ {A = X} (get_or (replicate n x) i x) x
get_or-replicate_same x zero i = refl
get_or-replicate_same x (suc n) zero = refl
get_or-replicate_same x (suc n) (suc i) = get_or-replicate_same x n i
