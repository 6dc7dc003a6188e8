-- Laws of a key's search: keys that rise one by one rise between any two, and there is one first key that isn't below, at most.
use mathlib.Core.Path.{◌≡◌, sym, ◌∙◌}
use mathlib.Core.Bool.{true≢false}
use mathlib.Core.List.{List}
use mathlib.Core.Logic.{⊎_elim}
use Prim.Native.Nat.{ℕ, zero, suc, ◌+◌, ◌≤◌, ◌<◌}
use native.Mathlib.Nat.{eq-or-lt_of_le, le_of_suc-le-suc, lt_of_not-le}
use native.Mathlib.Omega.{arith}
use Rattle.keys.specs.Order.{◌≺◌, ◌≼◌, common_prefix_len}
use Rattle.keys.proofs.Order.{less-trans, less-asym, ≺-≼-trans, common_prefix_len-below, common_prefix_len-above}
use Rattle.directory.specs.Read.{key_of, Sorted, First}

-- ---- keys that rise

module _ (d : List ℕ) (n : ℕ) (sorted : Sorted d n) where
  -- between any two of them
  pub keys-rise : (i j : ℕ) → i < j → j < n → key_of d n i ≺ key_of d n j
  keys-rise i zero h l = absurd (let z : ⊥ = omega arith in z)
  keys-rise i (suc j) h l =
      ⊎_elim
      (λ (e : i ≡ j). rw e (sorted.rises j l))
      (λ (g : i < j). less-trans (key_of d n i) (key_of d n j) (key_of d n (suc j)) (keys-rise i j g (omega arith)) (sorted.rises j l))
      (eq-or-lt_of_le (le_of_suc-le-suc h))

  -- with key m below a key, all up to it are
  pub all-below : (m : ℕ) (key : List ℕ) → m < n → key_of d n m ≺ key → (i : ℕ) → i < m + 1 → key_of d n i ≺ key
  all-below m key l p i h =
      let h' : i ≤ m = omega arith in
      ⊎_elim
      (λ (e : i ≡ m). rw e p)
      (λ (g : i < m). less-trans (key_of d n i) (key_of d n m) key (keys-rise i m g l) p)
      (eq-or-lt_of_le h')

  -- with key m not above a key, all before it are below the key
  pub all-before : (m : ℕ) (key : List ℕ) → m < n → key_of d n m ≼ key → (i : ℕ) → i < m → key_of d n i ≺ key
  all-before m key l p i h = ≺-≼-trans (key_of d n i) (key_of d n m) key (keys-rise i m h l) p

  -- above key m, up to a key, no fewer bytes are in common with the key; below key m, down to the key, as well
  pub shared-below : (m : ℕ) (key : List ℕ) → (i : ℕ) → m + 1 ≤ i → i < n → key_of d n i ≼ key
      → common_prefix_len (key_of d n m) key ≤ common_prefix_len (key_of d n i) key
  shared-below m key i h l r =
      common_prefix_len-below (key_of d n m) (key_of d n i) key (less-asym (key_of d n m) (key_of d n i) (keys-rise m i (omega arith) l)) r

  pub shared-above : (m : ℕ) (key : List ℕ) → m < n → (i : ℕ) → i < m → key ≼ key_of d n i
      → common_prefix_len (key_of d n m) key ≤ common_prefix_len (key_of d n i) key
  shared-above m key l i h r =
      common_prefix_len-above (key_of d n i) (key_of d n m) key r (less-asym (key_of d n i) (key_of d n m) (keys-rise i m h l))

-- ---- the first that isn't below

module _ (f : ℕ → List ℕ) (n : ℕ) (key : List ℕ) where
  first-least : (i j : ℕ) → First f n key i → First f n key j → j ≤ i
  first-least i j a b = le_of_suc-le-suc (lt_of_not-le (λ (h : i < j). true≢false (sym (b.earlier i h) ∙ a.not-below)))

  -- there is one at most
  pub first-unique : (i j : ℕ) → First f n key i → First f n key j → i ≡ j
  first-unique i j a b = omega (arith, first-least i j a b, first-least j i b a)

  -- and no key has one where all are below it
  pub first_or_none : (i : ℕ) → First f n key i → ((j : ℕ) → j < n → f j ≺ key) → ⊥
  first_or_none i a none = true≢false (sym (none i a.inside) ∙ a.not-below)
