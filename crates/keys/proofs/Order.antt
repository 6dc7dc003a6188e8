-- Laws of the order of byte strings and of their common prefix.
use Prim.Native.Nat.{ℕ, suc, ◌+◌, ◌≤◌, ◌<◌, min}
use mathlib.Core.Path.{◌≡◌, refl, sym, ap, subst}
use mathlib.Core.Logic.{◌⊎◌, inl, inr, ⊎_elim}
use mathlib.Core.List.{List, [], ◌∷◌, ◌++◌}
use mathlib.Core.Bool.{true, false}
use native.Mathlib.Omega.{arith}
use native.Mathlib.Numerals.{add-one}
use lib.Arith.{lt_of_le-ne}
use lib.Dec.{eqb, ltb}
use lib.ListN.{length, take, drop, get_or}
use lib.Seq.{drop-cons}
use borrow.Author.Tests.{eq-eqb, ne_eqb, eqb-true, eqb-false, lt-ltb, ltb-true, ltb-false}
use borrow.Table.Steps.{cases}
use Rattle.keys.specs.Order.{less, ◌≺◌, ◌≼◌, common_prefix_len}

-- ---- a total order

pub less-irrefl : (a : List ℕ) → less a a ≡ false
unfolding less
less-irrefl [] = refl
less-irrefl (x ∷ xs) = simp (eq-eqb x x refl) (less-irrefl xs)

pub less-trans : (a b c : List ℕ) → a ≺ b → b ≺ c → a ≺ c
unfolding less
less-trans [] [] [] p q = p
less-trans [] [] (z ∷ zs) p q = refl
less-trans [] (y ∷ ys) [] p q = q
less-trans [] (y ∷ ys) (z ∷ zs) p q = refl
less-trans (x ∷ xs) [] [] p q = p
less-trans (x ∷ xs) [] (z ∷ zs) p q = cc
less-trans (x ∷ xs) (y ∷ ys) [] p q = q
less-trans (x ∷ xs) (y ∷ ys) (z ∷ zs) p q =
    cases (eqb x y)
    (λ e. cases (eqb y z)
    (λ f. simp (eq-eqb x z (omega (arith, eqb-true))) (less-trans xs ys zs (simp e at p) (simp f at q)))
    (λ f.
    let l : ltb y z ≡ true = simp f at q in
    simp (ne_eqb x z (omega (arith, eqb-true, ltb-true)), lt-ltb x z (omega (arith, eqb-true, ltb-true)))))
    (λ e.
    let l : ltb x y ≡ true = simp e at p in
    cases (eqb y z)
    (λ f. simp (ne_eqb x z (omega (arith, eqb-true, ltb-true)), lt-ltb x z (omega (arith, eqb-true, ltb-true))))
    (λ f.
    let m : ltb y z ≡ true = simp f at q in
    simp (ne_eqb x z (omega (arith, ltb-true)), lt-ltb x z (omega (arith, ltb-true)))))

pub less-total : (a b : List ℕ) → less a b ≡ false → less b a ≡ false → a ≡ b
unfolding less
less-total [] [] p q = refl
less-total [] (y ∷ ys) p q = cc
less-total (x ∷ xs) [] p q = cc
less-total (x ∷ xs) (y ∷ ys) p q =
    cases (eqb x y)
    (λ e.
    let f : x ≡ y = eqb-true x y e in
    let g : eqb y x ≡ true = eq-eqb y x (sym f) in
    let h : xs ≡ ys = less-total xs ys (simp e at p) (simp g at q) in
    cc)
    (λ e.
    let g : eqb y x ≡ false = ne_eqb y x (λ h. eqb-false x y e (sym h)) in
    let l : ltb x y ≡ false = simp e at p in
    let m : ltb y x ≡ false = simp g at q in
    let f : x ≡ y = omega (arith, ltb-false) in
    absurd (eqb-false x y e f))

pub less-asym : (a b : List ℕ) → a ≺ b → a ≼ b
less-asym a b p =
    cases (less b a)
    (λ e. let q : less a a ≡ true = less-trans a b a p e in cc (less-irrefl a))
    (λ e. e)

-- of two byte strings one is below the other, or they are equal
pub less-trichotomy : (a b : List ℕ) → (a ≺ b) ⊎ ((a ≡ b) ⊎ (b ≺ a))
less-trichotomy a b =
    cases (less a b)
    (λ e. inl e)
    (λ e. cases (less b a) (λ f. inr (inr f)) (λ f. inr (inl (less-total a b e f))))

pub ≼_refl : (a : List ℕ) → a ≼ a
≼_refl a = less-irrefl a

-- what isn't above is below or equal
pub ≼-cases : (a b : List ℕ) → a ≼ b → (a ≺ b) ⊎ (a ≡ b)
≼-cases a b p = cases (less a b) (λ e. inl e) (λ e. inr (less-total a b e p))

pub ≺-≼-trans : (a b c : List ℕ) → a ≺ b → b ≼ c → a ≺ c
≺-≼-trans a b c p q = ⊎_elim (λ h. less-trans a b c p h) (λ h. rw h at p) (≼-cases b c q)

pub ≼-≺-trans : (a b c : List ℕ) → a ≼ b → b ≺ c → a ≺ c
≼-≺-trans a b c p q = ⊎_elim (λ h. less-trans a b c h q) (λ h. rw h q) (≼-cases a b p)

pub ≼_trans : (a b c : List ℕ) → a ≼ b → b ≼ c → a ≼ c
≼_trans a b c p q = ⊎_elim (λ h. less-asym a c (≺-≼-trans a b c h q)) (λ h. rw h q) (≼-cases a b p)

-- ---- the order and prefixes

pub less-append : (p a b : List ℕ) → less (p ++ a) (p ++ b) ≡ less a b
unfolding less
less-append [] a b = refl
less-append (x ∷ p) a b = simp (eq-eqb x x refl) (less-append p a b)

-- "a prefix being smaller": never above, and below where a byte follows
pub prefix-≼ : (a b : List ℕ) → a ≼ (a ++ b)
unfolding less
prefix-≼ [] [] = refl
prefix-≼ [] (y ∷ b) = refl
prefix-≼ (x ∷ a) b = simp (eq-eqb x x refl) (prefix-≼ a b)

pub prefix-≺ : (a : List ℕ) (x : ℕ) (b : List ℕ) → a ≺ (a ++ (x ∷ b))
unfolding less
prefix-≺ [] x b = refl
prefix-≺ (y ∷ a) x b = simp (eq-eqb y y refl) (prefix-≺ a x b)

-- what lies between two byte strings that begin with p begins with p
pub between-prefix : (p a b s : List ℕ) → (p ++ a) ≼ s → s ≼ (p ++ b) → (t : List ℕ) × (s ≡ p ++ t)
unfolding less
between-prefix [] a b s l r = (s, refl)
between-prefix (x ∷ p) a b [] l r = absurd (let z : ◌≡◌ {A = ℕ} 0 1 = cc in omega arith)
between-prefix (x ∷ p) a b (y ∷ s) l r =
    cases (eqb x y)
    (λ e.
    let f : x ≡ y = eqb-true x y e in
    let g : eqb y x ≡ true = eq-eqb y x (sym f) in
    let h : (t : List ℕ) × (s ≡ p ++ t) = between-prefix p a b s (simp g at l) (simp e at r) in
    (h.0, cc h.1))
    (λ e.
    let g : eqb y x ≡ false = ne_eqb y x (λ h. eqb-false x y e (sym h)) in
    let m : ltb y x ≡ false = simp g at l in
    let n : ltb x y ≡ false = simp e at r in
    let f : x ≡ y = omega (arith, ltb-false) in
    absurd (eqb-false x y e f))

-- ---- the common prefix

pub common_prefix_len-left : (a b : List ℕ) → common_prefix_len a b ≤ length a
unfolding common_prefix_len
common_prefix_len-left [] b = omega arith
common_prefix_len-left (x ∷ xs) [] = omega arith
common_prefix_len-left (x ∷ xs) (y ∷ ys) =
    cases (eqb x y)
    (λ e. simp e (omega (arith, common_prefix_len-left xs ys)))
    (λ e. simp e (omega arith))

pub common_prefix_len-right : (a b : List ℕ) → common_prefix_len a b ≤ length b
unfolding common_prefix_len
common_prefix_len-right [] b = omega arith
common_prefix_len-right (x ∷ xs) [] = omega arith
common_prefix_len-right (x ∷ xs) (y ∷ ys) =
    cases (eqb x y)
    (λ e. simp e (omega (arith, common_prefix_len-right xs ys)))
    (λ e. simp e (omega arith))

pub common_prefix_len-take : (a b : List ℕ) → take (common_prefix_len a b) a ≡ take (common_prefix_len a b) b
unfolding common_prefix_len
common_prefix_len-take [] [] = refl
common_prefix_len-take [] (y ∷ ys) = refl
common_prefix_len-take (x ∷ xs) [] = refl
common_prefix_len-take (x ∷ xs) (y ∷ ys) =
    cases (eqb x y)
    (λ e. simp e (let f : x ≡ y = eqb-true x y e in cc (common_prefix_len-take xs ys)))
    (λ e. simp e)

-- behind the common prefix the bytes differ
pub common_prefix_len-differ : (a b : List ℕ) → common_prefix_len a b < length a → common_prefix_len a b < length b →
    get_or a (common_prefix_len a b) 0 ≡ get_or b (common_prefix_len a b) 0 → ⊥
unfolding common_prefix_len
common_prefix_len-differ [] b h k q = omega arith
common_prefix_len-differ (x ∷ xs) [] h k q = omega arith
common_prefix_len-differ (x ∷ xs) (y ∷ ys) h k q =
    cases (eqb x y)
    (λ e.
    let g : suc (common_prefix_len xs ys) < suc (length xs) = simp e at h in
    let j : suc (common_prefix_len xs ys) < suc (length ys) = simp e at k in
    common_prefix_len-differ xs ys (omega arith) (omega arith) (simp e at q))
    (λ e. eqb-false x y e (simp e at q))

-- so the lower one there is below the other
pub common-below : (a b : List ℕ) {n : ℕ} → n ≡ common_prefix_len a b → n < length a → n < length b → get_or a n 0 ≤ get_or b n 0
    → get_or a n 0 < get_or b n 0
common-below a b {n} e ha hb h =
    lt_of_le-ne h (subst (λ (k : ℕ). get_or a k 0 ≡ get_or b k 0 → ⊥) (sym e) (common_prefix_len-differ a b (omega arith) (omega arith)))

-- counted from index i on: one common byte more, or none where the bytes differ
pub common_prefix_len-same : (a b : List ℕ) (i : ℕ) → i < length a → i < length b → get_or a i 0 ≡ get_or b i 0
    → i + common_prefix_len (drop i a) (drop i b) ≡ i + 1 + common_prefix_len (drop (i + 1) a) (drop (i + 1) b)
unfolding common_prefix_len
common_prefix_len-same a b i h k e =
    rw (drop-cons a i 0 h, drop-cons b i 0 k, eq-eqb (get_or a i 0) (get_or b i 0) e, add-one i) (omega arith)

pub common_prefix_len-other : (a b : List ℕ) (i : ℕ) → i < length a → i < length b → (get_or a i 0 ≡ get_or b i 0 → ⊥)
    → i + common_prefix_len (drop i a) (drop i b) ≡ i
unfolding common_prefix_len
common_prefix_len-other a b i h k e =
    rw (drop-cons a i 0 h, drop-cons b i 0 k, ne_eqb (get_or a i 0) (get_or b i 0) e) (omega arith)

-- with itself: all
pub common_prefix_len-same-key : (a : List ℕ) → common_prefix_len a a ≡ length a
unfolding common_prefix_len
common_prefix_len-same-key [] = refl
common_prefix_len-same-key (x ∷ xs) = simp (eq-eqb x x refl) (ap suc (common_prefix_len-same-key xs))

-- what lies between two byte strings has in common with k at least what both have
pub common_prefix_len-between : (a x b k : List ℕ) → a ≼ x → x ≼ b → min (common_prefix_len a k) (common_prefix_len b k) ≤
    common_prefix_len x k
unfolding less common_prefix_len
common_prefix_len-between [] x b k l r = omega arith
common_prefix_len-between (p ∷ a) x b [] l r = omega arith
common_prefix_len-between (p ∷ a) x [] (z ∷ k) l r = omega arith
common_prefix_len-between (p ∷ a) [] (q ∷ b) (z ∷ k) l r = absurd (let z : ◌≡◌ {A = ℕ} 0 1 = cc in omega arith)
common_prefix_len-between (p ∷ a) (y ∷ x) (q ∷ b) (z ∷ k) l r =
    cases (eqb p z)
    (λ e. cases (eqb q z)
    (λ f. cases (eqb y z)
    (λ g.
    let h : eqb y p ≡ true = eq-eqb y p (omega (arith, eqb-true)) in
    let j : eqb q y ≡ true = eq-eqb q y (omega (arith, eqb-true)) in
    let i = common_prefix_len-between a x b k (simp h at l) (simp j at r) in
    simp (e, f, g) (omega arith))
    (λ g.
    let n = eqb-false y z g in
    let h : eqb y p ≡ false = ne_eqb y p (omega (arith, eqb-true)) in
    let j : eqb q y ≡ false = ne_eqb q y (omega (arith, eqb-true)) in
    let m : ltb y p ≡ false = simp h at l in
    let o : ltb q y ≡ false = simp j at r in
    absurd (n (omega (arith, eqb-true, ltb-false)))))
    (λ f. simp f (omega arith)))
    (λ e. simp e (omega arith))

-- nearer to k no fewer are in common, from below and from above
pub common_prefix_len-below : (a x k : List ℕ) → a ≼ x → x ≼ k → common_prefix_len a k ≤ common_prefix_len x k
common_prefix_len-below a x k l r = omega (
  arith,
  common_prefix_len-between a x k k l r,
  common_prefix_len-same-key k,
  common_prefix_len-right a k,
)

pub common_prefix_len-above : (x b k : List ℕ) → k ≼ x → x ≼ b → common_prefix_len b k ≤ common_prefix_len x k
common_prefix_len-above x b k l r = omega (
  arith,
  common_prefix_len-between k x b k l r,
  common_prefix_len-same-key k,
  common_prefix_len-right b k,
)

-- ---- the order, by the common prefix and the bytes behind it

pub less-end-right : (a b : List ℕ) → length b ≤ common_prefix_len a b → less a b ≡ false
unfolding less common_prefix_len
less-end-right [] [] h = refl
less-end-right [] (y ∷ ys) h = absurd (omega arith)
less-end-right (x ∷ xs) [] h = refl
less-end-right (x ∷ xs) (y ∷ ys) h =
    cases (eqb x y)
    (λ e. let g : suc (length ys) ≤ suc (common_prefix_len xs ys) = simp e at h in simp e (less-end-right xs ys (omega arith)))
    (λ e. let g : suc (length ys) ≤ 0 = simp e at h in absurd (omega arith))

-- a byte string that is in common as a whole isn't above
pub ≼-whole : (a b : List ℕ) → length a ≤ common_prefix_len a b → a ≼ b
unfolding less common_prefix_len
≼-whole [] [] h = refl
≼-whole [] (y ∷ ys) h = refl
≼-whole (x ∷ xs) [] h = absurd (omega arith)
≼-whole (x ∷ xs) (y ∷ ys) h =
    cases (eqb x y)
    (λ e.
    let g : suc (length xs) ≤ suc (common_prefix_len xs ys) = simp e at h in
    let f : eqb y x ≡ true = eq-eqb y x (sym (eqb-true x y e)) in
    simp f (≼-whole xs ys (omega arith)))
    (λ e. let g : suc (length xs) ≤ 0 = simp e at h in absurd (omega arith))

pub less-end-left : (a b : List ℕ) → length a ≤ common_prefix_len a b → common_prefix_len a b < length b → less a b ≡ true
unfolding less common_prefix_len
less-end-left [] [] h k = absurd (omega arith)
less-end-left [] (y ∷ ys) h k = refl
less-end-left (x ∷ xs) [] h k = absurd (omega arith)
less-end-left (x ∷ xs) (y ∷ ys) h k =
    cases (eqb x y)
    (λ e.
    let g : suc (length xs) ≤ suc (common_prefix_len xs ys) = simp e at h in
    let j : suc (common_prefix_len xs ys) < suc (length ys) = simp e at k in
    simp e (less-end-left xs ys (omega arith) (omega arith)))
    (λ e. let g : suc (length xs) ≤ 0 = simp e at h in absurd (omega arith))

pub less-at : (a b : List ℕ) → common_prefix_len a b < length a → common_prefix_len a b < length b →
    less a b ≡ ltb (get_or a (common_prefix_len a b) 0) (get_or b (common_prefix_len a b) 0)
unfolding less common_prefix_len
less-at [] b h k = absurd (omega arith)
less-at (x ∷ xs) [] h k = absurd (omega arith)
less-at (x ∷ xs) (y ∷ ys) h k =
    cases (eqb x y)
    (λ e.
    let g : suc (common_prefix_len xs ys) < suc (length xs) = simp e at h in
    let j : suc (common_prefix_len xs ys) < suc (length ys) = simp e at k in
    simp e (less-at xs ys (omega arith) (omega arith)))
    (λ e. simp e)
