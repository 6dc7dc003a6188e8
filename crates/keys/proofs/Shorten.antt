-- Laws of the shortened separator: it lies between left and right, and differs from left in at most one byte and the length.
use Prim.Native.Nat.{ℕ, zero, suc, ◌+◌, ◌-◌, ◌^◌, ◌≤◌, ◌<◌}
use mathlib.Core.Path.{◌≡◌, refl, sym, ap, ◌∙◌}
use mathlib.Core.Logic.{◌⊎◌, inl, inr, ⊎_elim}
use mathlib.Core.List.{List, [], ◌∷◌, ◌++◌, append_assoc}
use native.Mathlib.Nat.{zero-add}
use native.Mathlib.Omega.{arith}
use lib.Dec.{eqb}
use lib.ListN.{length, take, drop, get_or, set, length-append, length-take, length-drop, take-append-drop}
use lib.Seq.{take-length, length-take-le, get_or-drop, take-add, set_split, sets, sets-eq}
use borrow.Author.Tests.{eq-eqb, ne_eqb, eqb-true, eqb-false, le-ltb}
use borrow.Table.Steps.{cases}
use Rattle.keys.specs.Order.{less, ◌≺◌, ◌≼◌, common_prefix_len}
use Rattle.keys.specs.Shorten.{raise, shorten}

-- what is left behind a place
pub length_rest : (s : List ℕ) (n : ℕ) → length (take (length s - n) (drop n s)) ≡ length s - n
length_rest s n = length-take-le (length s - n) (drop n s) (omega (arith, length-drop n s))

-- ---- which byte is raised (document 01, "Shortening")

raise-all-ff : (s : List ℕ) → ((i : ℕ) → i < length s → get_or s i 0 ≡ 255) → raise s ≡ s
unfolding raise
raise-all-ff [] h = refl
raise-all-ff (x ∷ xs) h =
    rw (h 0 (omega arith)) (ap (λ (r : List ℕ). 255 ∷ r) (raise-all-ff xs (λ i l. h (suc i) (omega arith))))

raise-at : (s : List ℕ) (p : ℕ) → p < length s → ((i : ℕ) → i < p → get_or s i 0 ≡ 255) → (get_or s p 0 ≡ 255 → ⊥) →
    raise s ≡ take p s ++ ((get_or s p 0 + 1) ∷ [])
unfolding raise
raise-at [] p l h n = absurd (omega arith)
raise-at (x ∷ xs) zero l h n = simp (ne_eqb x 255 n)
raise-at (x ∷ xs) (suc p) l h n =
    simp (eq-eqb x 255 (h 0 (omega arith)))
    (ap (λ (r : List ℕ). x ∷ r) (raise-at xs p (omega arith) (λ i k. h (suc i) (omega arith)) n))

-- "if there is none, unchanged": every byte behind the first differing one is FF
pub shorten-all-ff : (left right : List ℕ) → ((i : ℕ) → common_prefix_len left right < i → i < length left → get_or left i 0 ≡ 255) →
    shorten left right ≡ left
unfolding shorten common_prefix_len
shorten-all-ff [] right h = refl
shorten-all-ff (x ∷ xs) [] h =
    ap (λ (r : List ℕ). x ∷ r) (raise-all-ff xs (λ i l. h (suc i) (omega arith) (omega arith)))
shorten-all-ff (x ∷ xs) (y ∷ ys) h =
    cases (eqb x y)
    (λ e.
    let k = simp e at h in
    simp e (ap (λ (r : List ℕ). x ∷ r) (shorten-all-ff xs ys (λ i m l. k (suc i) (omega arith) (omega arith)))))
    (λ e.
    let k = simp e at h in
    simp e (ap (λ (r : List ℕ). x ∷ r) (raise-all-ff xs (λ i l. k (suc i) (omega arith) (omega arith)))))

-- "if left is the prefix, unchanged"
pub shorten-prefix : (left right : List ℕ) → common_prefix_len left right ≡ length left → shorten left right ≡ left
shorten-prefix left right e = shorten-all-ff left right (λ i h l. absurd (omega arith))

-- "the first byte of left from there on that isn't FF grows by one and the rest is dropped": it stands at p
pub shorten-at : (left right : List ℕ) (p : ℕ) → common_prefix_len left right < p → p < length left
    → ((i : ℕ) → common_prefix_len left right < i → i < p → get_or left i 0 ≡ 255) → (get_or left p 0 ≡ 255 → ⊥)
    → shorten left right ≡ take p left ++ ((get_or left p 0 + 1) ∷ [])
unfolding shorten common_prefix_len
shorten-at [] right p m l h n = absurd (omega arith)
shorten-at (x ∷ xs) right zero m l h n = absurd (omega arith)
shorten-at (x ∷ xs) [] (suc p) m l h n =
    ap (λ (r : List ℕ). x ∷ r) (raise-at xs p (omega arith) (λ i k. h (suc i) (omega arith) (omega arith)) n)
shorten-at (x ∷ xs) (y ∷ ys) (suc p) m l h n =
    cases (eqb x y)
    (λ e.
    let g : suc (common_prefix_len xs ys) < suc p = simp e at m in
    let k = simp e at h in
    simp e (ap (λ (r : List ℕ). x ∷ r) (shorten-at xs ys p (omega arith) (omega arith) (λ i a b. k (suc i) (omega arith) (omega arith)) n)))
    (λ e.
    let k = simp e at h in
    simp e (ap (λ (r : List ℕ). x ∷ r) (raise-at xs p (omega arith) (λ i b. k (suc i) (omega arith) (omega arith)) n)))

-- the byte of left at `place`, the first behind the first differing one that isn't FF, is raised
pub record Raised (left right : List ℕ) : Type 0 where
  pub place : ℕ
  pub behind : common_prefix_len left right < place
  pub within : place < length left
  pub passed : (i : ℕ) → common_prefix_len left right < i → i < place → get_or left i 0 ≡ 255
  pub not-ff : get_or left place 0 ≡ 255 → ⊥
  pub result : shorten left right ≡ take place left ++ ((get_or left place 0 + 1) ∷ [])

cons-ff : (x : ℕ) (xs : List ℕ) (n : ℕ) → x ≡ 255 → ((i : ℕ) → i < n → get_or xs i 0 ≡ 255) → (i : ℕ) → i < suc n →
    get_or (x ∷ xs) i 0 ≡ 255
cons-ff x xs n e h zero l = e
cons-ff x xs n e h (suc i) l = h i (omega arith)

-- the bytes of s are all FF, or one is the first that isn't
first-below-ff : (s : List ℕ) → ((i : ℕ) → i < length s → get_or s i 0 ≡ 255)
    ⊎ ((p : ℕ) × (p < length s) × ((i : ℕ) → i < p → get_or s i 0 ≡ 255) × (get_or s p 0 ≡ 255 → ⊥))
first-below-ff [] = inl (λ i l. absurd (omega arith))
first-below-ff (x ∷ xs) =
    cases (eqb x 255)
    (λ e. ⊎_elim
    (λ h. inl (cons-ff x xs (length xs) (eqb-true x 255 e) h))
    (λ f. inr (suc f.0, omega arith, cons-ff x xs f.0 (eqb-true x 255 e) f.2, f.3))
    (first-below-ff xs))
    (λ e. inr (0, omega arith, (λ i l. absurd (omega arith)), eqb-false x 255 e))

get_or-from : (n : ℕ) (l : List ℕ) (i : ℕ) → n ≤ i → get_or l i 0 ≡ get_or (drop n l) (i - n) 0
get_or-from n l i h = rw get_or-drop (ap (λ (m : ℕ). get_or l m 0) (omega arith))

-- at most one byte changes: left is unchanged, or one of its bytes is raised and the rest dropped
pub shorten-one-byte : (left right : List ℕ) → (shorten left right ≡ left) ⊎ Raised left right
shorten-one-byte left right =
    let n : ℕ = common_prefix_len left right + 1 in
    let w : length (drop n left) ≡ length left - n = length-drop n left in
    ⊎_elim
    (λ h. inl (shorten-all-ff left right (λ i m l. get_or-from n left i (omega arith) ∙ h (i - n) (omega arith))))
    (λ f.
    let b : common_prefix_len left right < n + f.0 = omega arith in
    let t : n + f.0 < length left = omega arith in
    let u : (i : ℕ) → common_prefix_len left right < i → i < n + f.0 → get_or left i 0 ≡ 255 = λ i m l.
    get_or-from n left i (omega arith) ∙ f.2 (i - n) (omega arith) in
    let v : get_or left (n + f.0) 0 ≡ 255 → ⊥ = λ e. f.3 (get_or-drop n left f.0 0 ∙ e) in
    inr record { place = n + f.0; behind = b; within = t; passed = u; not-ff = v; result = shorten-at left right (n + f.0) b t u v })
    (first-below-ff (drop n left))

-- ---- between left and right

raise-not-below : (s : List ℕ) → s ≼ raise s
unfolding less raise
raise-not-below [] = refl
raise-not-below (x ∷ xs) =
    cases (eqb x 255)
    (λ e. simp (e, eq-eqb x x refl) (raise-not-below xs))
    (λ e. simp (e, ne_eqb (x + 1) x (omega arith), le-ltb (x + 1) x (omega arith)))

-- the shortened left isn't below left
pub shorten-not-below : (left right : List ℕ) → left ≼ shorten left right
unfolding less shorten
shorten-not-below [] right = refl
shorten-not-below (x ∷ xs) [] = simp (eq-eqb x x refl) (raise-not-below xs)
shorten-not-below (x ∷ xs) (y ∷ ys) =
    cases (eqb x y)
    (λ e. simp (e, eq-eqb x x refl) (shorten-not-below xs ys))
    (λ e. simp (e, eq-eqb x x refl) (raise-not-below xs))

-- it is below right if left is
pub shorten-less : (left right : List ℕ) → left ≺ right → shorten left right ≺ right
unfolding less shorten
shorten-less [] [] p = p
shorten-less [] (y ∷ ys) p = p
shorten-less (x ∷ xs) [] p = p
shorten-less (x ∷ xs) (y ∷ ys) p =
    cases (eqb x y)
    (λ e. simp e (shorten-less xs ys (simp e at p)))
    (λ e. simp e (simp e at p))

raise-length : (s : List ℕ) → length (raise s) ≤ length s
unfolding raise
raise-length [] = omega arith
raise-length (x ∷ xs) =
    cases (eqb x 255)
    (λ e. simp e (omega (arith, raise-length xs)))
    (λ e. simp e (omega arith))

-- it isn't longer than left
pub shorten-length : (left right : List ℕ) → length (shorten left right) ≤ length left
unfolding shorten
shorten-length [] right = omega arith
shorten-length (x ∷ xs) [] = omega (arith, raise-length xs)
shorten-length (x ∷ xs) (y ∷ ys) =
    cases (eqb x y)
    (λ e. simp e (omega (arith, shorten-length xs ys)))
    (λ e. simp e (omega (arith, raise-length xs)))

-- ---- bytes stay bytes

raise-bytes : (s : List ℕ) → ((i : ℕ) → get_or s i 0 < 2 ^ 8) → (i : ℕ) → get_or (raise s) i 0 < 2 ^ 8
unfolding raise
raise-bytes [] h i = h i
raise-bytes (x ∷ xs) h zero =
    cases (eqb x 255) (λ e. simp e (h 0)) (λ e. simp e (omega (arith, h 0, eqb-false x 255 e)))
raise-bytes (x ∷ xs) h (suc i) =
    cases (eqb x 255) (λ e. simp e (raise-bytes xs (λ j. h (suc j)) i)) (λ e. simp e (omega arith))

pub shorten-bytes : (left right : List ℕ) → ((i : ℕ) → get_or left i 0 < 2 ^ 8) → (i : ℕ) → get_or (shorten left right) i 0 < 2 ^ 8
unfolding shorten
shorten-bytes [] right h i = h i
shorten-bytes (x ∷ xs) [] h zero = h 0
shorten-bytes (x ∷ xs) [] h (suc i) = raise-bytes xs (λ j. h (suc j)) i
shorten-bytes (x ∷ xs) (y ∷ ys) h zero = cases (eqb x y) (λ e. simp e (h 0)) (λ e. simp e (h 0))
shorten-bytes (x ∷ xs) (y ∷ ys) h (suc i) =
    cases (eqb x y)
    (λ e. simp e (shorten-bytes xs ys (λ j. h (suc j)) i))
    (λ e. simp e (raise-bytes xs (λ j. h (suc j)) i))

-- ---- in place, where left stands in the key area K

-- bytes stored where they stand change nothing
pub sets-part : (K : List ℕ) (at len : ℕ) → at + len ≤ length K → sets K at (take len (drop at K)) ≡ K
sets-part K at len h =
    let w : length (take len (drop at K)) ≡ len = simp (length-take, length-drop) (omega arith) in
    sets-eq (take len (drop at K)) K at (omega arith) ∙ rw (w, ← (take-add at len K)) (take-append-drop (at + len) K)

-- with another byte behind them, only that byte changes
pub sets-part-one : (K : List ℕ) (at p v : ℕ) → at + p < length K → sets K at (take p (drop at K) ++ (v ∷ [])) ≡ set K (at + p) v
sets-part-one K at p v h =
    let w : at + length (take p (drop at K) ++ (v ∷ [])) ≡ suc (at + p) = simp (length-append, length-take, length-drop) (omega arith) in
    sets-eq (take p (drop at K) ++ (v ∷ [])) K at (omega arith)
    ∙ rw (w, set_split K (at + p) v h, take-add at p K) (simp append_assoc)

-- a key K shortened in place: its new length n, and what stands there
abbrev pub Shortened : List ℕ → List ℕ → ℕ → List ℕ → Type 0
Shortened K right n E = (n ≡ length (shorten K right)) × (E ≡ sets K 0 (shorten K right))

pub shortened-unchanged : (K right : List ℕ) → shorten K right ≡ K → Shortened K right (length K) K
shortened-unchanged K right e =
    let whole : sets K 0 K ≡ K = rw (take-length K) at (sets-part K 0 (length K) (omega arith)) in
    rw e (refl, sym whole)

pub shortened-raised : (K right : List ℕ) (p : ℕ) → common_prefix_len K right < p → p < length K
    → ((i : ℕ) → common_prefix_len K right < i → i < p → get_or K i 0 ≡ 255) → (get_or K p 0 ≡ 255 → ⊥)
    → Shortened K right (p + 1) (set K p (get_or K p 0 + 1))
shortened-raised K right p m l h f =
    let one : sets K 0 (take p K ++ ((get_or K p 0 + 1) ∷ [])) ≡ set K p (get_or K p 0 + 1) =
    rw (zero-add p) at (sets-part-one K 0 p (get_or K p 0 + 1) (omega arith)) in
    rw (shorten-at K right p m l h f) (simp (length-append, length-take) (omega arith), sym one)
