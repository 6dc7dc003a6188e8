-- The accepted strings of an interval by their first byte: a byte of a range, or a key's byte and a string from the next state.
use mathlib.Core.Path.{◌≡◌, sym, subst, subst₂, ◌∙◌}
use mathlib.Core.List.{List, [], ◌∷◌, ◌++◌}
use mathlib.Core.Bool.{false, false≢true}
use mathlib.Core.Option.{none, some}
use mathlib.Core.Logic.Iff
use mathlib.Core.Logic.{◌⊎◌, inl, inr, ⊎_elim, ◌↔◌}
use Prim.Native.Nat.{ℕ, ◌+◌, ◌-◌, ◌≤◌, ◌<◌, zero-le}
use native.Mathlib.Omega.{arith}
use lib.Dec.{eqb, ltb}
use lib.ListN.{length, take, drop, get_or, take-append-drop, drop_of_length-le, length-drop}
use borrow.Author.Tests.{eqb-true, eqb-false, ne_eqb, lt-ltb, ltb-true, ltb-false, le-ltb}
use borrow.Table.Steps.{cases}
use Rattle.keys.specs.Order.{less, ◌≺◌, ◌≼◌, common_prefix_len}
use Rattle.keys.proofs.Order.{less-asym, less-append, prefix-≼, prefix-≺}
use Rattle.keys.proofs.Order.{≺-≼-trans, common_prefix_len-take, less-end-right, less-at}
use Rattle.automaton.specs.Table.{flag, next}
use Rattle.automaton.specs.Words.{Bytes, run, Hits, Accepts}
use Rattle.automaton.specs.Live.{LiveByte}
use Rattle.std.proofs.lemmas.List.{take_rest, drop_more}
use Rattle.automaton.proofs.Strings.{word-nil, word-cons, word-map, word-cases, byte_word, can-match-hits, bytes_take}
use Rattle.pruning.specs.Interval.{start_of, AboveStart, Marked, MatchAbove, MatchBetween}

-- ---- the order, by first bytes
pub ≺-lower : (x y : ℕ) (a b : List ℕ) → x < y → (x ∷ a) ≺ (y ∷ b)
unfolding less
≺-lower x y a b h = simp (ne_eqb x y (omega arith), lt-ltb x y h)

pub ≼-lower : (x y : ℕ) (a b : List ℕ) → x < y → (x ∷ a) ≼ (y ∷ b)
≼-lower x y a b h = less-asym (x ∷ a) (y ∷ b) (≺-lower x y a b h)

pub ≺-same : (x : ℕ) (a b : List ℕ) → a ≺ b → (x ∷ a) ≺ (x ∷ b)
≺-same x a b h = less-append (x ∷ []) a b ∙ h

pub ≼-same : (x : ℕ) (a b : List ℕ) → a ≼ b → (x ∷ a) ≼ (x ∷ b)
≼-same x a b h = less-append (x ∷ []) b a ∙ h

pub ≺-heads : (x y : ℕ) (a b : List ℕ) → (x ∷ a) ≺ (y ∷ b) → (x < y) ⊎ ((x ≡ y) × (a ≺ b))
unfolding less
≺-heads x y a b p = cases (eqb x y) (λ e. inr (eqb-true x y e, simp e at p)) (λ e. inl (ltb-true x y (simp e at p)))

pub ≼-heads : (x y : ℕ) (a b : List ℕ) → (x ∷ a) ≼ (y ∷ b) → (x < y) ⊎ ((x ≡ y) × (a ≼ b))
unfolding less
≼-heads x y a b p =
    cases (eqb y x)
    (λ e. inr (sym (eqb-true y x e), simp e at p))
    (λ e. let l : ltb y x ≡ false = simp e at p in inl (omega (arith, ltb-false, eqb-false y x e)))

-- the empty string is the lowest
pub not-≺-nil : (a : List ℕ) → a ≺ [] → ⊥
not-≺-nil a h = false≢true (sym (prefix-≼ [] a) ∙ h)

pub not-cons-≼-nil : (x : ℕ) (a : List ℕ) → (x ∷ a) ≼ [] → ⊥
not-cons-≼-nil x a h = false≢true (sym h ∙ prefix-≺ [] x a)

-- what is left of two, where the first isn't
pub past : {P Q R : Type 0} → P ↔ (Q ⊎ R) → (Q → ⊥) → P ↔ R
past i n = (λ p. ⊎_elim (λ q. absurd (n q)) (λ r. r) (i.0 p), λ r. i.1 (inr r))

-- the string w after the byte b, where b is k
from : {t w : List ℕ} (s : ℕ) (P : List ℕ → Type 0) (b k : ℕ) → b ≡ k → Hits t (next t s b) w → P w → Accepts t (next t s k) P
from {t} {w} s P b k e h p = subst (λ (x : ℕ). Accepts t (next t s x) P) e (record { string = w; hits = h; good = p })

-- ---- above a key
pub after-nil : (t : List ℕ) (s : ℕ) → MatchAbove t s [] ↔ LiveByte t s 0 256
after-nil t s = (
  word-cases (λ w. [] ≺ w) (LiveByte t s 0 256)
      (λ e p. absurd (not-≺-nil [] p))
      (λ b w h i p. record { byte = b; low = zero-le; high = h; rest = can-match-hits i }),
  byte_word (λ w. [] ≺ w) (omega arith) (λ b w l h. prefix-≺ [] b w),
)

pub after-cons : (t : List ℕ) (s k : ℕ) (ks : List ℕ) → k < 256
    → MatchAbove t s (k ∷ ks) ↔ (LiveByte t s (k + 1) 256 ⊎ MatchAbove t (next t s k) ks)
after-cons t s k ks hk = (
  word-cases (λ w. (k ∷ ks) ≺ w) (LiveByte t s (k + 1) 256 ⊎ MatchAbove t (next t s k) ks)
      (λ e p. absurd (not-≺-nil (k ∷ ks) p))
      (λ b w h i p. ⊎_elim
      (λ l. inl (record { byte = b; low = omega arith; high = h; rest = can-match-hits i }))
      (λ q. inr (from s (λ v. ks ≺ v) b k (sym q.0) i q.1))
      (≺-heads k b ks w p)),
  ⊎_elim
      (byte_word (λ w. (k ∷ ks) ≺ w) (omega arith) (λ b w l h. ≺-lower k b ks w (omega arith)))
      (word-cons s k (λ w. (k ∷ ks) ≺ w) (λ w. ks ≺ w) hk (≺-same k ks)),
)

-- ---- not above a key: the empty string, or one of (empty, key]
pub upto-split : (t : List ℕ) (s : ℕ) (b : List ℕ) → Accepts t s (λ w. w ≼ b) ↔ ((flag t s ≡ 1) ⊎ MatchBetween t s [] b)
upto-split t s b = (
  word-cases (λ w. w ≼ b) ((flag t s ≡ 1) ⊎ MatchBetween t s [] b)
      (λ e p. inl e)
      (λ c w h i p. inr (word-cons s c (λ v. ([] ≺ v) × (v ≼ b)) (λ v. (c ∷ v) ≼ b) h (λ v l. (prefix-≺ [] c v, l))
      (record { string = w; hits = i; good = p }))),
  ⊎_elim
      (λ e. word-nil (λ w. w ≼ b) e (prefix-≼ [] b))
      (word-map (λ w. ([] ≺ w) × (w ≼ b)) (λ w. w ≼ b) (λ w p. p.1)),
)

-- ---- not empty and not above a key
pub upto-nil : (t : List ℕ) (s : ℕ) → MatchBetween t s [] [] → ⊥
upto-nil t s = word-cases (λ w. ([] ≺ w) × (w ≼ [])) ⊥ (λ e p. not-≺-nil [] p.0) (λ b w h i p. not-cons-≼-nil b w p.1)

pub upto-cons : (t : List ℕ) (s k : ℕ) (ks : List ℕ) → k < 256
    → MatchBetween t s [] (k ∷ ks) ↔ (LiveByte t s 0 k ⊎ ((flag t (next t s k) ≡ 1) ⊎ MatchBetween t (next t s k) [] ks))
upto-cons t s k ks hk = (
  word-cases (λ w. ([] ≺ w) × (w ≼ (k ∷ ks))) (LiveByte t s 0 k ⊎ ((flag t (next t s k) ≡ 1) ⊎ MatchBetween t (next t s k) [] ks))
      (λ e p. absurd (not-≺-nil [] p.0))
      (λ b w h i p. ⊎_elim
      (λ l. inl (record { byte = b; low = zero-le; high = l; rest = can-match-hits i }))
      (λ q. inr ((upto-split t (next t s k) ks).0 (from s (λ v. v ≼ ks) b k q.0 i q.1)))
      (≼-heads b k w ks p.1)),
  ⊎_elim
      (byte_word (λ w. ([] ≺ w) × (w ≼ (k ∷ ks))) (omega arith) (λ b w l h. (prefix-≺ [] b w, ≼-lower b k w ks h)))
      (λ m. word-cons s k (λ w. ([] ≺ w) × (w ≼ (k ∷ ks))) (λ w. w ≼ ks) hk (λ w l. (prefix-≺ [] k w, ≼-same k w ks l))
      ((upto-split t (next t s k) ks).1 m)),
)

-- ---- between two keys
-- none where the start isn't below the end
pub between_none : (t : List ℕ) (s : ℕ) (a b : List ℕ) → b ≼ a → MatchBetween t s a b → ⊥
between_none t s a b h m = false≢true (sym h ∙ ≺-≼-trans a m.string b m.good.0 m.good.1)

-- equal first bytes
pub between-same : (t : List ℕ) (s x : ℕ) (a b : List ℕ) → x < 256 → MatchBetween t s (x ∷ a) (x ∷ b) ↔ MatchBetween t (next t s x) a b
between-same t s x a b hx = (
  word-cases (λ w. ((x ∷ a) ≺ w) × (w ≼ (x ∷ b))) (MatchBetween t (next t s x) a b)
      (λ e p. absurd (not-≺-nil (x ∷ a) p.0))
      (λ c w h i p. both c w i (≺-heads x c a w p.0) (≼-heads c x w b p.1)),
  word-cons s x (λ w. ((x ∷ a) ≺ w) × (w ≼ (x ∷ b))) (λ w. (a ≺ w) × (w ≼ b)) hx (λ w p. (≺-same x a w p.0, ≼-same x w b p.1)),
)
  where
    both : (c : ℕ) (w : List ℕ) → Hits t (next t s c) w → (x < c) ⊎ ((x ≡ c) × (a ≺ w)) → (c < x) ⊎ ((c ≡ x) × (w ≼ b))
        → MatchBetween t (next t s x) a b
    both c w i (inl l) (inl g) = absurd (omega arith)
    both c w i (inl l) (inr g) = absurd (omega (arith, g.0))
    both c w i (inr l) (inl g) = absurd (omega (arith, l.0))
    both c w i (inr l) (inr g) = from s (λ v. (a ≺ v) × (v ≼ b)) c x g.0 i (l.1, g.1)

-- the start's first byte below the end's
abbrev pub Parted : List ℕ → (s x y : ℕ) (a b : List ℕ) → Type 0
Parted t s x y a b = MatchAbove t (next t s x) a ⊎ (LiveByte t s (x + 1) y ⊎ ((flag t (next t s y) ≡ 1) ⊎ MatchBetween t (next t s y) [] b))

pub between_lower : (t : List ℕ) (s x y : ℕ) (a b : List ℕ) → x < y → y < 256 → MatchBetween t s (x ∷ a) (y ∷ b) ↔ Parted t s x y a b
between_lower t s x y a b l hy = (
  word-cases In (Parted t s x y a b)
      (λ e p. absurd (not-≺-nil (x ∷ a) p.0))
      (λ c w h i p. both c w i (≺-heads x c a w p.0) (≼-heads c y w b p.1)),
  ⊎_elim
      (word-cons s x In (λ w. a ≺ w) (omega arith) (λ w p. (≺-same x a w p, ≼-lower x y w b l)))
      (⊎_elim
      (byte_word In (omega arith) (λ c w lo hi. (≺-lower x c a w (omega arith), ≼-lower c y w b hi)))
      (λ m. word-cons s y In (λ w. w ≼ b) hy (λ w p. (≺-lower x y a w l, ≼-same y w b p)) ((upto-split t (next t s y) b).1 m))),
)
  where
    In : List ℕ → Type 0
    In w = ((x ∷ a) ≺ w) × (w ≼ (y ∷ b))

    both : (c : ℕ) (w : List ℕ) → Hits t (next t s c) w → (x < c) ⊎ ((x ≡ c) × (a ≺ w)) → (c < y) ⊎ ((c ≡ y) × (w ≼ b)) → Parted t s x y a b
    both c w i (inl lo) (inl hi) = inr (inl (record { byte = c; low = omega arith; high = hi; rest = can-match-hits i }))
    both c w i (inl lo) (inr q) = inr (inr ((upto-split t (next t s y) b).0 (from s (λ v. v ≼ b) c y q.0 i q.1)))
    both c w i (inr q) hi = inl (from s (λ v. a ≺ v) c x (sym q.0) i q.1)

-- the same by the bytes of two keys
pub between-heads : (t : List ℕ) (s : ℕ) (a b : List ℕ) → 0 < length a → 0 < length b → get_or a 0 0 < get_or b 0 0 → get_or b 0 0 < 256
    → MatchBetween t s a b ↔ Parted t s (get_or a 0 0) (get_or b 0 0) (drop 1 a) (drop 1 b)
between-heads t s [] b ha hb l h = absurd (omega arith)
between-heads t s (x ∷ a) [] ha hb l h = absurd (omega arith)
between-heads t s (x ∷ a) (y ∷ b) ha hb l h = between_lower t s x y a b l h

-- the run over a common prefix
pub between-prefix : (t : List ℕ) (s : ℕ) (p a b : List ℕ) → Bytes p → MatchBetween t s (p ++ a) (p ++ b) ↔ MatchBetween t (run t s p) a b
unfolding run
between-prefix t s [] a b h = Iff.rfl
between-prefix t s (x ∷ p) a b h =
    Iff.trans (between-same t s x (p ++ a) (p ++ b) h.0) (between-prefix t (next t s x) p a b h.1)

-- an absent start lets every string in, the empty one too
pub absent-start : (key w : List ℕ) → AboveStart (start_of false key) w
absent-start key w = tt

-- ---- the interval of a block
pub marked-none : (t end : List ℕ) → Marked t none end ↔ ((flag t 0 ≡ 1) ⊎ MatchBetween t 0 [] end)
marked-none t end =
    let i = upto-split t 0 end in (
      λ m. i.0 (word-map (λ w. Unit {0} × (w ≼ end)) (λ w. w ≼ end) (λ w p. p.1) m),
      λ m. word-map (λ w. w ≼ end) (λ w. Unit {0} × (w ≼ end)) (λ w p. (tt, p)) (i.1 m),
    )

pub marked-some : (t a end : List ℕ) → Marked t (some a) end ↔ MatchBetween t 0 a end
marked-some t a end = Iff.rfl

-- ---- a key from its byte i on
pub after-end : (t : List ℕ) (s : ℕ) (key : List ℕ) (i : ℕ) → length key ≤ i → MatchAbove t s (drop i key) ↔ LiveByte t s 0 256
after-end t s key i h = rw (drop_of_length-le key h) (after-nil t s)

pub upto-end : (t : List ℕ) (s : ℕ) (key : List ℕ) (i : ℕ) → length key ≤ i → MatchBetween t s [] (drop i key) → ⊥
upto-end t s key i h = rw (drop_of_length-le key h) (upto-nil t s)

-- the code's part of a key from byte n on, which isn't its end
module _ (key : List ℕ) (n : ℕ) (h : n < length key) where
  pub part-some : 0 < length (take (length key - n) (drop n key))
  part-some = rw (take_rest key n) (simp length-drop (omega arith))

  pub part-first : get_or (take (length key - n) (drop n key)) 0 0 ≡ get_or key n 0
  part-first = rw (take_rest key n, drop_more key n 0 h)

-- ---- two keys that share n bytes
pub shared-run : (t : List ℕ) (s : ℕ) (a b : List ℕ) (n : ℕ) → take n a ≡ take n b → Bytes a → {base : ℕ} → base ≡ run t s (take n a)
    → MatchBetween t s a b ↔ MatchBetween t base (drop n a) (drop n b)
shared-run t s a b n same bytes r =
    let i = between-prefix t s (take n a) (drop n a) (drop n b) (bytes_take n a bytes) in
    rw r (subst₂ (λ (x y : List ℕ). MatchBetween t s x y ↔ MatchBetween t (run t s (take n a)) (drop n a) (drop n b))
    (take-append-drop n a) (rw same (take-append-drop n b)) i)

-- ---- two keys, by the length n of their common prefix
module _ (t : List ℕ) (s : ℕ) (a b : List ℕ) {n : ℕ} (e : n ≡ common_prefix_len a b) where
  pub common-none : length b ≤ n → MatchBetween t s a b → ⊥
  common-none h = between_none t s a b (less-end-right a b (omega arith))

  pub common-above : n < length a → n < length b → get_or b n 0 < get_or a n 0 → MatchBetween t s a b → ⊥
  common-above ha hb h =
      between_none t s a b (less-at a b (omega arith) (omega arith) ∙ rw (sym e) (le-ltb (get_or a n 0) (get_or b n 0) (omega arith)))

  module _ (bytes : Bytes a) {base : ℕ} (r : base ≡ run t s (take n a)) where
    pub common-run : MatchBetween t s a b ↔ MatchBetween t base (drop n a) (drop n b)
    common-run = shared-run t s a b n (rw e (common_prefix_len-take a b)) bytes r

    -- the start is the prefix
    pub common-end : length a ≤ n → MatchBetween t s a b ↔ MatchBetween t base [] (drop n b)
    common-end h = rw (drop_of_length-le a h) at common-run
