-- A listing made block by block: with no block nothing is written, and each block adds its mark.
use mathlib.Core.Path.{◌≡◌, refl, sym, ap, ◌∙◌}
use mathlib.Core.Bool.{Bool, true, false, cond}
use mathlib.Core.List.{List, [], ◌∷◌, ◌++◌}
use mathlib.Core.Logic.{⊎_elim, inl, inr}
use mathlib.Core.Option.{some}
use Prim.Native.Nat.{ℕ, zero, suc, ◌+◌, ◌-◌, ◌≤◌}
use native.Mathlib.Nat.{add-zero, zero-add, add-suc, suc-add, add_assoc}
use native.Mathlib.Omega.{arith}
use lib.Dec.{eqb}
use lib.ListN.{length, set, length-append, get_or-append}
use lib.Seq.{sets, get_or_at}
use Rattle.std.proofs.lemmas.Bool.{cases_eq}
use Rattle.automaton.specs.Bits.{Exactly}
use Rattle.pruning.specs.Interval.{Marked}
use Rattle.listing.specs.Marks.{start_at, Mark, Marks, count_ones}
use Rattle.listing.specs.Listing.{Listing}

-- a block behind the first starts at the separator before it
pub start-behind : (separator : ℕ → List ℕ) (i : ℕ) → 1 ≤ i → start_at separator i ≡ some (separator (i - 1))
start-behind separator zero h = absurd (omega arith)
start-behind separator (suc i) h = let e : suc i - 1 ≡ i = omega arith in rw e

-- ---- the count of ones
pub count_ones-append : (a b : List ℕ) → count_ones (a ++ b) ≡ count_ones a + count_ones b
unfolding count_ones
count_ones-append [] b = sym (zero-add (count_ones b))
count_ones-append (x ∷ a) b = rw (count_ones-append a b, add_assoc (cond (eqb x 1) 1 0) (count_ones a) (count_ones b))

pub one_at_most : (b : Bool) → cond b 1 0 ≤ 1
one_at_most true = omega arith
one_at_most false = omega arith

pub count_ones-le : (ms : List ℕ) → count_ones ms ≤ length ms
unfolding count_ones
count_ones-le [] = omega arith
count_ones-le (x ∷ ms) = omega (arith, one_at_most (eqb x 1), count_ones-le ms)

-- ---- one block more
sets_more : (d ms : List ℕ) (i x : ℕ) → set (sets d i ms) (i + length ms) x ≡ sets d i (ms ++ (x ∷ []))
sets_more d [] i x = rw (add-zero i)
sets_more d (y ∷ ms) i x = rw (add-suc i (length ms), ← (suc-add i (length ms))) (sets_more (set d i y) ms (suc i) x)

module _ (t : List ℕ) (separator : ℕ → List ℕ) where
  pub listing_none : (marks : List ℕ) → Listing t separator 0 marks marks 0
  unfolding count_ones
  listing_none marks = record {
    list = [];
    right = record { long = refl; each = λ i h. absurd (omega arith) };
    counted = refl;
    bytes = refl;
  }

  marks-more : (i x : ℕ) (ms : List ℕ) → Marks t separator i ms → Mark x (Marked t (start_at separator i) (separator i))
      → Marks t separator (i + 1) (ms ++ (x ∷ []))
  marks-more i x ms m p = record {
    long = length-append ms (x ∷ []) ∙ ap (λ (k : ℕ). k + 1) m.long;
    each = λ k h. ⊎_elim
        (λ (e : k ≡ i). rw (e, get_or_at ms x [] 0 i m.long) p)
        (λ d. rw (get_or-append ms (x ∷ []) 0 k (omega (arith, m.long))) (m.each k (omega arith)))
        (cases_eq k i);
  }

  module _ (i count : ℕ) (marks written : List ℕ) (l : Listing t separator i marks written count) where
    listing-more : (x : ℕ) → Mark x (Marked t (start_at separator i) (separator i))
        → Listing t separator (i + 1) marks (set written i x) (count + cond (eqb x 1) 1 0)
    unfolding count_ones
    listing-more x p = record {
      list = l.list ++ (x ∷ []);
      right = marks-more i x l.list l.right p;
      counted = rw (count_ones-append l.list (x ∷ []), l.counted, add-zero (cond (eqb x 1) 1 0));
      bytes = rw (l.bytes, ← (sets_more marks l.list 0 x), zero-add (length l.list), l.right.long);
    }

    listing-one : Marked t (start_at separator i) (separator i) → Listing t separator (i + 1) marks (set written i 1) (count + 1)
    listing-one p = listing-more 1 (inl (refl, p))

    listing-zero : (Marked t (start_at separator i) (separator i) → ⊥) → Listing t separator (i + 1) marks (set written i 0) count
    listing-zero p = rw add-zero at (listing-more 0 (inr (refl, p)))

    -- the mark that the code writes
    pub listing-turn : (b : Bool) (x : ℕ) (after : List ℕ) → Exactly b (Marked t (start_at separator i) (separator i)) → x ≡ cond b 1 0
        → after ≡ set written i (cond b 1 0) → Listing t separator (i + 1) marks after (count + x)
    listing-turn true x after m p q = rw (p, q) (listing-one m)
    listing-turn false x after m p q = rw (p, q, add-zero count) (listing-zero m)

-- ---- what the loop asks of it
module _ {t : List ℕ} {separator : ℕ → List ℕ} {n : ℕ} {marks written : List ℕ} {count : ℕ}
    (l : Listing t separator n marks written count) where
  pub listing-count : count ≤ n
  listing-count = omega (arith, l.counted, count_ones-le l.list, l.right.long)
