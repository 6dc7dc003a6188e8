-- A listing is determined by the automaton and the separators of its blocks: its marks, its count, and every byte that it leaves.
use mathlib.Core.Path.{◌≡◌, refl, sym, ap, ◌∙◌}
use mathlib.Core.List.{List}
use mathlib.Core.Logic.{inl, inr}
use mathlib.Core.Option.{some}
use Prim.Native.Nat.{ℕ, zero, suc, ◌<◌}
use native.Mathlib.Omega.{arith}
use lib.Seq.{sets, ext_get_or}
use Rattle.listing.specs.Marks.{start_at, Mark, Marks, count_ones}
use Rattle.listing.specs.Listing.{Listing, ListingLeaves}

-- ---- what a call leaves: nothing changed, or a listing
module _ {t : List ℕ} {separator : ℕ → List ℕ} {n : ℕ} {marks : List ℕ} where
  pub nothing-listed : (k : ℕ) → 0 < k → ListingLeaves t separator n marks marks k 0
  nothing-listed k h = record { taken = λ e. absurd (let z : ⊥ = omega arith in z); refused = λ s. (refl, refl) }

  pub all_listed : {written : List ℕ} {count : ℕ} → Listing t separator n marks written count
      → ListingLeaves t separator n marks written 0 count
  all_listed l = record { taken = λ e. l; refused = λ s. absurd (let z : ⊥ = omega arith in z) }

-- ---- separators that are equal below n
module _ (t : List ℕ) (f g : ℕ → List ℕ) (n : ℕ) (same : (i : ℕ) → i < n → f i ≡ g i) where
  same_start : (i : ℕ) → i < n → start_at f i ≡ start_at g i
  same_start zero h = refl
  same_start (suc i) h = ap some (same i (omega arith))

  pub marks-same : (ms : List ℕ) → Marks t f n ms → Marks t g n ms
  marks-same ms m = record { long = m.long; each = λ i h. rw (same_start i h, same i h) at (m.each i h) }

  pub listing-same : (marks written : List ℕ) (count : ℕ) → Listing t f n marks written count → Listing t g n marks written count
  listing-same marks written count l = record { list = l.list; right = marks-same l.list l.right; counted = l.counted; bytes = l.bytes }

  pub leaves-same : (marks written : List ℕ) (k count : ℕ) → ListingLeaves t f n marks written k count
      → ListingLeaves t g n marks written k count
  leaves-same marks written k count l = record { taken = λ e. listing-same marks written count (l.taken e); refused = l.refused }

-- ---- one listing
mark-once : {P : Type 0} {x y : ℕ} → Mark x P → Mark y P → x ≡ y
mark-once (inl p) (inl q) = p.0 ∙ sym q.0
mark-once (inl p) (inr q) = absurd (q.1 p.1)
mark-once (inr p) (inl q) = absurd (p.1 q.1)
mark-once (inr p) (inr q) = p.0 ∙ sym q.0

module _ {t : List ℕ} {separator : ℕ → List ℕ} {n : ℕ} where
  pub marks-once : {a b : List ℕ} → Marks t separator n a → Marks t separator n b → a ≡ b
  marks-once {a} {b} p q =
      ext_get_or 0 a b (p.long ∙ sym q.long) (λ i h. let l : i < n = omega (arith, p.long) in mark-once (p.each i l) (q.each i l))

  pub listing-once : {marks v w : List ℕ} {c d : ℕ} → Listing t separator n marks v c → Listing t separator n marks w d → (v ≡ w) × (c ≡ d)
  listing-once {marks} p q =
      let e = marks-once p.right q.right in
      (p.bytes ∙ ap (sets marks 0) e ∙ sym q.bytes, p.counted ∙ ap count_ones e ∙ sym q.counted)
