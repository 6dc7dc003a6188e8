-- A test of the first m of something, by a rule for each: true exactly where one of them breaks its rule.
use Prim.Native.Nat.{ℕ, suc, ◌+◌, ◌<◌}
use mathlib.Core.Path.{◌≡◌, refl, sym, ap, ◌∙◌}
use mathlib.Core.Bool.{Bool, true, false, ◌||◌}
use native.Mathlib.Nat.{zero-add}
use native.Mathlib.Numerals.{add-one}
use Rattle.std.specs.Bool.{Decides}
use Rattle.std.specs.List.{HoldsAt, list_any, range_with_len}
use Rattle.std.proofs.Math.Bool.{or_comm}
use Rattle.std.proofs.lemmas.Bool.{false_from_ne_true, both_ways}
use Rattle.std.proofs.lemmas.Bool.Decides.{Decides-below_or, Decides-by_or, Decides-like, same_from_decides}
use Rattle.std.proofs.lemmas.List.FromFn.{length-range_with_len, get_or-range_with_len}

pub record Fronts (bad rule : ℕ → Bool) : Type 0 where
  pub none : bad 0 ≡ false
  pub more : (m : ℕ) → bad (suc m) ≡ (bad m || rule m)

module _ {bad rule : ℕ → Bool} (f : Fronts bad rule) where
  abbrev Hit : ℕ → Type 0
  Hit i = rule i ≡ true

  some-hit : (m : ℕ) → Decides (bad m) ((i : ℕ) × (i < m) × Hit i)
  some-hit = Decides-below_or rule Hit bad (λ i. (λ t. t, λ t. t)) f.none (λ m. f.more m ∙ or_comm (bad m) (rule m))

  pub one-hit : (m i : ℕ) → i < m → rule i ≡ true → bad m ≡ true
  one-hit m i h t = (some-hit m).1 (i, h, t)

  pub each-kept : (m : ℕ) → bad m ≡ false → (i : ℕ) → i < m → rule i ≡ false
  each-kept m e i h = false_from_ne_true (rule i) (λ t. both_ways (bad m) e (one-hit m i h t))

  pub all-kept : (m : ℕ) → ((i : ℕ) → i < m → rule i ≡ false) → bad m ≡ false
  all-kept m h =
      false_from_ne_true (bad m) (λ t.
      let one = (some-hit m).0 t in
      both_ways (rule one.0) (h one.0 one.1) one.2)

  pub one-more : (m : ℕ) → bad m ≡ false → rule m ≡ false → bad (m + 1) ≡ false
  one-more m e t = rw (add-one m, f.more m, e, t)

  -- what `any` says of a range
  pub any-from : (a n : ℕ) (test : ℕ → Bool) → ((i : ℕ) → test (a + i) ≡ rule i) → list_any test (range_with_len a n) ≡ bad n
  any-from a n test same =
      let Holds = HoldsAt (λ (x : ℕ). test x ≡ true) (range_with_len a n) in
      let item : (i : ℕ) → i < n → Holds i → Hit i = λ i h t. sym (same i) ∙ rw (get_or-range_with_len a n i 0 h) at (t 0) in
      let listed : (i : ℕ) → i < n → Hit i → Holds i = λ i h t d. rw (get_or-range_with_len a n i d h) (same i ∙ t) in
      same_from_decides _ _
      (Decides-by_or test (λ x. test x ≡ true) (list_any test) (λ x. (λ t. t, λ t. t)) refl (λ x xs. refl) (range_with_len a n))
      (Decides-like (bad n)
      (λ one. (one.0, rw (length-range_with_len a n) one.1, listed one.0 one.1 one.2))
      (λ one. let h : one.0 < n = rw (length-range_with_len a n) at one.1 in (one.0, h, item one.0 h one.2))
      (some-hit n))

  pub any-told : (n : ℕ) → list_any rule (range_with_len 0 n) ≡ bad n
  any-told n = any-from 0 n rule (λ i. ap rule (zero-add i))
