-- The states along a key: one byte more, and what the next key keeps of them.
use mathlib.Core.Path.{◌≡◌, sym, ap, ◌∙◌}
use mathlib.Core.List.{List, [], ◌∷◌}
use mathlib.Core.Logic.{⊎_elim}
use Prim.Native.Nat.{ℕ, zero, suc, ◌+◌, ◌≤◌, ◌<◌, zero-le, suc-le-suc}
use native.Mathlib.Nat.{le_refl, add-zero}
use native.Mathlib.Omega.{arith}
use lib.Dec.{eqb}
use lib.ListN.{length, take, get_or, set, length-set, replicate}
use lib.Seq.{get_or-set_same, get_or-set_other, sets}
use mathlib.Core.Bool.{true, false≢true}
use Rattle.std.specs.List.{starts_with}
use Rattle.std.proofs.lemmas.Bool.{cases_eq}
use borrow.Table.Steps.{cases}
use Rattle.keys.specs.Order.{common_prefix_len}
use Rattle.keys.proofs.Order.{common_prefix_len-right}
use Rattle.keys.proofs.Words.{common_prefix_len-front}
use Rattle.automaton.specs.Bits.{bit}
use Rattle.automaton.specs.Table.{WellFormed, states, next}
use Rattle.automaton.specs.Words.{Bytes, run, Reach}
use Rattle.automaton.proofs.Strings.{run_more, run-states, bytes_take, word-any}
use Rattle.pruning.specs.Interval.{MatchBetween}
use Rattle.pruning.proofs.Intervals.{shared-run}
use Rattle.listing_follow.specs.declared.Trail.{Trail}
use Rattle.listing_follow.specs.Followed.{Followed, IsTrail}

module _ (t : List ℕ) where
  pub followed-none : (key kept : List ℕ) → length kept ≡ 1025 → get_or kept 0 0 ≡ 0 → Followed t key kept 0
  unfolding run
  followed-none key kept l e = record { long = l; each = λ j h. let z : j ≡ 0 = omega arith in rw (z, e) }

  module _ (key kept : List ℕ) where
    pub followed-less : (known fewer : ℕ) → Followed t key kept known → fewer ≤ known → Followed t key kept fewer
    followed-less known fewer f h = record { long = f.long; each = λ j g. f.each j (omega arith) }

    pub followed-more : (i v : ℕ) → Followed t key kept i → i < 1024 → v ≡ run t 0 (take (i + 1) key)
        → Followed t key (set kept (i + 1) v) (i + 1)
    followed-more i v f h e = record {
      long = simp length-set f.long;
      each = λ j l. ⊎_elim
          (λ (q : j ≡ i + 1). rw (q, get_or-set_same kept (i + 1) v 0 (omega (arith, f.long))) e)
          (λ d. get_or-set_other kept (i + 1) j v 0 d ∙ f.each j (omega arith))
          (cases_eq j (i + 1));
    }

    pub followed-state : (known j : ℕ) → Followed t key kept known → WellFormed t → Bytes key → j ≤ known → get_or kept j 0 < states t
    followed-state known j f w b h = rw (f.each j h) (run-states w 0 (take j key) (omega (arith, w.some)) (bytes_take j key b))

  -- n bytes more that lead back to the state
  pub followed-stay : (key kept : List ℕ) (n i v : ℕ) → Followed t key kept i → i + n ≤ 1024 → i + n ≤ length key
      → v ≡ run t 0 (take i key) → ((j : ℕ) → j < n → next t v (get_or key (i + j) 0) ≡ v)
      → Followed t key (sets kept (i + 1) (replicate n v)) (i + n) × (v ≡ run t 0 (take (i + n) key))
  followed-stay key kept zero i v f h l e s = rw (add-zero i) (f, e)
  followed-stay key kept (suc n) i v f h l e s =
      let r : v ≡ run t 0 (take (i + 1) key) =
      sym (rw (add-zero i) at (s 0 (omega arith))) ∙ ap (λ (x : ℕ). next t x (get_or key i 0)) e ∙ sym (run_more t 0 key i (omega arith)) in
      let p : i + 1 + 1 ≡ suc (i + 1) = omega arith in
      let q : i + 1 + n ≡ i + suc n = omega arith in
      rw (p, q) at (followed-stay key (set kept (i + 1) v) n (i + 1) v (followed-more key kept i v f (omega arith) r) (omega arith)
      (omega arith) r
      (λ j g. let z : i + 1 + j ≡ i + suc j = omega arith in rw z (s (suc j) (omega arith))))

-- ---- what two keys share
-- all of the first n bytes of the one
pub front-common : (n : ℕ) (a b : List ℕ) → n ≤ length a → starts_with eqb b (take n a) ≡ true → n ≤ common_prefix_len a b
unfolding common_prefix_len
front-common zero a b h e = zero-le
front-common (suc n) [] b h e = absurd (omega arith)
front-common (suc n) (x ∷ a) [] h e = absurd (false≢true e)
front-common (suc n) (x ∷ a) (y ∷ b) h e =
    cases (eqb x y)
    (λ q. simp q (suc-le-suc (front-common n a b (omega arith) (simp q at e))))
    (λ q. absurd (false≢true (simp q at e)))

pub followed-next : (t a b kept : List ℕ) (known : ℕ) → Followed t a kept known → known ≤ common_prefix_len a b → Followed t b kept known
followed-next t a b kept known f h =
    record { long = f.long; each = λ j g. f.each j g ∙ ap (run t 0) (common_prefix_len-front j a b (omega arith)) }

-- no key between them matches where the state behind bytes that they share can't match
pub followed-dead : (t a b kept : List ℕ) (reach known : ℕ) → WellFormed t → Reach t reach → Bytes a → Followed t a kept known
    → bit reach (get_or kept known 0) ≡ 0 → known ≤ common_prefix_len a b → MatchBetween t 0 a b → ⊥
followed-dead t a b kept reach known w r bytes f z h m =
    let s = followed-state t a kept known known f w bytes (le_refl known) in
    let one = r.down (get_or kept known 0) s
    (word-any _ ((shared-run t 0 a b known (common_prefix_len-front known a b h) bytes (f.each known (le_refl known))).0 m)) in
    omega (arith, z, one)

-- ---- the states along a key, as the code keeps them
module _ {t key : List ℕ} {trail : Trail} (z : IsTrail t key trail) where
  -- its last state
  pub trail-state : WellFormed t → Bytes key → get_or trail.states trail.known 0 < 64
  trail-state w bytes =
      omega (arith, followed-state t key trail.states trail.known trail.known z.followed w bytes (le_refl trail.known), w.few)

-- where the last state can't match, no key between them matches, and a trail along the one is one along the other
module _ (t a b : List ℕ) {trail : Trail} (z : IsTrail t a trail) (h : trail.known ≤ common_prefix_len a b) where
  pub trail-next : IsTrail t b trail
  trail-next = record {
    followed = followed-next t a b trail.states trail.known z.followed h;
    few = z.few;
    within = omega
        (arith, common_prefix_len-right a b);
  }

  pub trail-dead : (reach : ℕ) → WellFormed t → Reach t reach → Bytes a → bit reach (get_or trail.states trail.known 0) ≡ 0
      → MatchBetween t 0 a b → ⊥
  trail-dead reach w r bytes e = followed-dead t a b trail.states reach trail.known w r bytes z.followed e h
