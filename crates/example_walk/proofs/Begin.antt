-- Where the walk begins: the first byte at which the keys differ, or that there is no string between them; and what each turn keeps.
use mathlib.Core.Path.{◌≡◌, sym, subst, ◌∙◌}
use mathlib.Core.List.{List, [], ◌∷◌, ◌++◌}
use mathlib.Core.Bool.{false≢true}
use mathlib.Core.Logic.{⊎_elim}
use Prim.Native.Nat.{ℕ, ◌+◌, ◌≤◌, ◌<◌}
use native.Mathlib.Omega.{arith}
use borrow.Table.Steps.{cases}
use lib.ListN.{length, get_or, take, replicate}
use Rattle.std.proofs.lemmas.Bool.{cases_lt}
use Rattle.std.proofs.lemmas.List.{take_more, get_or-replicate, get_or_past, length-replicate}
use Rattle.keys.specs.Order.{less, common_prefix_len}
use Rattle.keys.proofs.Order.{≺-≼-trans, prefix-≺, common_prefix_len-left, common_prefix_len-take, common-below}
use Rattle.automaton.specs.Table.{WellFormed, states}
use Rattle.pruning.specs.Interval.{MatchBetween}
use Rattle.pruning.proofs.Intervals.{common-none, common-above}
use Rattle.example_distance.specs.Distance.{Distances}
use Rattle.example_leaving.specs.Leaving.{FirstBetween, no_place}
use Rattle.example_leaving.specs.declared.Leaving.{Leaving}
use Rattle.example_leaving.proofs.Bounds.{next-string}
use Rattle.example_leaving.proofs.Class.{none-between}
use Rattle.example_walk.specs.Walk.{low_edge, high_edge, BestBetween, Reached, Covers}
use Rattle.example_walk.specs.declared.Walk.{Walk}
use Rattle.example_walk.proofs.Edges.{low-last, looked-next}
use Rattle.example_walk.proofs.Steps.{ordered}

-- ---- what each turn keeps
pub record Walking (t d start end : List ℕ) (place low high : ℕ) (w : Walk) : Type 0 where
  pub looked : BestBetween t d (low_edge start place) (high_edge end place) w
  pub covers : Covers t d place w
  pub low-reached : Reached t start place low
  pub high-reached : Reached t end place high

-- ---- no byte was looked at
all-same : (n a i : ℕ) → i < n → get_or (replicate n a) i 0 ≡ a
all-same n a i h = get_or-replicate n i a 0 h

past-all : (n a i : ℕ) → n ≤ i → get_or (replicate n a) i 0 ≡ 0
past-all n a i h = get_or_past (replicate n a) i 0 (omega (arith, length-replicate n a))

pub none-covered : (t d : List ℕ) (k : ℕ) (best : Leaving) → states t ≤ 64
    → Covers t d k (record { best = best; passed_below = replicate 64 0; passed_from = replicate 64 256 })
none-covered t d k best few =
    record {
      long-below = length-replicate {A = ℕ} 64 0;
      long-from = length-replicate {A = ℕ} 64 256;
      from-fits = λ s. ⊎_elim (λ h. omega (arith, all-same 64 256 s h)) (λ h. omega (arith, past-all 64 256 s h)) (cases_lt s 64);
      longer = λ s b hs fits p near.
          absurd (⊎_elim
          (λ (h : b < get_or (replicate 64 0) s 0). let z : ⊥ = omega (arith, h, all-same 64 0 s (omega arith)) in z)
          (λ (h : get_or (replicate 64 256) s 0 ≤ b). let z : ⊥ = omega (arith, h, all-same 64 256 s (omega arith)) in z)
          p);
    }

-- ---- an interval with no string
module _ {t d : List ℕ} (a b : List ℕ) where
  no-string : {c : Leaving} → c.last ≡ no_place → (MatchBetween t 0 a b → ⊥) → FirstBetween t d (a ++ (0 ∷ [])) (b ++ (0 ∷ [])) c
  no-string e none =
      none-between e (λ v i. none (record {
        string = v;
        hits = i.hits;
        good = (
          ≺-≼-trans a (a ++ (0 ∷ [])) v (prefix-≺ a 0 []) i.from-a,
          cases (less b v) (λ g. absurd (false≢true (sym (next-string b v g) ∙ i.below-b))) (λ g. g),
        );
      }))

  module _ {n : ℕ} (e : n ≡ common_prefix_len a b) where
    -- the end key is a front of the start key
    pub end-in-front : {c : Leaving} → c.last ≡ no_place → n ≡ length b → FirstBetween t d (a ++ (0 ∷ [])) (b ++ (0 ∷ [])) c
    end-in-front f h = no-string f (common-none t 0 a b e (omega arith))

    module _ {lo : ℕ} (inside : n < length a → lo ≡ get_or a n 0 + 1) (behind : length a ≤ n → lo ≡ 0) (hb : n < length b) where
      -- the end key is below the start key
      pub end-below : {c : Leaving} → c.last ≡ no_place → get_or b n 0 < lo → FirstBetween t d (a ++ (0 ∷ [])) (b ++ (0 ∷ [])) c
      end-below f h = ⊎_elim
          (λ ha. ⊎_elim
          (λ g. no-string f (common-above t 0 a b e ha hb g))
          (λ g. let z : ⊥ = omega (arith, h, inside ha, common-below a b e ha hb g) in absurd z)
          (cases_lt (get_or b n 0) (get_or a n 0)))
          (λ ha. let z : ⊥ = omega (arith, h, behind ha) in absurd z)
          (cases_lt n (length a))

      -- ---- the strings that leave both keys here
      pub begun : Distances t d → WellFormed t → {w : Walk} → lo ≤ get_or b n 0
          → FirstBetween t d (take n b ++ (lo ∷ [])) (take n b ++ (get_or b n 0 ∷ [])) w.best
          → BestBetween t d (low_edge a (n + 1)) (take (n + 1) b) w
      begun x wf {w} h z = ⊎_elim
          (λ ha. looked-next x wf a n ha (subst (λ (k : ℕ). BestBetween t d (take n a ++ (k ∷ [])) (take (n + 1) b) w) (inside ha) first))
          (λ ha. subst (λ (q : List ℕ). BestBetween t d q (take (n + 1) b) w) (behind-edge ha) first)
          (cases_lt n (length a))
        where
          front : take n a ≡ take n b
          front = rw e (common_prefix_len-take a b)

          first : BestBetween t d (take n a ++ (lo ∷ [])) (take (n + 1) b) w
          first = rw (front, take_more b n 0 hb) (record { ordered = ordered (take n b) lo (get_or b n 0) h; first = z })

          behind-edge : length a ≤ n → take n a ++ (lo ∷ []) ≡ low_edge a (n + 1)
          behind-edge ha = rw (behind ha) (low-last a n (omega (arith, ha, e, common_prefix_len-left a b)))
