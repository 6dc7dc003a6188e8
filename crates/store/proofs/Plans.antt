-- What is kept of the groups' plans: how long it is, one group more, and what stands at a place of a list.
use Prim.Native.Nat.{ℕ, zero, suc, ◌+◌, ◌-◌, ◌*◌, ◌≤◌, ◌<◌, min}
use mathlib.Core.Path.{◌≡◌, refl, sym, ap, ◌∙◌}
use mathlib.Core.List.{List, [], ◌∷◌, ◌++◌, append_assoc}
use native.Mathlib.Nat.{zero-add, suc-add, mul-zero, mul-suc}
use native.Mathlib.Numerals.{add-one}
use native.Mathlib.Omega.{arith}
use lib.ListN.{length, get_or, take, drop, length-append, length-take, length-drop, take-append-drop}
use lib.Seq.{sets, sets-eq, drop_at, drop-cons, drop-drop, take-append_seam, drop-append_seam}
use Rattle.group.specs.Blocks.{block_at, blocks_at}
use Rattle.group.specs.Write.{meta_of, plan_of}
use Rattle.group.specs.declared.BlockAddr.{BlockAddr}
use Rattle.group.specs.declared.BlockAddrBlockMetadata.{BlockAddrBlockMetadata}
use Rattle.group.proofs.Blocks.{length-blocks_at}
use Rattle.store.specs.Store.{group_count}
use Rattle.store.specs.Plans.{group_plan, plans, StandsAt}
use Rattle.store.proofs.Groups.{group-count-turn, group-count-below, blocks_at-cons, blocks-left}
use Rattle.store.proofs.Stored.{next-group, none_left}

-- ---- what stands at a place

module _ (l : List ℕ) (i : ℕ) where
  -- all from there on
  from : (w : List ℕ) → StandsAt l i w → drop i l ≡ w ++ drop (length w) (drop i l)
  from w h = sym (take-append-drop (length w) (drop i l)) ∙ ap (λ (p : List ℕ). p ++ drop (length w) (drop i l)) h

  pub standing-front : (a b : List ℕ) → StandsAt l i (a ++ b) → StandsAt l i a
  standing-front a b h =
      ap (take (length a)) (from (a ++ b) h ∙ append_assoc a b (drop (length (a ++ b)) (drop i l)))
      ∙ take-append_seam a (b ++ drop (length (a ++ b)) (drop i l))

  pub standing-rest : (a b : List ℕ) → StandsAt l i (a ++ b) → StandsAt l (i + length a) b
  standing-rest a b h =
      let rest : List ℕ = drop (length (a ++ b)) (drop i l) in
      let there : drop (i + length a) l ≡ b ++ rest =
      sym (drop-drop (length a) i l) ∙ ap (drop (length a)) (from (a ++ b) h ∙ append_assoc a b rest) ∙ drop-append_seam a (b ++ rest) in
      ap (take (length b)) there ∙ take-append_seam b rest

pub standing-sets : (d w : List ℕ) (i : ℕ) → i + length w ≤ length d → StandsAt (sets d i w) i w
standing-sets d w i h =
    let front : length (take i d) ≡ i = length-take i d ∙ omega arith in
    ap (λ (l : List ℕ). take (length w) (drop i l)) (sets-eq w d i h)
    ∙ ap (λ (l : List ℕ). take (length w) (drop i l)) (append_assoc (take i d) w (drop (i + length w) d))
    ∙ ap (take (length w)) (drop_at (take i d) (w ++ drop (i + length w) d) i front)
    ∙ take-append_seam w (drop (i + length w) d)

-- two numbers that stand at a place
pub standing-two : (l : List ℕ) (i : ℕ) (w : List ℕ) → length w ≡ 2 → StandsAt l i w → (i + 2 ≤ length l)
    × (get_or l i 0 ∷ get_or l (i + 1) 0 ∷ [] ≡ w)
standing-two l i w size h =
    let room : i + 2 ≤ length l = omega (arith, ap length h, length-take (length w) (drop i l), length-drop i l) in
    let there : drop i l ≡ get_or l i 0 ∷ get_or l (i + 1) 0 ∷ drop (i + 2) l =
    drop-cons l i 0 (omega arith)
    ∙ ap (λ (r : List ℕ). get_or l i 0 ∷ r) (rw (add-one i, add-two i) (drop-cons l (suc i) 0 (omega arith))) in
    (room, sym (ap (take 2) there) ∙ (rw size at h))
  where
    add-two : (k : ℕ) → k + 2 ≡ suc (suc k)
    add-two k = omega arith

-- ---- plans

module _ (choose : List ℕ → ℕ) where
  pub length-group_plan : (bs : List BlockAddr) → 0 < length bs → length (group_plan choose bs) ≡ 2
  unfolding group_plan plan_of
  length-group_plan [] h = absurd (let z : ⊥ = omega arith in z)
  length-group_plan (b ∷ bs) h = refl

  -- k groups of which none is empty
  pub length-plans : (L k : ℕ) (bs : List BlockAddr) → 1 ≤ L → L * k < length bs + L → length (plans choose L k bs) ≡ 2 * k
  unfolding plans
  length-plans L zero bs some h = refl
  length-plans L (suc k) bs some h =
      let more : L * k < length bs = omega (arith, mul-suc L k) in
      let one = length-group_plan (take L bs) (rw (length-take L bs) (omega arith)) in
      let others = length-plans L k (drop L bs) some (rw (length-drop L bs) (omega arith)) in
      length-append (group_plan choose (take L bs)) (plans choose L k (drop L bs)) ∙ omega arith

  -- g groups, then k more
  pub plans-add : (L g k : ℕ) (bs : List BlockAddr) → plans choose L (g + k) bs ≡ plans choose L g bs ++ plans choose L k (drop (L * g) bs)
  unfolding plans
  plans-add L zero k bs = rw (zero-add k, mul-zero L)
  plans-add L (suc g) k bs =
      let e : L * suc g ≡ L + L * g = omega (arith, mul-suc L g) in
      rw (suc-add g k, e, ← (drop-drop (L * g) L bs), append_assoc, plans-add L g k (drop L bs))

  -- the group of `count` blocks from block `first` on, and what it leaves
  module _ {L : ℕ} (some : 1 ≤ L) (area : List ℕ) (stride n first count : ℕ) (is : count ≡ min L (n - first)) (more : first < n) where
    pub plans-turn : plans choose L (group_count L (n - first)) (blocks_at area stride first (n - first))
        ≡ group_plan choose (blocks_at area stride first count)
        ++ plans choose L (group_count L (n - (first + count))) (blocks_at area stride (first + count) (n - (first + count)))
    unfolding plans
    plans-turn =
        rw (
          group-count-turn some n first count is more,
          next-group choose some area stride n first count is more,
          blocks-left area stride L n first count is,
        )

    pub length-plan : length (group_plan choose (blocks_at area stride first count)) ≡ 2
    length-plan = length-group_plan (blocks_at area stride first count) (rw (length-blocks_at area stride first count) (omega arith))

  pub plans-none : {L : ℕ} → 1 ≤ L → (n first : ℕ) → n ≤ first → (bs : List BlockAddr) → plans choose L (group_count L (n - first)) bs ≡ []
  unfolding plans
  plans-none some n first none bs = rw (none_left choose some n first none bs)

  pub length-plans-area : {L : ℕ} → 1 ≤ L → (area : List ℕ) (stride i n : ℕ)
      → length (plans choose L (group_count L n) (blocks_at area stride i n)) ≡ 2 * group_count L n
  length-plans-area {L} some area stride i n =
      length-plans L (group_count L n) (blocks_at area stride i n) some (rw (length-blocks_at area stride i n) (group-count-below some n))

  -- what was planned stands at the front
  pub plans-stand : {L : ℕ} → 1 ≤ L → (area : List ℕ) (stride n : ℕ) (kept kept' : List ℕ) → 2 * group_count L n ≤ length kept
      → kept' ≡ sets kept 0 (plans choose L (group_count L n) (blocks_at area stride 0 n))
      → StandsAt kept' 0 (plans choose L (group_count L n) (blocks_at area stride 0 n))
  plans-stand {L} some area stride n kept kept' room e =
      rw e (standing-sets kept (plans choose L (group_count L n) (blocks_at area stride 0 n)) 0
      (omega (arith, length-plans-area some area stride 0 n)))

  -- what is kept of a group's record
  pub kept-plan : (area : List ℕ) (stride first count : ℕ) {m : BlockAddrBlockMetadata} → 0 < count
      → m ≡ meta_of choose 0 (block_at area stride first) (blocks_at area stride (first + 1) (count - 1))
      → plan_of m ≡ group_plan choose (blocks_at area stride first count)
  unfolding group_plan
  kept-plan area stride first count some is = rw (is, blocks_at-cons area stride first count some)
