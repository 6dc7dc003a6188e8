-- How blocks fall into groups of L: the count of groups, the blocks of an area that one group takes and leaves, and that a group of a
-- store's area is a group's area.
use Prim.Native.Nat.{ℕ, zero, suc, ◌+◌, ◌-◌, ◌*◌, ◌/◌, ◌≤◌, ◌<◌, min}
use mathlib.Core.Path.{◌≡◌, ap, ◌∙◌, sym}
use mathlib.Core.List.{List, ◌∷◌}
use mathlib.Core.Logic.{⊎_elim}
use native.Mathlib.Nat.{add-zero, zero-add, add-suc, suc-add, sub-zero, zero-sub, suc-sub-suc, zero-min, min-zero, suc-min-suc, mul-suc}
use native.Mathlib.Nat.{mul-le-mul, mul-le-mul_left, lt_of_mul-lt-mul_left, mod-lt, div-add-mod, div-eq_of_lt, add-div_right}
use native.Mathlib.Nat.{eq-zero-or-pos}
use native.Mathlib.Numerals.{add-one, sub-one}
use native.Mathlib.Omega.{arith}
use lib.ListN.{length, take, drop, length-take, length-drop}
use lib.Seq.{get_or-take, get_or-drop}
use Rattle.group.specs.Blocks.{block_of, block_at, blocks_at}
use Rattle.group.specs.Legal.{Legal}
use Rattle.group.specs.Facts.{GroupArea}
use Rattle.group.specs.declared.BlockAddr.{BlockAddr}
use Rattle.group.proofs.Blocks.{length-blocks_at, blocks_at-at, legal-same}
use Rattle.store.specs.Store.{group_count}
use Rattle.store.specs.Facts.{GroupLenOk, StoreArea}

-- ---- counts

module _ {L : ℕ} (some : 1 ≤ L) where
  pub group-count-zero : group_count L 0 ≡ 0
  group-count-zero = div-eq_of_lt (omega arith)

  -- one group more than what the first leaves makes
  pub group-count-suc : (n : ℕ) → 0 < n → group_count L n ≡ suc (group_count L (n - L))
  group-count-suc n h =
      let one : n + (L - 1) ≡ n - 1 + L = omega arith in
      let rest : (n - 1) / L ≡ group_count L (n - L) =
      ⊎_elim (λ l. div-eq_of_lt {n = n - 1} (omega arith) ∙ sym (div-eq_of_lt {n = n - L + (L - 1)} (omega arith)))
      (λ l. ap (λ (x : ℕ). x / L) (omega arith)) (eq-zero-or-pos (n - L)) in
      ap (λ (x : ℕ). x / L) one ∙ add-div_right (n - 1) some ∙ add-one ((n - 1) / L) ∙ ap suc rest

  -- the groups have room for the blocks, and none is empty
  pub group-count-above : (n : ℕ) → n ≤ L * group_count L n
  group-count-above n = omega (arith, div-add-mod (n + (L - 1)) L, mod-lt (n + (L - 1)) some)

  pub group-count-below : (n : ℕ) → L * group_count L n < n + L
  group-count-below n = omega (arith, div-add-mod (n + (L - 1)) L)

  pub group-count-lt : (n g : ℕ) → L * g < n → g < group_count L n
  group-count-lt n g h = lt_of_mul-lt-mul_left L {m = g} {n = group_count L n} (omega (arith, group-count-above n))

  pub group-first-lt : (n g : ℕ) → g < group_count L n → L * g < n
  group-first-lt n g h =
      omega (arith, mul-le-mul_left {m = suc g} {n = group_count L n} L h, mul-suc L g, group-count-below n)

  pub group-count-le : (n : ℕ) → group_count L n ≤ n
  group-count-le n =
      ⊎_elim (λ l. omega arith)
      (λ l. omega (arith, group-first-lt n n (omega arith), mul-le-mul {n₁ = 1} {m₁ = n} {n₂ = L} {m₂ = n} some (omega arith)))
      (eq-zero-or-pos (group_count L n - n))

  -- the groups that the group of `count` blocks from block `first` on leaves
  pub group-count-turn : (n first count : ℕ) → count ≡ min L (n - first) → first < n
      → group_count L (n - first) ≡ suc (group_count L (n - (first + count)))
  group-count-turn n first count is more =
      let rest : n - first - L ≡ n - (first + count) = omega arith in
      group-count-suc (n - first) (omega arith) ∙ ap (λ (x : ℕ). suc (group_count L x)) rest

-- what the group of the blocks from L * g on leaves
pub group-left : (L n g : ℕ) → n - L * g - min L (n - L * g) ≡ n - L * (g + 1)
group-left L n g = rw (add-one g, mul-suc L g) (omega arith)

-- ---- blocks of an area

module _ (area : List ℕ) (stride : ℕ) where
  pub blocks_at-cons : (i m : ℕ) → 0 < m → blocks_at area stride i m ≡ block_at area stride i ∷ blocks_at area stride (i + 1) (m - 1)
  unfolding blocks_at
  blocks_at-cons i zero h = elim h [ ]
  blocks_at-cons i (suc m) h = rw (add-one i, sub-one (suc m))

  pub take-blocks_at : (c i m : ℕ) → take c (blocks_at area stride i m) ≡ blocks_at area stride i (min c m)
  unfolding blocks_at
  take-blocks_at zero i m = rw (zero-min m)
  take-blocks_at (suc c) i zero = rw (min-zero (suc c))
  take-blocks_at (suc c) i (suc m) =
      rw (suc-min-suc c m) (ap (λ (x : List BlockAddr). block_at area stride i ∷ x) (take-blocks_at c (suc i) m))

  pub drop-blocks_at : (c i m : ℕ) → drop c (blocks_at area stride i m) ≡ blocks_at area stride (i + c) (m - c)
  unfolding blocks_at
  drop-blocks_at zero i m = rw (add-zero i, sub-zero m)
  drop-blocks_at (suc c) i zero = rw (zero-sub (suc c))
  drop-blocks_at (suc c) i (suc m) = rw (add-suc i c, suc-sub-suc m c, ← (suc-add i c)) (drop-blocks_at c (suc i) m)

  -- what a group of `count` blocks leaves of those from block i on
  pub blocks-left : (L n i count : ℕ) → count ≡ min L (n - i)
      → drop L (blocks_at area stride i (n - i)) ≡ blocks_at area stride (i + count) (n - (i + count))
  unfolding blocks_at
  blocks-left L n i count is =
      drop-blocks_at L i (n - i)
      ∙ ⊎_elim (λ none.
      let none' : n - (i + count) ≡ 0 = omega arith in
      ap (blocks_at area stride (i + L)) none ∙ sym (ap (blocks_at area stride (i + count)) none'))
      (λ more.
      let all : count ≡ L = omega arith in
      let rest : n - i - L ≡ n - (i + L) = omega arith in
      rw (all, rest))
      (eq-zero-or-pos (n - i - L))

-- ---- legal blocks

-- a part of legal blocks is legal
pub legal-part : {f : ℕ → BlockAddr} {n : ℕ} → Legal f n → (a c : ℕ) → c ≤ n - a → Legal (λ i. f (a + i)) c
legal-part legal a c inside = record {
  numbers = λ i h. legal.numbers (a + i) (omega arith);
  follows = λ i h. rw (add-suc a i) (legal.follows (a + i) (omega arith));
}

pub legal-drop : (bs : List BlockAddr) → Legal (block_of bs) (length bs) → (a : ℕ) → Legal (block_of (drop a bs)) (length (drop a bs))
legal-drop bs legal a =
    legal-same (λ i h. get_or-drop a bs i (record { start = 0; end = 0; first_ordinal = 0 }))
    (legal-part legal a (length (drop a bs)) (omega (arith, length-drop a bs)))

pub legal-take : (bs : List BlockAddr) → Legal (block_of bs) (length bs) → (c : ℕ) → Legal (block_of (take c bs)) (length (take c bs))
legal-take bs legal c =
    legal-same (λ i h. get_or-take c bs i (record { start = 0; end = 0; first_ordinal = 0 }) (omega (arith, length-take c bs)))
    (record {
      numbers = λ i h. legal.numbers i (omega (arith, length-take c bs));
      follows = λ i h. legal.follows i (omega (arith, length-take c bs));
    })

-- ---- areas

module _ {area : List ℕ} {stride n : ℕ} (store : StoreArea area stride n) where
  pub store-legal : Legal (block_of (blocks_at area stride 0 n)) (length (blocks_at area stride 0 n))
  store-legal =
      rw (length-blocks_at area stride 0 n)
      (legal-same (λ i h. blocks_at-at area stride 0 n i h ∙ ap (block_at area stride) (zero-add i)) store.legal)

  pub group-area : {L : ℕ} → GroupLenOk L → (first count : ℕ) → count ≡ min L (n - first) → first < n → GroupArea area stride first count
  group-area group first count is h = record {
    some = omega arith;
    few = omega arith;
    wide = store.wide;
    inside = omega (arith, mul-le-mul_left {m = first + count} {n = n} stride (omega arith));
    legal = legal-part store.legal first count (omega arith);
  }
