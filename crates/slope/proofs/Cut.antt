-- The lowest and the highest point, while every slope is worked out and cut to 32 bits.
use Prim.Native.Nat.{ℕ, zero, suc, ◌+◌, ◌-◌, ◌*◌, ◌/◌, ◌%◌, ◌^◌, ◌≤◌, ◌<◌}
use mathlib.Core.Path.{◌≡◌, refl}
use mathlib.Core.Bool.{Bool, true, false}
use native.Mathlib.Omega.{arith}
use borrow.Author.Tests.{leb-true, leb-false}
use lib.Dec.{leb}
use lib.ListN.{get_or}
use Rattle.std.specs.Prelude.{cond}
use Rattle.std.specs.List.{fold, range_with_len}
use Rattle.slope.specs.ExtremesOf.{ExtremesOf}
use Rattle.slope.specs.declared.Column as code
use Rattle.slope.specs.declared.Extremes as code_extremes
use Rattle.slope.specs.declared.Point as code_point
use Rattle.slope.proofs.Points.{kept-both, kept_low, kept_high, kept-stays}

-- the point of value j
abbrev pub point_at : code.Column → ℕ → code_point.Point
point_at c j = record {
  i = j + 1;
  v = get_or c.area.now (c.at + c.stride * j) 0 - c.base;
  slope = (get_or c.area.now (c.at + c.stride * j) 0 - c.base) / (j + 1) % 2 ^ 32;
}

-- what is kept with that point
abbrev pub with_point : code.Column → code_extremes.Extremes → ℕ → code_extremes.Extremes
with_point c kept j = record {
  low = cond (leb (point_at c j).slope kept.low.slope) (point_at c j) kept.low;
  high = cond (leb kept.high.slope (point_at c j).slope) (point_at c j) kept.high;
  j = j + 1;
}

module _ (c : code.Column) where
  small : (j : ℕ) → j < c.count → get_or c.area.now (c.at + c.stride * j) 0 - c.base < 2 ^ 62
  small j h = omega (arith, (c.ok.values j h).small)

  kept-with : (low high : code_point.Point) (j : ℕ) → j < c.count → ExtremesOf c low high j
      → (l g : Bool) → leb (point_at c j).slope low.slope ≡ l → leb high.slope (point_at c j).slope ≡ g
      → ExtremesOf c (cond l (point_at c j) low) (cond g (point_at c j) high) (j + 1)
  kept-with low high j h k true true l g =
      kept-both _ _ _ _ _ low high (point_at c j) j _ h k (refl, small j h) (refl, refl, refl) (leb-true _ _ l) (leb-true _ _ g)
  kept-with low high j h k true false l g =
      kept_low _ _ _ _ _ low high (point_at c j) j _ h k (refl, small j h) (refl, refl, refl) (leb-true _ _ l) (leb-false _ _ g)
  kept-with low high j h k false true l g =
      kept_high _ _ _ _ _ low high (point_at c j) j _ h k (refl, small j h) (refl, refl, refl) (leb-false _ _ l) (leb-true _ _ g)
  kept-with low high j h k false false l g =
      kept-stays _ _ _ _ _ low high (point_at c j) j _ h k (refl, small j h) (refl, refl, refl) (leb-false _ _ l) (leb-false _ _ g)

  -- with the k points from j on, which are all that are left
  pub kept-all : (k : ℕ) (kept : code_extremes.Extremes) (j : ℕ) → j + k ≡ c.count → kept.j ≡ j → ExtremesOf c kept.low kept.high j
      → (let all = fold (with_point c) kept (range_with_len j k) in ExtremesOf c all.low all.high all.j × (c.count ≤ all.j))
  kept-all zero kept j e is k = (rw is k, omega (arith, is, e))
  kept-all (suc k) kept j e is at =
      kept-all k (with_point c kept j) (j + 1) (omega arith) refl (kept-with kept.low kept.high j (omega arith) at _ _ refl refl)
