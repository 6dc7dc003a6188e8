-- The lowest and the highest point of the code and those of the definitions: what one more point leaves of them.
use Prim.Native.Nat.{ℕ, ◌+◌, ◌-◌, ◌*◌, ◌/◌, ◌%◌, ◌^◌, ◌≤◌, ◌<◌}
use mathlib.Core.Path.{◌≡◌, ◌∙◌, sym}
use mathlib.Core.List.{List}
use native.Mathlib.Omega.{arith}
use native.Mathlib.Nat.{add-zero, mul-zero, sub-zero}
use native.Mathlib.Numerals.{add-one}
use borrow.Author.Tests.{le-leb, lt-leb}
use lib.ListN.{get_or}
use Rattle.slope.specs.Column.{column, ColumnOk, ValueOk}
use Rattle.slope.specs.Extremes.{New, point_of, Sloped, slope_left, ExtremesAt}
use Rattle.slope.specs.Slope.{Point, points_from, slope_at, lower_point, higher_point, lowest, highest, slope_between, best_slope}
use Rattle.slope.specs.declared.Point as code
use Rattle.slope.proofs.Columns.{column-step}

new-good : (n i v : ℕ) (p : code.Point) → New i v p → 1 ≤ i → i ≤ n → v < 2 ^ 62 → Sloped n p
new-good n i v p e first last small =
    record { first = omega arith; last = omega arith; small = omega arith; sloped = rw (e.2, e.0, e.1) }

new-point : (i v : ℕ) (p : code.Point) → New i v p → point_of p ≡ record { i = i; v = v }
new-point i v p e = rw (e.0, e.1)

pub slope-fits : (n : ℕ) (p : code.Point) → Sloped n p → p.slope < 2 ^ 32
slope-fits n p g = omega (arith, g.sloped)

-- the lower and the higher of p and the later q
module _ (n : ℕ) (p q : code.Point) (g : Sloped n p) (h : Sloped n q) where
  lower-later : q.slope ≤ p.slope → point_of q ≡ lower_point (point_of p) (point_of q)
  unfolding lower_point
  lower-later l = simp (le-leb (slope_at (point_of q)) (slope_at (point_of p)) (rw (g.sloped, h.sloped) at l))

  lower-stays : p.slope < q.slope → point_of p ≡ lower_point (point_of p) (point_of q)
  unfolding lower_point
  lower-stays l = simp (lt-leb (slope_at (point_of q)) (slope_at (point_of p)) (rw (g.sloped, h.sloped) at l))

  higher-later : p.slope ≤ q.slope → point_of q ≡ higher_point (point_of p) (point_of q)
  unfolding higher_point
  higher-later l = simp (le-leb (slope_at (point_of p)) (slope_at (point_of q)) (rw (g.sloped, h.sloped) at l))

  higher-stays : q.slope < p.slope → point_of p ≡ higher_point (point_of p) (point_of q)
  unfolding higher_point
  higher-stays l = simp (lt-leb (slope_at (point_of p)) (slope_at (point_of q)) (rw (g.sloped, h.sloped) at l))

module _ (area : List ℕ) (at stride base count : ℕ) where
  pub first-value : ColumnOk area at stride base count → 0 < count → ValueOk area base at
  first-value ok h = rw (mul-zero, add-zero) at (ok.values 0 h)

  left-start : 0 < count
      → slope_left area at stride base count (record { i = 1; v = get_or area at 0 - base })
      (record { i = 1; v = get_or area at 0 - base }) 1 ≡ best_slope (column area at stride base count)
  unfolding best_slope
  left-start h = rw (rw (mul-zero, add-zero, sub-zero) at (column-step area at stride base count 0 h))

  left_step : (lo hi : Point) (j : ℕ) → j < count
      → slope_left area at stride base count (lower_point lo (record { i = j + 1; v = get_or area (at + stride * j) 0 - base }))
      (higher_point hi (record { i = j + 1; v = get_or area (at + stride * j) 0 - base })) (j + 1)
      ≡ slope_left area at stride base count lo hi j
  unfolding lowest highest points_from
  left_step lo hi j h = rw (column-step area at stride base count j h, add-one (j + 1))

  left-stop : (lo hi : Point) (j : ℕ) → count ≤ j → slope_left area at stride base count lo hi j ≡ slope_between lo hi
  unfolding lowest highest points_from column
  left-stop lo hi j h =
      let e : count - j ≡ 0 = omega arith in
      rw e

  pub kept-start : (p : code.Point) (v : ℕ) → 0 < count → (v ≡ get_or area (at + stride * 0) 0 - base) × (v < 2 ^ 62) → New 1 v p
      → ExtremesAt area at stride base count p p 1
  kept-start p v h value e =
      let is : v ≡ get_or area at 0 - base = rw (mul-zero, add-zero) at value.0 in
      let good = new-good count 1 v p e (omega arith) h value.1 in
      record {
        within = h;
        lows = good;
        highs = good;
        ordered = omega arith;
        same = rw (new-point 1 v p e, is) (left-start h);
      }

  -- the slope as the code works it out
  pub kept-stop : (low high : code.Point) (j : ℕ) → count ≤ j → ExtremesAt area at stride base count low high j
      → (low.v + high.v + (low.i + high.i) / 2) / (low.i + high.i) % 2 ^ 32 ≡ best_slope (column area at stride base count)
  unfolding slope_between
  kept-stop low high j h k = sym (left-stop (point_of low) (point_of high) j h) ∙ k.same

-- one more point q, of the value v at place j: what is kept, by how its slope compares
module _ (area : List ℕ) (at stride base count : ℕ) (low high q : code.Point) (j v : ℕ) (h : j < count)
    (k : ExtremesAt area at stride base count low high j) (value : (v ≡ get_or area (at + stride * j) 0 - base) × (v < 2 ^ 62))
    (e : New (j + 1) v q) where
  good : Sloped count q
  good = new-good count (j + 1) v q e (omega arith) (omega arith) value.1

  kept_step : (low' high' : code.Point) → Sloped count low' → Sloped count high' → low'.slope ≤ high'.slope
      → point_of low' ≡ lower_point (point_of low) (point_of q) → point_of high' ≡ higher_point (point_of high) (point_of q)
      → ExtremesAt area at stride base count low' high' (j + 1)
  kept_step low' high' lows highs ordered l g =
      record {
        within = omega arith;
        lows = lows;
        highs = highs;
        ordered = ordered;
        same =
            rw (l, g, new-point (j + 1) v q e, value.0)
            (left_step area at stride base count (point_of low) (point_of high) j h ∙ k.same);
      }

  pub kept-both : q.slope ≤ low.slope → high.slope ≤ q.slope → ExtremesAt area at stride base count q q (j + 1)
  kept-both l g =
      kept_step q q good good (omega arith) (lower-later count low q k.lows good l) (higher-later count high q k.highs good g)

  pub kept_low : q.slope ≤ low.slope → q.slope < high.slope → ExtremesAt area at stride base count q high (j + 1)
  kept_low l g =
      kept_step q high good k.highs (omega arith) (lower-later count low q k.lows good l) (higher-stays count high q k.highs good g)

  pub kept_high : low.slope < q.slope → high.slope ≤ q.slope → ExtremesAt area at stride base count low q (j + 1)
  kept_high l g =
      kept_step low q k.lows good (omega arith) (lower-stays count low q k.lows good l) (higher-later count high q k.highs good g)

  pub kept-stays : low.slope < q.slope → q.slope < high.slope → ExtremesAt area at stride base count low high (j + 1)
  kept-stays l g =
      kept_step low high k.lows k.highs (omega arith) (lower-stays count low q k.lows good l) (higher-stays count high q k.highs good g)
