-- The lowest and the highest point as the code's loops keep them, up to a place of a column.
use Rattle.std.specs.Prelude.{ℕ, ◌+◌, ◌-◌, ◌*◌, ◌/◌, ◌%◌, ◌^◌, ◌≤◌, ◌<◌, ◌≡◌, List}
use Rattle.slope.specs.Column.{column}
use Rattle.slope.specs.Slope.{Point, points_from, slope_at, lowest, highest, slope_between, best_slope}
use Rattle.slope.specs.declared.Point as code

-- the point (i, v) with its slope
abbrev pub New : ℕ → ℕ → code.Point → Type 0
New i v p = (p.i ≡ i) × (p.v ≡ v) × (p.slope ≡ v / i % 2 ^ 32)

abbrev pub point_of : code.Point → Point
point_of p = record { i = p.i; v = p.v }

-- a point of the first n, with its slope
pub record Sloped (n : ℕ) (p : code.Point) : Type 0 where
  pub first : 1 ≤ p.i
  pub last : p.i ≤ n
  pub small : p.v < 2 ^ 62
  pub sloped : p.slope ≡ slope_at (point_of p)

-- the slope between the lowest and the highest of lo, hi and the points from place j on
abbrev pub slope_left : List ℕ → ℕ → ℕ → ℕ → ℕ → Point → Point → ℕ → ℕ
slope_left area at stride base count lo hi j =
    slope_between (lowest lo (points_from (j + 1) (column area (at + stride * j) stride base (count - j))))
    (highest hi (points_from (j + 1) (column area (at + stride * j) stride base (count - j))))

-- what holds of the lowest and the highest point before place j
pub record ExtremesAt (area : List ℕ) (at stride base count : ℕ) (low high : code.Point) (j : ℕ) : Type 0 where
  pub within : j ≤ count
  pub lows : Sloped count low
  pub highs : Sloped count high
  pub ordered : low.slope ≤ high.slope
  pub same : slope_left area at stride base count (point_of low) (point_of high) j ≡ best_slope (column area at stride base count)
