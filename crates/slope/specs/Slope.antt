-- `find_best_slope` (SPECIFICATION 6.1 to 6.8): the slope of a list of values, its width, and what is stored of a value.
-- A value's place in the list, counted from 1, is its point's i.
use Rattle.std.specs.Prelude.{ℕ, suc, ◌+◌, ◌-◌, ◌*◌, ◌/◌, ◌%◌, ◌^◌, max, List, [], ◌∷◌, cond, leb}
use Rattle.bitpacker.specs.Bits.{num_bits_of}

-- a point (i, v)
pub record Point : Type 0 where
  pub i : ℕ
  pub v : ℕ

-- the values as points, numbered from i on
unfoldable pub points_from : ℕ → List ℕ → List Point
points_from i [] = []
points_from i (v ∷ vs) = record { i = i; v = v } ∷ points_from (suc i) vs

-- a point's own slope, cut to 32 bits (SPECIFICATION 6.2)
abbrev pub slope_at : Point → ℕ
slope_at p = p.v / p.i % 2 ^ 32

-- the lower and the higher of two points by their own slopes; of equal ones q, which comes later (SPECIFICATION 6.3)
unfoldable pub lower_point : Point → Point → Point
lower_point p q = cond (leb (slope_at q) (slope_at p)) q p

unfoldable pub higher_point : Point → Point → Point
higher_point p q = cond (leb (slope_at p) (slope_at q)) q p

-- the lowest and the highest of p and the points after it
unfoldable pub lowest : Point → List Point → Point
lowest p [] = p
lowest p (q ∷ qs) = lowest (lower_point p q) qs

unfoldable pub highest : Point → List Point → Point
highest p [] = p
highest p (q ∷ qs) = highest (higher_point p q) qs

-- the slope from the lowest and the highest point, rounded and cut to 32 bits (SPECIFICATION 6.4)
unfoldable pub slope_between : Point → Point → ℕ
slope_between lo hi = (lo.v + hi.v + (lo.i + hi.i) / 2) / (lo.i + hi.i) % 2 ^ 32

-- the slope of a list; 0 where it is empty (SPECIFICATION 6.5)
unfoldable pub best_slope : List ℕ → ℕ
best_slope [] = 0
best_slope (v ∷ vs) =
    slope_between (lowest (record { i = 1; v = v }) (points_from 2 vs)) (highest (record { i = 1; v = v }) (points_from 2 vs))

-- |v - slope × i|
unfoldable pub derivation : ℕ → ℕ → ℕ → ℕ
derivation slope i v = (v - slope * i) + (slope * i - v)

-- the largest |v - slope × i| of values that are numbered from i on; no points: 0
unfoldable pub max_derivation : ℕ → ℕ → List ℕ → ℕ
max_derivation slope i [] = 0
max_derivation slope i (v ∷ vs) = max (derivation slope i v) (max_derivation slope (suc i) vs)

-- the width (SPECIFICATION 6.6)
unfoldable pub width_of : ℕ → List ℕ → ℕ
width_of slope vs = num_bits_of (max_derivation slope 1 vs) + 1

-- what is stored of the point (i, v) (SPECIFICATION 6.8)
unfoldable pub stored_of : ℕ → ℕ → ℕ → ℕ → ℕ
stored_of slope width i v = v + 2 ^ (width - 1) - slope * i
