-- The largest derivation of a column, while its values are gone through.
use Prim.Native.Nat.{ℕ, zero, suc, ◌+◌, ◌-◌, ◌*◌, max}
use mathlib.Core.Path.{◌≡◌}
use native.Mathlib.Omega.{arith}
use native.Mathlib.Nat.{add-zero, max-zero, mul-suc, mul-zero, zero-max}
use native.Mathlib.Numerals.{add-one}
use lib.ListN.{get_or}
use Rattle.std.specs.List.{fold, range_with_len}
use Rattle.slope.specs.Slope.{derivation, max_derivation}
use Rattle.slope.specs.Column.{column}
use Rattle.slope.specs.Values.{values}
use Rattle.slope.specs.declared.Column as code

-- the larger of m and the derivation at place j
abbrev pub larger : code.Column → ℕ → ℕ → ℕ → ℕ
larger c slope m j = max m (derivation slope (j + 1) (get_or c.area.now (c.at + c.stride * j) 0 - c.base))

module _ (c : code.Column) (slope : ℕ) where
  -- m and the k derivations from place j on
  largest-from : (k m j : ℕ) → fold (larger c slope) m (range_with_len j k)
      ≡ max m (max_derivation slope (j + 1) (column c.area.now (c.at + c.stride * j) c.stride c.base k))
  unfolding max_derivation column
  largest-from zero m j = rw max-zero
  largest-from (suc k) m j =
      let next : c.at + c.stride * (j + 1) ≡ c.at + c.stride * j + c.stride = rw (add-one, mul-suc) (omega arith) in
      rw (largest-from k (larger c slope m j) (j + 1), next, add-one (j + 1)) (omega arith)

  pub largest-all : fold (larger c slope) 0 (range_with_len 0 c.count) ≡ max_derivation slope 1 (values c)
  largest-all = rw (largest-from c.count 0 0, mul-zero, add-zero, zero-max)
