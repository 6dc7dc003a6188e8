-- The record of a group of an area: its two columns are the range points, which are the ends of touching blocks, and the ordinal points.
use Prim.Native.Nat.{ℕ, suc, ◌+◌, ◌-◌, ◌*◌, ◌/◌, ◌%◌, ◌^◌, ◌≤◌, ◌<◌}
use mathlib.Core.Path.{◌≡◌, sym, ap, ◌∙◌}
use mathlib.Core.List.{List, [], ◌∷◌}
use native.Mathlib.Nat.{add-zero, mul-add, mul-suc}
use native.Mathlib.Omega.{arith}
use lib.ListN.{get_or}
use lib.Seq.{ext_get_or}
use Rattle.slope.specs.Column.{column, ColumnOk}
use Rattle.slope.specs.Slope.{best_slope, width_of}
use Rattle.slope.specs.declared.Slope.{Slope}
use Rattle.slope.proofs.Columns.{length-column, column-at}
use Rattle.slope.proofs.Widths.{best_slope-lt}
use Rattle.group.specs.Blocks.{block_at}
use Rattle.group.specs.Write.{range_values, ordinal_values, meta_of, plan_of}
use Rattle.group.specs.declared.BlockAddr.{BlockAddr}
use Rattle.group.specs.declared.BlockAddrBlockMetadata.{BlockAddrBlockMetadata}
use Rattle.group.proofs.Limit.{limit-high}
use Rattle.group.proofs.Blocks.{length-blocks_at, length-group, group_at, group-legal, group-inside, group-end-le, group-ordinal-le}
use Rattle.group.proofs.Written.{length-range_values, length-ordinal_values, range-end-at, ordinal-at, fits}
use Rattle.group_write.specs.Group.{first_of, rest_of, record_of}
use Rattle.group_write.specs.declared.AreaGroup.{AreaGroup}

-- the places of the ends, and of the ordinals behind the first
end-place : (stride first j : ℕ) → stride * first + 1 + stride * j ≡ stride * (first + j) + 1
end-place stride first j = omega (arith, mul-add stride first j)

ordinal-place : (stride first j : ℕ) → stride * first + stride + 2 + stride * j ≡ stride * (first + suc j) + 2
ordinal-place stride first j = omega (arith, mul-add stride first (suc j), mul-suc stride j)

-- the two columns of the code
abbrev pub ends : AreaGroup → ℕ → List ℕ
ends g base = column g.area.now (g.stride * g.first + 1) g.stride base g.count

abbrev pub ordinals : AreaGroup → ℕ → List ℕ
ordinals g base = column g.area.now (g.stride * g.first + g.stride + 2) g.stride base (g.count - 1)

module _ (g : AreaGroup) where
  abbrev all_ends : List ℕ
  all_ends = range_values (first_of g).start (first_of g) (rest_of g)

  abbrev all_ordinals : List ℕ
  all_ordinals = ordinal_values (first_of g).first_ordinal (rest_of g)

  -- the record with a slope and a width for each column
  planned : (range ordinal : Slope) (offset : ℕ) → (range.slope ≡ best_slope all_ends)
      × (range.nbits ≡ width_of (best_slope all_ends) all_ends)
      → (ordinal.slope ≡ best_slope all_ordinals) × (ordinal.nbits ≡ width_of (best_slope all_ordinals) all_ordinals)
      → record_of g range ordinal offset ≡ meta_of best_slope offset (first_of g) (rest_of g)
  unfolding meta_of
  planned range ordinal offset e e' = rw (e.0, e.1, e'.0, e'.1, length-blocks_at g.area.now g.stride (g.first + 1) (g.count - 1))

  -- ---- planning: b is the first block, as the code reads it

  module _ {b : BlockAddr} (is : b ≡ block_at g.area.now g.stride (g.first + 0)) where
    first-is : b ≡ first_of g
    first-is = rw add-zero at is

    pub ends-ok : ColumnOk g.area.now (g.stride * g.first + 1) g.stride b.start g.count
    ends-ok = rw first-is (record {
      few = omega (arith, g.ok);
      values = λ j h.
          rw (end-place g.stride g.first j) (record {
            inside = omega (arith, group-inside g.ok j h, g.ok.wide);
            above = group-end-le g.ok j h;
            small = omega (arith, g.ok.legal.numbers j h, limit-high);
          });
    })

    pub ordinals-ok : ColumnOk g.area.now (g.stride * g.first + g.stride + 2) g.stride b.first_ordinal (g.count - 1)
    ordinals-ok = rw first-is (record {
      few = omega (arith, g.ok);
      values = λ j h.
          let there : suc j < g.count = omega arith in
          rw (ordinal-place g.stride g.first j) (record {
            inside = omega (arith, group-inside g.ok (suc j) there, g.ok.wide);
            above = group-ordinal-le g.ok (suc j) there;
            small = omega (arith, g.ok.legal.numbers (suc j) there, limit-high);
          });
    })

    ends-are : ends g b.start ≡ all_ends
    ends-are =
        rw first-is
        (let base = (first_of g).start in
        let n = length-column g.area.now (g.stride * g.first + 1) g.stride base g.count in
        ext_get_or 0 (ends g base) all_ends (omega (arith, length-range_values base (first_of g) (rest_of g), length-group g.ok))
        (λ j h.
        let there : j < g.count = rw n at h in
        column-at g.area.now (g.stride * g.first + 1) g.stride base g.count j there
        ∙ rw (end-place g.stride g.first j)
        (sym (range-end-at (first_of g) (rest_of g) (group-legal g.ok) base j (rw (length-group g.ok) there)
        ∙ ap (λ (x : BlockAddr). x.end - base) (group_at g.ok j there)))))

    ordinals-are : ordinals g b.first_ordinal ≡ all_ordinals
    ordinals-are =
        rw first-is
        (let base = (first_of g).first_ordinal in
        let n = length-column g.area.now (g.stride * g.first + g.stride + 2) g.stride base (g.count - 1) in
        ext_get_or 0 (ordinals g base) all_ordinals (omega (arith, length-ordinal_values base (rest_of g), length-group g.ok))
        (λ j h.
        let there : j < g.count - 1 = rw n at h in
        column-at g.area.now (g.stride * g.first + g.stride + 2) g.stride base (g.count - 1) j there
        ∙ rw (ordinal-place g.stride g.first j)
        (sym (ordinal-at base (rest_of g) j (omega (arith, length-group g.ok))
        ∙ ap (λ (x : BlockAddr). x.first_ordinal - base) (group_at g.ok (suc j) (omega arith))))))

    -- the record as the code puts it together
    pub record-planned : {range ordinal : Slope} {m : BlockAddrBlockMetadata} {offset : ℕ}
        → (range.slope ≡ best_slope (ends g b.start)) × (range.nbits ≡ width_of (best_slope (ends g b.start)) (ends g b.start))
        → (ordinal.slope ≡ best_slope (ordinals g b.first_ordinal))
        × (ordinal.nbits ≡ width_of (best_slope (ordinals g b.first_ordinal)) (ordinals g b.first_ordinal))
        → m ≡ record_of g range ordinal offset
        → m ≡ meta_of best_slope offset (first_of g) (rest_of g)
    record-planned {range} {ordinal} {m} {offset} e e' q = q ∙ planned range ordinal offset (rw ends-are at e) (rw ordinals-are at e')

  -- ---- what was kept of a plan

  -- the record at offset 0
  abbrev pub plan : BlockAddrBlockMetadata
  plan = meta_of best_slope 0 (first_of g) (rest_of g)

  small : (plan.range_start_slope < 2 ^ 32) × (plan.first_ordinal_slope < 2 ^ 32) × (plan.range_start_nbits ≤ 56)
      × (plan.first_ordinal_nbits ≤ 56)
  unfolding meta_of
  small =
      let fit = fits (first_of g) (rest_of g) (group-legal g.ok) best_slope 0 best_slope-lt (omega (arith, length-group g.ok, g.ok.few)) in
      (best_slope-lt all_ends, best_slope-lt all_ordinals, fit.ranges.high, fit.ordinals.high)

  module _ (range ordinal : ℕ) (kept : range ∷ ordinal ∷ [] ≡ plan_of plan) where
    range-is : range ≡ 256 * plan.range_start_slope + plan.range_start_nbits
    unfolding plan_of
    range-is = ap (λ (l : List ℕ). get_or l 0 0) kept

    ordinal-is : ordinal ≡ 256 * plan.first_ordinal_slope + plan.first_ordinal_nbits
    unfolding plan_of
    ordinal-is = ap (λ (l : List ℕ). get_or l 1 0) kept

    pub range-small : range < 2 ^ 40
    range-small = omega (arith, range-is, small)

    pub ordinal-small : ordinal < 2 ^ 40
    ordinal-small = omega (arith, ordinal-is, small)

    pub record-kept : {r o : Slope} {m : BlockAddrBlockMetadata} {offset : ℕ}
        → (r.slope ≡ range / 256) × (r.nbits ≡ range % 256) → (o.slope ≡ ordinal / 256) × (o.nbits ≡ ordinal % 256)
        → m ≡ record_of g r o offset
        → m ≡ meta_of best_slope offset (first_of g) (rest_of g)
    unfolding meta_of
    record-kept {r} {o} {m} {offset} e e' q =
        q ∙ planned r o offset
        (omega (arith, e, range-is, small), omega (arith, e, range-is, small))
        (omega (arith, e', ordinal-is, small), omega (arith, e', ordinal-is, small))
