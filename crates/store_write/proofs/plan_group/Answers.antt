-- Each slope is kept with its width, and the record says how many bytes the bits take.
use Rattle.std.proofs.Common.{◌≡◌, ℕ, ◌+◌, ◌*◌, List, [], ◌∷◌, set, sym, ◌∙◌, add-one, arith}
use Rattle.std.proofs.lemmas.List.Edits.{sets}
use Rattle.slope.specs.Slope.{best_slope}
use Rattle.slope.proofs.Widths.{best_slope-lt}
use Rattle.group.specs.Write.{plan_of}
use Rattle.group.specs.declared.BlockAddrBlockMetadata.{BlockAddrBlockMetadata}
use Rattle.group.proofs.Blocks.{length-group}
use Rattle.store.proofs.Stored.{planned-fits, planned-length}
use Rattle.store.proofs.Plans.{kept-plan}
use Rattle.store_write.proofs.plan_group.Goals as goal

-- two numbers side by side
put : (d w : List ℕ) (i x y : ℕ) → x ∷ y ∷ [] ≡ w → set (set d i x) (i + 1) y ≡ sets d i w
put d w i x y e = rw (sym e, add-one i)

plan-of : (m : BlockAddrBlockMetadata) (x y : ℕ) → x ≡ 256 * m.range_start_slope + m.range_start_nbits
    → y ≡ 256 * m.first_ordinal_slope + m.first_ordinal_nbits → x ∷ y ∷ [] ≡ plan_of m
unfolding plan_of
plan-of m x y e e' = rw (e, e')

pub addr_len-requires : goal.addr_len-requires
addr_len-requires c =
    let group = c.args.group.now.ok in
    let fit = planned-fits best_slope group 0 c.plan_block-meta.ensures best_slope-lt in
    (fit.ranges.high, fit.ordinals.high, omega (arith, fit.blocks, length-group group, group.few))

pub returns : goal.returns
returns c =
    let planned = c.plan_block-meta in
    let group = c.args.group.now.ok in (
      c.addr_len.ensures ∙ planned-length best_slope group 0 planned.ensures best_slope-lt,
      put _ _ _ _ _
          (plan-of planned.result _ _ c.packed.ensures c.packed-2.ensures ∙ kept-plan best_slope _ _ _ _ group.some planned.ensures),
    )
