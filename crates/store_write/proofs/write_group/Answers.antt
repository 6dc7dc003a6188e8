-- The planned record's bytes, then the bits behind them, into what is left of the output from their place on.
use Rattle.std.proofs.Common.{◌≡◌, ℕ, ◌+◌, ◌-◌, ◌*◌, ◌≤◌, List, [], ◌∷◌, length, get_or, take, drop, length-take, length-drop, refl, sym}
use Rattle.std.proofs.Common.{ap, ◌∙◌, arith}
use borrow.Rule.Slice.PartMut.{put_mid}
use native.Mathlib.Nat.{add-zero}
use lib.Seq.{length-sets}
use Rattle.std.proofs.lemmas.List.Edits.{sets}
use Rattle.serialize.proofs.Stores.{sets-in-part}
use Rattle.slope.specs.Slope.{best_slope}
use Rattle.slope.proofs.Widths.{best_slope-lt}
use Rattle.group.specs.Meta.{meta_bytes}
use Rattle.group.proofs.Blocks.{length-blocks_at}
use Rattle.group_write.specs.Group.{blocks_of}
use Rattle.group_write.specs.declared.AreaGroup.{AreaGroup}
use Rattle.store.specs.Store.{group_addrs}
use Rattle.store.specs.Plans.{group_plan, StandsAt}
use Rattle.store.proofs.Stored.{planned-record, planned-bits, planned-fits}
use Rattle.store.proofs.Plans.{standing-two, length-group_plan, kept-plan}
use Rattle.store_write.proofs.write_group.Goals as goal

-- the two numbers of the plan
two : (group : AreaGroup) (kept : List ℕ) (g : ℕ) → StandsAt kept (2 * g) (group_plan best_slope (blocks_of group))
    → (2 * g + 2 ≤ length kept) × (get_or kept (2 * g) 0 ∷ get_or kept (2 * g + 1) 0 ∷ [] ≡ group_plan best_slope (blocks_of group))
two group kept g stands =
    standing-two kept (2 * g) _
    (length-group_plan best_slope (blocks_of group)
    (rw (length-blocks_at group.area.now group.stride group.first group.count) group.ok.some)) stands

-- what is lent from `at` on
part_room : (l : List ℕ) (at k : ℕ) → at + k ≤ length l → k ≤ length (take (length l - at) (drop at l))
part_room l at k h = rw (length-take (length l - at) (drop at l), length-drop at l) (omega arith)

-- and after a store
rest-room : (out l w : List ℕ) (i at k : ℕ) → l ≡ sets out i w → at + k ≤ length out → k ≤ length (take (length l - at) (drop at l))
rest-room out l w i at k e h = part_room l at k (omega (arith, ap length e, length-sets out i w))

-- a store into what is lent from `at` on
put-part : (l l' v w : List ℕ) (at : ℕ) → l' ≡ sets (take (length l - at) (drop at l)) 0 v → v ≡ w
    → put_mid at (length l - at) l l' ≡ sets l at w
put-part l l' v w at e is = ap (put_mid at (length l - at) l) e ∙ sets-in-part l v at 0 ∙ rw (add-zero at, is)

pub overflow_mul-plan : goal.overflow_mul-plan
overflow_mul-plan c = omega (arith, (two c.args.group.now c.args.kept.now c.args.g c.requires.0).0)

pub offset_bounds-kept-plan : goal.offset_bounds-kept-plan
offset_bounds-kept-plan c = omega (arith, (two c.args.group.now c.args.kept.now c.args.g c.requires.0).0)

pub bounds-kept-plan : goal.bounds-kept-plan
bounds-kept-plan c = omega (arith, (two c.args.group.now c.args.kept.now c.args.g c.requires.0).0)

pub overflow_add-plan : goal.overflow_add-plan
overflow_add-plan c = omega (arith, (two c.args.group.now c.args.kept.now c.args.g c.requires.0).0)

pub offset_bounds-kept-plan-2 : goal.offset_bounds-kept-plan-2
offset_bounds-kept-plan-2 c = omega (arith, (two c.args.group.now c.args.kept.now c.args.g c.requires.0).0)

pub bounds-kept-plan-2 : goal.bounds-kept-plan-2
bounds-kept-plan-2 c = omega (arith, (two c.args.group.now c.args.kept.now c.args.g c.requires.0).0)

pub planned_block-meta-requires : goal.planned_block-meta-requires
planned_block-meta-requires c =
    let group = c.args.group.now in
    (two group c.args.kept.now c.args.g c.requires.0).1 ∙ sym (kept-plan best_slope _ _ _ _ group.ok.some refl)

pub flush_block-requires : goal.flush_block-requires
flush_block-requires c =
    let group = c.args.group.now.ok in
    let place = c.args.place in
    let plan = c.planned_block-meta in (
      planned-fits best_slope group place.offset plan.ensures best_slope-lt,
      rw (planned-bits best_slope group place.offset plan.ensures)
          (rest-room c.args.out.now _ (meta_bytes plan.result) place.meta_at _ _ c.serialize.ensures c.requires.1),
    )

pub returns : goal.returns
returns c =
    let group = c.args.group.now in
    let place = c.args.place in
    let plan = c.planned_block-meta in
    let addrs = group_addrs best_slope (blocks_of group) in
    let bits = planned-bits best_slope group.ok place.offset plan.ensures in
    let record-put = planned-record best_slope group.ok place.offset plan.ensures in (
      c.flush_block.ensures.0 ∙ ap length bits,
      put-part _ _ _ addrs place.at c.flush_block.ensures.1 bits
          ∙ ap (λ (l : List ℕ). sets l place.at addrs) (rw record-put at c.serialize.ensures),
    )
