-- The place lies inside the bytes; where there is none, it is 0 and 0.
use Rattle.std.proofs.Common.{◌≡◌, ◌≤◌, ◌+◌, ℕ, List, Option, Some, None, refl, arith, sym, ◌∙◌, length}
use Rattle.std.specs.Option.{unwrap_or}
use Rattle.index.specs.declared.SSTableIndexV3.{SSTableIndexV3}
use Rattle.index.specs.Opening.{group_of}
use Rattle.index.specs.Lookups.{place_def}
use Rattle.index.proofs.Places.{place_inside}
use Rattle.index_lookup.proofs.separator.Goals as goal

inside-or : (p : Option (ℕ × ℕ)) (len : ℕ) → ((offset n : ℕ) → p ≡ Some (offset, n) → offset + n ≤ len)
    → (unwrap_or p (0, 0)).0 + (unwrap_or p (0, 0)).1 ≤ len
inside-or None len h = omega arith
inside-or (Some at) len h = h at.0 at.1 refl

inside : (opened : SSTableIndexV3) (f : List ℕ) (id : ℕ) (p : Option (ℕ × ℕ)) (at : ℕ × ℕ) → p ≡ place_def opened f id
    → at ≡ unwrap_or p (0, 0)
    → at.0 + at.1 ≤ length f
inside opened f id p at e is =
    rw is (inside-or p (length f) (λ offset n some. place_inside (group_of opened) opened f id offset n (sym e ∙ some)))

pub overflow_add-end : goal.overflow_add-end
overflow_add-end c =
    omega (arith, inside c.args.opened c.args.«data».now c.args.block_id _ _ c.separator_place.ensures c.unwrap_or-offset.ensures)

pub slice_bounds-result-end : goal.slice_bounds-result-end
slice_bounds-result-end c =
    inside c.args.opened c.args.«data».now c.args.block_id _ _ c.separator_place.ensures c.unwrap_or-offset.ensures
