-- The record names the store's parts, and in these alone the file can differ from the index made anew.
use Rattle.std.proofs.Common.{Bool, cond, arith, sym, ap, ◌∙◌}
use Rattle.canonical.proofs.Opened.{in_order, inside, records-exact, records-enough, store_kept, number_by}
use Rattle.canonical.proofs.check_store.Goals as goal

pub overflow_add-end : goal.overflow_add-end
overflow_add-end c = let a = c.args in omega (arith, inside a.group_len a.«data».now a.opened c.requires.0 c.requires.1)

pub slice_bounds-store-count : goal.slice_bounds-store-count
slice_bounds-store-count c = let a = c.args in omega (arith, in_order a.group_len a.«data».now a.opened c.requires.0 c.requires.1)

pub slice_bounds-store-start : goal.slice_bounds-store-start
slice_bounds-store-start c = let a = c.args in omega (arith, in_order a.group_len a.«data».now a.opened c.requires.0 c.requires.1)

pub slice_bounds-store-end : goal.slice_bounds-store-end
slice_bounds-store-end c = let a = c.args in omega (arith, inside a.group_len a.«data».now a.opened c.requires.0 c.requires.1)

pub slice_bounds-store-end-2 : goal.slice_bounds-store-end-2
slice_bounds-store-end-2 c = let a = c.args in omega (arith, inside a.group_len a.«data».now a.opened c.requires.0 c.requires.1)

pub invariant_of-store : goal.invariant_of-store
invariant_of-store c = let a = c.args in record {
  len = c.requires.0;
  records = records-enough a.group_len a.«data».now a.opened
      c.requires.0 c.requires.1;
}

pub store_canonical-requires : goal.store_canonical-requires
store_canonical-requires c = let a = c.args in (
  records-exact a.group_len a.«data».now a.opened c.requires.0 c.requires.1,
  store_kept a.group_len a.«data».now a.opened c.requires.0 c.requires.1,
)

pub returns-then-store_canonical : goal.returns-then-store_canonical
returns-then-store_canonical c =
    let a = c.args in
    sym (ap (λ (t : Bool). cond t 0 27) c.if-store_canonical.true)
    ∙ number_by a.group_len a.«data».now a.opened c.requires.0 c.requires.1 c.store_canonical.result (λ k.
    (c.type_inv.«data» k).fits) c.store_canonical.ensures

pub returns-else-store_canonical : goal.returns-else-store_canonical
returns-else-store_canonical c =
    let a = c.args in
    sym (ap (λ (t : Bool). cond t 0 27) c.if-store_canonical.false)
    ∙ number_by a.group_len a.«data».now a.opened c.requires.0 c.requires.1 c.store_canonical.result (λ k.
    (c.type_inv.«data» k).fits) c.store_canonical.ensures
