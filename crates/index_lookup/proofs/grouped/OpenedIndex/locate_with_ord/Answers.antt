-- The row of an ordinal past the terms, or the store's own search over the parts that the record names.
use Rattle.std.proofs.Common.{arith}
use Rattle.index.proofs.OpenFacts.{opens-facts-by}
use Rattle.index.proofs.Answered.{located-as}
use Rattle.index.proofs.Lookups.{ord-beyond, ord-answer}
use Rattle.index_lookup.proofs.grouped.OpenedIndex.locate_with_ord.Goals as goal

pub returns-then-ord-self : goal.returns-then-ord-self
returns-then-ord-self c =
    let s = c.args.self.now in
    ord-beyond s.group_len s.«data».now s.opened s.fits s.len c.args.ord _ (omega arith) c.no_term.ensures

pub returns : goal.returns
returns c =
    let s = c.args.self.now in
    let is = c.store.ensures in
    let found = rw (is.0, is.1) at c.binary_search_ord.ensures in
    let within = rw is.2 at found.ord_found_in in
    ord-answer s.group_len s.«data».now s.opened s.fits c.args.ord c.binary_search_ord.result (omega arith) within
    (λ o. located-as s.group_len s.«data».now s.opened (opens-facts-by _ _ _ s.len o) _ _ is.2 is.3 c.args.ord _ found.ord_found_as)
