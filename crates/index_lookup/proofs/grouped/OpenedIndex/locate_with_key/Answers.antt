-- The directory's own search, in the part that the record names.
use Rattle.index.proofs.OpenFacts.{opens-facts-by}
use Rattle.index.proofs.Answered.{found_as}
use Rattle.index.proofs.Lookups.{key-answer}
use Rattle.index_lookup.proofs.grouped.OpenedIndex.locate_with_key.Goals as goal

pub returns : goal.returns
returns c =
    let s = c.args.self.now in
    let is = c.directory.ensures in
    let found = rw is.0 at c.locate_with_key.ensures in
    key-answer s.group_len s.«data».now s.opened s.fits c.args.key.now c.locate_with_key.result found.found_in
    (λ o. found_as s.group_len s.«data».now s.opened (opens-facts-by _ _ _ s.len o) _ is.1 c.args.key.now _ found.found_as)
