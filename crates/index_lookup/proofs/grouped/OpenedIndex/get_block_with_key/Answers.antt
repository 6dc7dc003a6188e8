-- The directory's answer, then the store's.
use Rattle.std.proofs.Common.{◌≡◌, Ok, arith, List, ℕ, Result}
use Rattle.std.proofs.lemmas.Result.{err_from_is_err_and}
use Rattle.layout.specs.declared.refusals.Refusal.{Refusal}
use Rattle.store.specs.Facts.{GroupLenOk}
use Rattle.directory.specs.Read.{Sorted, key_of, FoundIn, FoundAs}
use Rattle.index.specs.declared.SSTableIndexV3.{SSTableIndexV3}
use Rattle.index.specs.Parts.{separator_in}
use Rattle.index.specs.Opening.{OpensBy}
use Rattle.index.specs.Lookups.{directory_at}
use Rattle.index.proofs.OpenFacts.{opens-facts-by}
use Rattle.index.proofs.Answered.{found_as}
use Rattle.index.proofs.Lookups.{addr-refused, addr-unread, addr-answer}
use Rattle.index_lookup.proofs.grouped.OpenedIndex.get_block_with_key.Goals as goal

-- what the directory finds, said of the file
found-in-file : (L : ℕ) (f : List ℕ) (opened : SSTableIndexV3) → GroupLenOk L → (d : List ℕ) (n : ℕ) → (n ≡ opened.n)
    × (d ≡ directory_at opened f)
    → (key : List ℕ) (r : Result ℕ Refusal) → (Sorted d n → FoundAs (key_of d n) n key r) → OpensBy L f opened
    → FoundAs (separator_in f) opened.n key r
found-in-file L f opened len d n is key r h o = found_as L f opened (opens-facts-by L f opened len o) d is.1 key r (rw is.0 at h)

pub returns-in_default : goal.returns-in_default
returns-in_default c =
    let s = c.args.self.now in
    let is = c.directory.ensures in
    let answer = rw c.unwrap_err.ensures at c.locate_with_key-found.ensures in
    addr-refused s.group_len s.«data».now s.opened s.fits c.args.key.now c.unwrap_err.result (rw is.0 at answer.found_in)
    (found-in-file s.group_len s.«data».now s.opened s.len _ _ is c.args.key.now _ answer.found_as)

pub block-requires : goal.block-requires
unfolding FoundIn
block-requires c = omega (arith, c.in-Ok.ensures.found_in, c.directory.ensures.0)

pub returns-in_err-addr : goal.returns-in_err-addr
returns-in_err-addr c =
    let s = c.args.self.now in
    let p = err_from_is_err_and c.from_residual.result c.from_residual.ensures.1 in
    rw (p.1, p.2) (addr-unread s.group_len s.«data».now s.opened s.fits c.args.key.now _ c.in_err-addr.ensures.0 c.in_err-addr.ensures.1)

pub returns : goal.returns
unfolding FoundIn FoundAs
returns c =
    let s = c.args.self.now in
    let is = c.directory.ensures in
    addr-answer s.group_len s.«data».now s.opened s.fits c.args.key.now c.in-Ok.block_id c.in_ok-addr.addr
    (omega (arith, c.in-Ok.ensures.found_in, is.0))
    (found-in-file s.group_len s.«data».now s.opened s.len _ _ is c.args.key.now (Ok c.in-Ok.block_id) c.in-Ok.ensures.found_as)
    c.in_ok-addr.ensures.0 c.in_ok-addr.ensures.1
