-- A listing in a written index: for every table and room its number, and for every call what it leaves in the marks.
use Prim.Native.Nat.{ℕ, ◌<◌}
use mathlib.Core.Path.{◌≡◌, subst, ◌∙◌}
use mathlib.Core.List.{List, []}
use mathlib.Core.Bool.{cond}
use lib.Dec.{ltb}
use lib.ListN.{length, get_or}
use Rattle.layout.specs.Versions.{version_no}
use Rattle.group.specs.declared.BlockAddr.{BlockAddr}
use Rattle.group.specs.Rows.{or_row}
use Rattle.automaton.specs.Table.{table_no}
use Rattle.index.specs.Opening.{opened_of, group_of}
use Rattle.listing.specs.Listing.{listing_no, separator_at, ListingLeaves, GetBlockForAutomaton}
use Rattle.listing.proofs.ListedOnce.{leaves-same}
use Rattle.listing.proofs.ListedOpened.{opened-list-no, opened-separator}
use Rattle.written_index.specs.Written.{WrittenIndex, last_first, IndexRead, ListingRead}
use Rattle.written_index.proofs.IndexRead.{written-facts, index_read}

module _ {choose : List ℕ → ℕ} {bs : List BlockAddr} {ks : List (List ℕ)} {f : List ℕ} (version terms : ℕ)
    (good : version_no version ≡ 0) (w : WrittenIndex choose (group_of (opened_of version terms f)) bs ks f)
    (above : last_first bs < terms) where
  reads : IndexRead (group_of (opened_of version terms f)) (length bs) version terms bs ks f
  reads = index_read w version terms good above

  number : (t : List ℕ) (room : ℕ)
      → listing_no (opened_of version terms f) f t room ≡ or_row (table_no t) (cond (ltb room (length bs)) 24 0)
  number t room = opened-list-no (written-facts w version terms good above) t room ∙ rw reads.count

  leaves : (t marks written : List ℕ) (k count : ℕ) → GetBlockForAutomaton f (opened_of version terms f) t marks written k count
      → ListingLeaves t (λ i. get_or ks i []) (length bs) marks written k count
  leaves t marks written k count g =
      leaves-same t (separator_at (opened_of version terms f) f) (λ i. get_or ks i []) (length bs)
      (λ i h. opened-separator (written-facts w version terms good above) i ∙ reads.separator i h) marks written k count
      (subst (λ (n : ℕ). ListingLeaves t (separator_at (opened_of version terms f) f) n marks written k count) reads.count g.leaves)

  pub listing-read : ListingRead (length bs) version terms ks f
  listing-read = record { number = number; leaves = leaves }
