-- A listing of bytes and a record that come from one opening: row 20 isn't hit, and its separators are those of the index.
use mathlib.Core.Path.{◌≡◌}
use mathlib.Core.Bool.{false, cond}
use mathlib.Core.List.{List}
use Prim.Native.Nat.{ℕ}
use lib.Dec.{ltb}
use lib.ListN.{length}
use Rattle.layout.proofs.Fronts.{all-kept}
use Rattle.group.specs.Rows.{or_row}
use Rattle.automaton.specs.Table.{table_no}
use Rattle.index.specs.declared.SSTableIndexV3.{SSTableIndexV3}
use Rattle.index.specs.Parts.{directory_part, count_in, separator_in}
use Rattle.index.specs.Opening.{group_of}
use Rattle.index.specs.Lookups.{opened_bad, directory_at}
use Rattle.index.proofs.Fits.{fits-passes}
use Rattle.index.proofs.OpenFacts.{OpenFacts}
use Rattle.listing.specs.Listing.{keys_outside, listing_no, separator_at, ListingLeaves}
use Rattle.listing.proofs.ListedOnce.{leaves-same}
use Rattle.listing.proofs.Outside.{outside-fronts}
use Rattle.listing.proofs.Rows.{past-20}

module _ {f : List ℕ} {opened : SSTableIndexV3} (o : OpenFacts (group_of opened) f opened) where
  pub opened-passes : opened_bad opened (length f) ≡ false
  opened-passes = fits-passes (group_of opened) opened (length f) o.fits

  pub opened_inside : keys_outside (directory_at opened f) opened.n opened.n ≡ false
  opened_inside = rw (o.directory, o.count) (all-kept (outside-fronts (directory_part f) (count_in f)) (count_in f) o.sorted.inside)

  -- rows 21 to 23, then 24, for every table and room
  pub opened-list-no : (t : List ℕ) (room : ℕ) → listing_no opened f t room ≡ or_row (table_no t) (cond (ltb room opened.n) 24 0)
  opened-list-no t room = past-20 opened f t room opened-passes opened_inside

  pub opened-separator : (i : ℕ) → separator_at opened f i ≡ separator_in f i
  unfolding separator_in
  opened-separator i = rw (o.directory, o.count)

  pub opened-leaves : (t marks written : List ℕ) (k count : ℕ) → ListingLeaves t (separator_at opened f) opened.n marks written k count
      → ListingLeaves t (separator_in f) opened.n marks written k count
  opened-leaves t marks written k count =
      leaves-same t (separator_at opened f) (separator_in f) opened.n (λ i h. opened-separator i) marks written k count
