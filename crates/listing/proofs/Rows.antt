-- The rows of a listing in their order: a row that is hit decides, and one that isn't leaves those after it.
use mathlib.Core.Path.{◌≡◌, sym, ◌∙◌}
use mathlib.Core.Bool.{Bool, true, false, cond}
use mathlib.Core.List.{List}
use Prim.Native.Nat.{ℕ, ◌≤◌, ◌<◌}
use lib.Dec.{ltb}
use lib.ListN.{length}
use borrow.Author.Tests.{lt-ltb, le-ltb}
use Rattle.group.specs.Rows.{or_row}
use Rattle.group.proofs.RowOrder.{or_row-first}
use Rattle.automaton.specs.Table.{table_no}
use Rattle.index.specs.declared.SSTableIndexV3.{SSTableIndexV3}
use Rattle.index.specs.Opening.{group_of}
use Rattle.index.specs.Lookups.{opened_bad, OpenedFits, directory_at}
use Rattle.index.proofs.Fits.{fits-passes}
use Rattle.listing.specs.Listing.{keys_outside, listing_no}

module _ (opened : SSTableIndexV3) (f t : List ℕ) (room : ℕ) where
  pub record-refused : opened_bad opened (length f) ≡ true → listing_no opened f t room ≡ 20
  unfolding listing_no
  record-refused e = rw e

  module _ (fits : opened_bad opened (length f) ≡ false) where
    pub keys-refused : keys_outside (directory_at opened f) opened.n opened.n ≡ true → listing_no opened f t room ≡ 20
    unfolding listing_no
    keys-refused e = rw (fits, e)

    module _ (inside : keys_outside (directory_at opened f) opened.n opened.n ≡ false) where
      pub past-20 : listing_no opened f t room ≡ or_row (table_no t) (cond (ltb room opened.n) 24 0)
      unfolding listing_no
      past-20 = rw (fits, inside)

      pub table-refused : (table_no t ≡ 0 → ⊥) → listing_no opened f t room ≡ table_no t
      table-refused h = past-20 ∙ or_row-first (table_no t) _ h

      pub room-refused : table_no t ≡ 0 → room < opened.n → listing_no opened f t room ≡ 24
      room-refused e h = rw (past-20, e, lt-ltb room opened.n h)

      pub none-refused : table_no t ≡ 0 → opened.n ≤ room → listing_no opened f t room ≡ 0
      none-refused e h = rw (past-20, e, le-ltb room opened.n h)

-- ---- the record and the directory, as the code has them
module _ {L K : ℕ} {o : SSTableIndexV3} {d : List ℕ} (opened : SSTableIndexV3) (f : List ℕ) (len : K ≡ group_of opened)
    (is : (o ≡ opened) × (d ≡ f) × (L ≡ K)) where
  pub same-directory : {n : ℕ} {b : List ℕ} → (n ≡ o.n) × (b ≡ directory_at o d) → (b ≡ directory_at opened f) × (n ≡ opened.n)
  same-directory e = (rw (is.0, is.1) at e.1, rw is.0 at e.0)

  -- a record that fits, and the answer on its keys
  pub keys-tried : OpenedFits L o (length d) → {n : ℕ} {b : List ℕ} → (n ≡ o.n) × (b ≡ directory_at o d)
      → {t : Bool} → t ≡ keys_outside b n n
      → (opened_bad opened (length f) ≡ false) × (keys_outside (directory_at opened f) opened.n opened.n ≡ t)
  keys-tried h e told = (
    fits-passes (group_of opened) opened (length f) (rw (is.0, is.1, is.2, len) at h),
    rw (← (same-directory e).0, ← (same-directory e).1) (sym told),
  )
