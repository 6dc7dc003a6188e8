-- The listing call (rows 20 to 24), for all inputs.
use Rattle.std.specs.Prelude.{ℕ, zero, suc, ◌<◌, ◌≡◌, List, Bool, false, ◌||◌, cond, ltb, length, Result, Ok, Err}
use Rattle.std.proofs.lemmas.List.Edits.{sets}
use Rattle.layout.specs.declared.refusals.Refusal.{Refusal}
use Rattle.layout.specs.Refusals.{number_of, no_of}
use Rattle.group.specs.Rows.{or_row}
use Rattle.automaton.specs.Table.{table_no}
use Rattle.directory.specs.Read.{key_of, key_outside}
use Rattle.index.specs.declared.SSTableIndexV3.{SSTableIndexV3}
use Rattle.index.specs.Lookups.{opened_bad, directory_at}
use Rattle.listing.specs.Marks.{Marks, count_ones}

-- one of the first m keys or its pair lies outside the bytes
unfoldable pub keys_outside : List ℕ → ℕ → ℕ → Bool
keys_outside d n zero = false
keys_outside d n (suc m) = keys_outside d n m || key_outside d n m

-- rows 20, then 21 to 23, then 24: under n bytes; 0 where none is hit
unfoldable pub listing_no : SSTableIndexV3 → List ℕ → List ℕ → ℕ → ℕ
listing_no opened f t room =
    cond (opened_bad opened (length f) || keys_outside (directory_at opened f) opened.n opened.n) 20
    (or_row (table_no t) (cond (ltb room opened.n) 24 0))

-- separator i as a listing reads it
abbrev pub separator_at : SSTableIndexV3 → List ℕ → ℕ → List ℕ
separator_at opened f i = key_of (directory_at opened f) opened.n i

-- n marks were written, and the bytes behind them stay
pub record Listing (t : List ℕ) (separator : ℕ → List ℕ) (n : ℕ) (marks written : List ℕ) (count : ℕ) : Type 0 where
  pub list : List ℕ
  pub right : Marks t separator n list
  pub counted : count ≡ count_ones list
  pub bytes : written ≡ sets marks 0 list

-- what a call with number k leaves in the marks: the listing, or what was there
pub record ListingLeaves (t : List ℕ) (separator : ℕ → List ℕ) (n : ℕ) (marks written : List ℕ) (k count : ℕ) : Type 0 where
  pub taken : k ≡ 0 → Listing t separator n marks written count
  pub refused : 0 < k → (count ≡ 0) × (written ≡ marks)

-- what a listing promises of its number k, its count and the marks
pub record GetBlockForAutomaton (f : List ℕ) (opened : SSTableIndexV3) (t marks written : List ℕ) (k count : ℕ) : Type 0 where
  pub number : k ≡ listing_no opened f t (length marks)
  pub leaves : ListingLeaves t (separator_at opened f) opened.n marks written k count

-- the number and the count of each answer; a refusal has all else zero, and a number above 0
abbrev pub listed_no : Result ℕ Refusal → ℕ
listed_no = no_of

abbrev pub listed_count : Result ℕ Refusal → ℕ
listed_count (Ok count) = count
listed_count (Err refusal) = 0

abbrev pub ListedCased : Result ℕ Refusal → Type 0
ListedCased (Ok count) = Unit {0}
ListedCased (Err refusal) = 0 < number_of refusal
