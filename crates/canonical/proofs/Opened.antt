-- The parts that an opened record names are those of the store, with all that the store's check asks; and the number of a file that is
-- refused.
use Prim.Native.Nat.{ℕ, zero, suc, ◌+◌, ◌-◌, ◌*◌, ◌≤◌, ◌<◌}
use mathlib.Core.Path.{◌≡◌, refl, sym, ap, ◌∙◌}
use mathlib.Core.Bool.{Bool, cond}
use mathlib.Core.List.{List}
use native.Mathlib.Nat.{add-sub_cancel_left, le_refl}
use native.Mathlib.Omega.{arith}
use lib.ListN.{length, take, drop}
use Rattle.layout.specs.Layout.{meta_len}
use Rattle.serialize.specs.Digits.{DigitsBelow}
use Rattle.slope.specs.Slope.{best_slope}
use Rattle.store.specs.Store.{group_count}
use Rattle.store.specs.Check.{store_no}
use Rattle.store.specs.Facts.{GroupLenOk, GroupRecordsOk}
use Rattle.store_canonical.specs.Canonical.{is_store_canonical}
use Rattle.builder.specs.Index.{Settings, settings_of}
use Rattle.index.specs.declared.SSTableIndexV3.{SSTableIndexV3}
use Rattle.std.specs.Prelude.{Err}
use Rattle.layout.specs.declared.refusals.Refusal.{Refusal}
use Rattle.layout.specs.Refusals.{number_of}
use Rattle.layout.specs.Versions.{version_no}
use Rattle.layout.proofs.Numbers.{number_positive}
use Rattle.group.specs.Rows.{or_row}
use Rattle.group.proofs.RowOrder.{or_row-first}
use Rattle.index.specs.Parts.{group_records_part, addrs_part, count_in}
use Rattle.index.specs.Opening.{file_no, opened_of, open_def, OpensBy, least_terms}
use Rattle.index.proofs.OpenFacts.{OpenFacts, opens-facts-by}
use Rattle.index.proofs.OpeningRows.{file-ok}
use Rattle.index.proofs.Terms.{least-number}
use Rattle.canonical.specs.Canonical.{canonical_no}
use Rattle.index.proofs.OpeningJoined.{length-records_part}
use Rattle.canonical.proofs.Parts.{canonical-parts}

-- a row before the file's is one before row 27, too
then-canonical : (k : ℕ) (S : Settings) (f : List ℕ) → 0 < or_row k (file_no S.len_of_group f)
    → or_row k (file_no S.len_of_group f) ≡ or_row k (canonical_no S f)
unfolding canonical_no
then-canonical zero S f some = sym (or_row-first (file_no S.len_of_group f) _ (λ z. omega arith))
then-canonical (suc k) S f some = refl

pub refused-number : (S : Settings) (version : ℕ) (f : List ℕ) (r : Refusal)
    → open_def S.len_of_group version (least_terms S.len_of_group f) f ≡ Err r
    → number_of r ≡ or_row (version_no version) (canonical_no S f)
refused-number S version f r e =
    let no = least-number S.len_of_group version f r e in
    no ∙ then-canonical (version_no version) S f (omega (arith, number_positive r, no))

module _ (L : ℕ) (f : List ℕ) (opened : SSTableIndexV3) (len : GroupLenOk L) (opens : OpensBy L f opened) where
  facts : OpenFacts L f opened
  facts = opens-facts-by L f opened len opens

  -- the address bytes stand behind the records, and inside the file
  pub in_order : opened.metas + opened.metas_len ≡ opened.addrs
  unfolding opened_of
  in_order = rw facts.is

  pub inside : opened.addrs + opened.addrs_len ≤ length f
  inside = facts.fits.addrs

  records-lent : take (opened.addrs - opened.metas) (drop opened.metas f) ≡ group_records_part f
  records-lent = rw (← in_order, add-sub_cancel_left opened.metas opened.metas_len) facts.metas

  addrs-lent : take (opened.addrs + opened.addrs_len - opened.addrs) (drop opened.addrs f) ≡ addrs_part f
  addrs-lent = rw (add-sub_cancel_left opened.addrs opened.addrs_len) facts.addrs

  -- what the store's check asks of them
  pub records-exact : length (take (opened.addrs - opened.metas) (drop opened.metas f)) ≡ meta_len * group_count L opened.n
  records-exact = rw (records-lent, facts.count) (length-records_part L f facts.accepted)

  pub records-enough : GroupRecordsOk L (take (opened.addrs - opened.metas) (drop opened.metas f)) opened.n
  records-enough = record { some = facts.fits.some; few = facts.fits.few; long = rw records-exact (le_refl _) }

  pub store_kept : store_no L (take (opened.addrs - opened.metas) (drop opened.metas f))
      (take (opened.addrs + opened.addrs_len - opened.addrs) (drop opened.addrs f)) opened.n ≡ 0
  store_kept = rw (records-lent, addrs-lent, facts.count) (file-ok L f facts.accepted).store

  -- and the number by its answer
  pub number_by : (r : Bool) → DigitsBelow 8 f
      → r ≡ is_store_canonical best_slope L (take (opened.addrs - opened.metas) (drop opened.metas f))
      (take (opened.addrs + opened.addrs_len - opened.addrs) (drop opened.addrs f)) opened.n
      → cond r 0 27 ≡ canonical_no (settings_of L) f
  number_by r bytes e =
      let same : r ≡ is_store_canonical best_slope L (group_records_part f) (addrs_part f) (count_in f) = rw (
        records-lent,
        addrs-lent,
        facts.count,
      ) at e in
      ap (λ (t : Bool). cond t 0 27) same ∙ sym (canonical-parts (settings_of L) f len bytes facts.accepted)
