-- Which numbers of terms open a file of a version that there is: all above its last first ordinal. With the least of them the file's own
-- rows decide, and a record of one of them is that of any other but for that word.
use Prim.Native.Nat.{ℕ, ◌≤◌, ◌<◌}
use mathlib.Core.Path.{◌≡◌, refl, sym, ap, subst, ◌∙◌}
use mathlib.Core.List.{List}
use Rattle.std.specs.Prelude.{Ok, Err}
use native.Mathlib.Omega.{arith}
use lib.Dec.{eqb}
use borrow.Author.Tests.{eqb-true, eqb-false}
use borrow.Table.Steps.{cases}
use Rattle.layout.specs.declared.refusals.Refusal.{Refusal}
use Rattle.layout.specs.declared.refusals.Refusal.TheVariants.{TermsBad}
use Rattle.layout.specs.Refusals.{number_of}
use Rattle.layout.specs.Versions.{version_no}
use Rattle.layout.proofs.Numbers.{number_positive}
use Rattle.group.specs.Rows.{or_row}
use Rattle.group.proofs.RowOrder.{or_row-first}
use Rattle.index.specs.Parts.{last_first_ordinal}
use Rattle.index.specs.Opening.{file_no, open_no, opened_of, open_def, OpensBy, least_terms}
use Rattle.index.specs.declared.SSTableIndexV3.{SSTableIndexV3}
use Rattle.index.specs.Lookups.{opened_bad_by, place_by}
use Rattle.index.proofs.OpeningRows.{terms-file, terms-few, terms-enough, open-unknown, open-known, open-ok, open-refused, open-taken}
use Rattle.index.proofs.OpeningRows.{load-number}
use Rattle.layout.proofs.GroupLengths.{version-good}
use Rattle.index.proofs.OpenFacts.{opens-no}

-- ---- the version

-- a version that no index has is refused, whatever else is wrong
pub unknown-refused : (L version terms : ℕ) (f : List ℕ) (r : Refusal) → number_of r ≡ version_no version
    → Err r ≡ open_def L version terms f
unknown-refused L version terms f r e =
    open-refused L version terms f r
    (e ∙ sym (open-unknown L version terms f (λ z. omega (arith, number_positive r, e))))

-- a record has the version and the number of terms that it was opened with
module _ (L version terms : ℕ) (f : List ℕ) (opened : SSTableIndexV3) (e : open_def L version terms f ≡ Ok opened) where
  opened-as : (open_no L version terms f ≡ 0) × (opened ≡ opened_of version terms f)
  unfolding open_def
  opened-as = opens-no version terms f (open_no L version terms f) opened e

  pub own-version : opened.version ≡ version
  unfolding opened_of
  own-version = ap (λ (o : SSTableIndexV3). o.version) opened-as.1

  pub own-terms : opened.terms ≡ terms
  unfolding opened_of
  own-terms = ap (λ (o : SSTableIndexV3). o.terms) opened-as.1

  pub opens-own : OpensBy L f opened
  opens-own =
      subst (λ (v : ℕ). open_def L v opened.terms f ≡ Ok opened) (sym own-version)
      (subst (λ (t : ℕ). open_def L version t f ≡ Ok opened) (sym own-terms) e)

  pub own-good : version_no version ≡ 0
  own-good = version-good version (open-ok L version terms f opened-as.0).known

  pub own-file : file_no L f ≡ 0
  own-file = (open-ok L version terms f opened-as.0).file

-- ---- the least number of terms

module _ (L version : ℕ) (f : List ℕ) (good : version_no version ≡ 0) where
  -- with the least number of terms the rows of the file alone decide: 28 is never said
  pub open-least : open_no L version (least_terms L f) f ≡ file_no L f
  open-least =
      open-known L version (least_terms L f) f good
      ∙ cases (eqb (file_no L f) 0)
      (λ e. let z = eqb-true (file_no L f) 0 e in terms-enough L (least_terms L f) f z (omega arith) ∙ sym z)
      (λ e. terms-file L (least_terms L f) f (eqb-false (file_no L f) 0 e))

  pub least-refused : (r : Refusal) → number_of r ≡ file_no L f → Err r ≡ open_def L version (least_terms L f) f
  least-refused r e = open-refused L version (least_terms L f) f r (e ∙ sym open-least)

  pub least-taken : file_no L f ≡ 0 → Ok (opened_of version (least_terms L f) f) ≡ open_def L version (least_terms L f) f
  least-taken e = open-taken L version (least_terms L f) f (open-least ∙ e)

-- ---- every number of terms

module _ (L version terms : ℕ) (f : List ℕ) (good : version_no version ≡ 0) (file : file_no L f ≡ 0) where
  -- where the file keeps its rows, every number of terms above the last first ordinal opens it, and every other gets 28
  pub opens-above : last_first_ordinal L f < terms → open_def L version terms f ≡ Ok (opened_of version terms f)
  opens-above h = sym (open-taken L version terms f (open-known L version terms f good ∙ terms-enough L terms f file h))

  pub refused-below : terms ≤ last_first_ordinal L f → open_def L version terms f ≡ Err TermsBad
  refused-below h =
      sym (open-refused L version terms f TermsBad (sym (open-known L version terms f good ∙ terms-few L terms f file h)))

-- the record of another number of terms differs in that word alone
abbrev pub with_terms : SSTableIndexV3 → ℕ → SSTableIndexV3
with_terms opened terms = record {
  n = opened.n;
  directory = opened.directory;
  directory_len = opened.directory_len;
  metas = opened.metas;
  metas_len = opened.metas_len;
  addrs = opened.addrs;
  addrs_len = opened.addrs_len;
  terms = terms;
  version = opened.version;
}

-- from an opening with one number of terms to one with any other
record-terms : (L version t terms : ℕ) (f : List ℕ) (opened : SSTableIndexV3) → open_def L version t f ≡ Ok opened
    → last_first_ordinal L f < terms → open_def L version terms f ≡ Ok (with_terms opened terms)
unfolding open_def opened_of
record-terms L version t terms f opened e h =
    let a = opened-as L version t f opened e in
    let same : with_terms opened terms ≡ opened_of version terms f = ap (λ (o : SSTableIndexV3). with_terms o terms) a.1 in
    rw same (opens-above L version terms f (own-good L version t f opened e) (own-file L version t f opened e) h)

pub opens-other : (L : ℕ) (f : List ℕ) (opened : SSTableIndexV3) (terms : ℕ) → OpensBy L f opened → last_first_ordinal L f < terms
    → OpensBy L f (with_terms opened terms)
opens-other L f opened terms e h = record-terms L opened.version opened.terms terms f opened e h

-- row 20 and the places of separators don't look at that word
pub unfit-other : (L len terms : ℕ) (opened : SSTableIndexV3) → opened_bad_by L (with_terms opened terms) len ≡ opened_bad_by L opened len
unfolding opened_bad_by
unfit-other L len terms opened = refl

pub place-other : (L id terms : ℕ) (f : List ℕ) (opened : SSTableIndexV3)
    → place_by L (with_terms opened terms) f id ≡ place_by L opened f id
unfolding place_by opened_bad_by
place-other L id terms f opened = refl

-- ---- from an opening with the least number to one with any other

-- the number of bytes that don't open with the least number of terms: 30, or that of the file's own rows
pub least-number : (L version : ℕ) (f : List ℕ) (r : Refusal) → open_def L version (least_terms L f) f ≡ Err r
    → number_of r ≡ or_row (version_no version) (file_no L f)
least-number L version f r e =
    let no : number_of r ≡ open_no L version (least_terms L f) f = rw e at (load-number L version (least_terms L f) f) in
    no
    ∙ cases (eqb (version_no version) 0)
    (λ t. let z = eqb-true (version_no version) 0 t in open-least L version f z ∙ rw z)
    (λ t. let some = eqb-false (version_no version) 0 t in
    open-unknown L version (least_terms L f) f some ∙ sym (or_row-first (version_no version) _ some))

module _ (L version terms : ℕ) (f : List ℕ) where
  pub least-none : (r : Refusal) → open_def L version (least_terms L f) f ≡ Err r → Err r ≡ open_def L version terms f
  least-none r e =
      let no = least-number L version f r e in
      open-refused L version terms f r (no ∙
      cases (eqb (version_no version) 0)
      (λ t. let z = eqb-true (version_no version) 0 t in
      let file : number_of r ≡ file_no L f = rw z at no in
      rw z (sym (open-known L version terms f z ∙ terms-file L terms f (λ y. omega (arith, number_positive r, file)))))
      (λ t. let some = eqb-false (version_no version) 0 t in
      or_row-first (version_no version) _ some ∙ sym (open-unknown L version terms f some)))

  module _ (least : SSTableIndexV3) (e : open_def L version (least_terms L f) f ≡ Ok least) where
    least-is : least.terms ≡ least_terms L f
    least-is = own-terms L version (least_terms L f) f least e

    pub least-few : terms < least.terms → Err TermsBad ≡ open_def L version terms f
    least-few h =
        sym (refused-below L version terms f (own-good L version (least_terms L f) f least e)
        (own-file L version (least_terms L f) f least e) (omega (arith, least-is)))

    pub least-enough : least.terms ≤ terms → Ok (with_terms least terms) ≡ open_def L version terms f
    least-enough h = sym (record-terms L version (least_terms L f) terms f least e (omega (arith, least-is)))
