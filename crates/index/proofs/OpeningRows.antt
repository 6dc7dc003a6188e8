-- Rows 30, 10 to 16 and 28 as facts over numbers: what each refusal and each pass says of the file, and the number and the answer that
-- follow.
use Prim.Native.Nat.{ℕ, ◌+◌, ◌-◌, ◌*◌, ◌≤◌, ◌<◌}
use mathlib.Core.Path.{◌≡◌, sym, ap, ◌∙◌}
use mathlib.Core.Bool.{true, false, not}
use mathlib.Core.List.{List}
use Rattle.std.specs.Prelude.{Ok, Err}
use native.Mathlib.Nat.{add-sub_cancel_left, le_refl}
use native.Mathlib.Omega.{arith}
use borrow.Author.Tests.{lt-ltb, le-ltb, le-leb, lt-leb, eq-eqb, ne_eqb, ltb-false, leb-false, eqb-true, eqb-false, not-false}
use lib.Dec.{eqb, ltb, leb}
use lib.ListN.{length, take, drop, length-drop}
use lib.Seq.{length-take-le, take-take}
use Rattle.serialize.specs.Digits.{le_val}
use Rattle.std.proofs.lemmas.Bool.{or_parts}
use Rattle.group.proofs.RowOrder.{or_row-first, or_row-zero}
use Rattle.store.specs.Store.{group_count}
use Rattle.store.specs.Facts.{GroupRecordsOk}
use Rattle.store.specs.Check.{store_no}
use Rattle.directory.specs.Read.{directory_no}
use Rattle.directory.proofs.Rules.{DirectoryOk, directory-kept}
use Rattle.directory.proofs.Opened.{opened-good}
use Rattle.index.specs.Parts.{len_of_directory, directory_part, store_len, group_records_len, group_records_part, addrs_part, count_in}
use Rattle.index.specs.Parts.{last_first_ordinal}
use Rattle.index.specs.Opening.{footer_no, group_records_bad, file_no, terms_no, open_no, opened_of, open_def}
use Rattle.index.specs.declared.SSTableIndexV3.{SSTableIndexV3}
use Rattle.index.specs.Answers.{load_no}
use Rattle.index.proofs.Refusals.{step-refused, step-number, open_no-most}
use Rattle.layout.specs.declared.refusals.Refusal.{Refusal}
use Rattle.layout.specs.Refusals.{number_of}
use Rattle.layout.specs.Versions.{version_bad, version_no}
use Rattle.layout.proofs.GroupLengths.{version-kept}
use Rattle.layout.proofs.Rows.{cond-zero}

-- ---- rows 10 and 11

pub record FooterOk (f : List ℕ) : Type 0 where
  pub some : 1 ≤ len_of_directory f
  pub inside : len_of_directory f + 16 ≤ length f

module _ (f : List ℕ) where
  pub footer-short : length f < 8 → 10 ≡ footer_no f
  unfolding footer_no
  footer-short h = simp (lt-ltb (length f) 8 h)

  module _ (long : 8 ≤ length f) where
    pub footer-none : len_of_directory f ≡ 0 → 11 ≡ footer_no f
    unfolding footer_no
    footer-none e = simp (le-ltb (length f) 8 long, eq-eqb (len_of_directory f) 0 e)

    pub footer-beyond : (len_of_directory f ≡ 0 → ⊥) → length f < len_of_directory f + 16 → 10 ≡ footer_no f
    unfolding footer_no
    footer-beyond some h = simp
        (le-ltb (length f) 8 long, ne_eqb (len_of_directory f) 0 some, lt-ltb (length f) (len_of_directory f + 16) h)

  pub footer-good : FooterOk f → footer_no f ≡ 0
  unfolding footer_no
  footer-good ok =
      simp (
        le-ltb (length f) 8 (omega (arith, ok.inside)),
        ne_eqb (len_of_directory f) 0 (λ e. omega (arith, ok.some)),
        le-ltb (length f) (len_of_directory f + 16) ok.inside,
      )

  pub footer-ok : footer_no f ≡ 0 → FooterOk f
  unfolding footer_no
  footer-ok e =
      let long = cond-zero (ltb (length f) 8) 9 _ e in
      let some = cond-zero (eqb (len_of_directory f) 0) 10 _ long.1 in
      let inside = cond-zero (ltb (length f) (len_of_directory f + 16)) 9 0 some.1 in
      let there = eqb-false (len_of_directory f) 0 some.0 in
      record { some = omega arith; inside = ltb-false (length f) (len_of_directory f + 16) inside.0 }

-- ---- the file behind a footer and a directory that pass

module _ (f : List ℕ) (footer : FooterOk f) where
  pub length-directory_part : length (directory_part f) ≡ len_of_directory f
  length-directory_part = length-take-le (len_of_directory f) f (omega (arith, footer.inside))

  module _ (opened : directory_no (directory_part f) ≡ 0) where
    pub directory-ok : DirectoryOk (directory_part f)
    directory-ok = directory-kept (directory_part f) (opened-good (directory_part f) opened)

    pub directory-long : 4 ≤ len_of_directory f
    directory-long = omega (arith, directory-ok.fits, length-directory_part)

    -- n stands at the front of the file
    pub count-front : le_val (take 4 f) ≡ count_in f
    count-front = ap le_val (sym (take-take 4 (len_of_directory f) f directory-long))

-- ---- row 14

pub record RecordsExact (L : ℕ) (f : List ℕ) : Type 0 where
  pub exact : group_records_len f ≡ 36 * group_count L (count_in f)
  pub inside : 8 + group_records_len f ≤ store_len f

module _ (L : ℕ) (f : List ℕ) where
  pub records-inexact : (group_records_len f ≡ 36 * group_count L (count_in f) → ⊥) → true ≡ group_records_bad L f
  unfolding group_records_bad
  records-inexact h = simp (ne_eqb (group_records_len f) (36 * group_count L (count_in f)) h)

  pub records-exact : group_records_len f ≡ 36 * group_count L (count_in f)
      → ltb (store_len f) (8 + group_records_len f) ≡ group_records_bad L f
  unfolding group_records_bad
  records-exact e = simp (eq-eqb (group_records_len f) (36 * group_count L (count_in f)) e)

  -- the code's test, by the directory's length d, n, the groups' count and the length read
  module _ (d n groups read : ℕ) (ed : d ≡ len_of_directory f) (en : n ≡ count_in f) (eg : groups ≡ group_count L n)
      (er : read ≡ le_val (take 8 (drop d f))) where
    needed : 36 * groups ≡ 36 * group_count L (count_in f)
    needed = rw (eg, en)

    length-read : read ≡ group_records_len f
    length-read = rw (← ed) er

    pub records-other : (read ≡ 36 * groups → ⊥) → true ≡ group_records_bad L f
    records-other h = records-inexact (λ e. h (length-read ∙ e ∙ sym needed))

    pub records-same : read ≡ 36 * groups → ltb (length f - 8 - d) (8 + 36 * groups) ≡ group_records_bad L f
    records-same e = rw (← e, length-read, ed) (records-exact (sym length-read ∙ e ∙ needed))

  pub records-good : RecordsExact L f → group_records_bad L f ≡ false
  records-good ok = sym (records-exact ok.exact) ∙ le-ltb (store_len f) (8 + group_records_len f) ok.inside

  pub records-ok : group_records_bad L f ≡ false → RecordsExact L f
  unfolding group_records_bad
  records-ok e =
      let both = or_parts (not (eqb (group_records_len f) (36 * group_count L (count_in f)))) _ e in
      record {
        exact = eqb-true (group_records_len f) (36 * group_count L (count_in f))
            (not-false (eqb (group_records_len f) (36 * group_count L (count_in f))) both.0);
        inside = ltb-false (store_len f) (8 + group_records_len f) both.1;
      }

-- ---- the parts, by the directory's length d, the records' length m and n

module _ (L : ℕ) (f : List ℕ) (d m : ℕ) (footer : FooterOk f) (ed : d ≡ len_of_directory f) (records : RecordsExact L f)
    (em : m ≡ le_val (take 8 (drop d f))) where
  metas-read : m ≡ group_records_len f
  metas-read = rw (← ed) em

  pub addrs-inside : d + 8 + m ≤ length f - 8
  addrs-inside = omega (arith, metas-read, records.inside, footer.inside)

  pub metas-part : take (d + 8 + m - (d + 8)) (drop (d + 8) f) ≡ group_records_part f
  metas-part = rw (add-sub_cancel_left (d + 8) m, metas-read, ed)

  addrs-long : length f - 8 - (d + 8 + m) ≡ store_len f - (8 + group_records_len f)
  addrs-long = omega (arith, metas-read, addrs-inside)

  pub addrs-part : take (length f - 8 - (d + 8 + m)) (drop (d + 8 + m) f) ≡ addrs_part f
  addrs-part = rw (addrs-long, metas-read, ed)

  module _ (n : ℕ) (en : n ≡ count_in f) where
    -- the records are as many as n blocks need
    pub metas-enough : 1 ≤ n → n ≤ 65536 → GroupRecordsOk L (take (d + 8 + m - (d + 8)) (drop (d + 8) f)) n
    metas-enough some few = record {
      some = some;
      few = few;
      long =
          let l : length (take (d + 8 + m - (d + 8)) (drop (d + 8) f)) ≡ m = rw (add-sub_cancel_left (d + 8) m)
          (length-take-le m (drop (d + 8) f) (omega (arith, length-drop (d + 8) f, addrs-inside))) in
          rw (l, metas-read, en, records.exact) (le_refl _);
    }

    pub opened-is : (version terms : ℕ) → ◌≡◌ {A = SSTableIndexV3} (record {
      n = n;
      directory = 0;
      directory_len = d;
      metas = d + 8;
      metas_len = m;
      addrs = d + 8 + m;
      addrs_len = length f - 8 - (d + 8 + m);
      terms = terms;
      version = version;
    }) (opened_of version terms f)
    unfolding opened_of
    opened-is version terms = rw (addrs-long, en, metas-read, ed)

-- ---- the file's number

-- no row is hit
pub record FileOk (L : ℕ) (f : List ℕ) : Type 0 where
  pub footer : footer_no f ≡ 0
  pub directory : directory_no (directory_part f) ≡ 0
  pub records : group_records_bad L f ≡ false
  pub store : store_no L (group_records_part f) (addrs_part f) (count_in f) ≡ 0

module _ (L : ℕ) (f : List ℕ) where
  pub file-footer : (footer_no f ≡ 0 → ⊥) → footer_no f ≡ file_no L f
  unfolding file_no
  file-footer h = sym (or_row-first (footer_no f) _ h)

  module _ (footer : footer_no f ≡ 0) where
    pub file-directory : (directory_no (directory_part f) ≡ 0 → ⊥) → directory_no (directory_part f) ≡ file_no L f
    unfolding file_no
    file-directory h = rw footer (sym (or_row-first (directory_no (directory_part f)) _ h))

    module _ (directory : directory_no (directory_part f) ≡ 0) where
      pub file-records : group_records_bad L f ≡ true → 14 ≡ file_no L f
      unfolding file_no
      file-records bad = simp (footer, directory, bad)

      pub file-store : group_records_bad L f ≡ false → store_no L (group_records_part f) (addrs_part f) (count_in f) ≡ file_no L f
      unfolding file_no
      file-store good = simp (footer, directory, good)

  pub file-none : FileOk L f → file_no L f ≡ 0
  file-none ok = sym (file-store ok.footer ok.directory ok.records) ∙ ok.store

  pub file-ok : file_no L f ≡ 0 → FileOk L f
  unfolding file_no
  file-ok e =
      let footer = or_row-zero (footer_no f) _ e in
      let directory = or_row-zero (directory_no (directory_part f)) _ footer.1 in
      let records = cond-zero (group_records_bad L f) 13 _ directory.1 in
      record { footer = footer.0; directory = directory.0; records = records.0; store = records.1 }

-- ---- the number of the rows behind row 30

module _ (L terms : ℕ) (f : List ℕ) where
  -- rows 10 to 16 come first
  pub terms-file : (file_no L f ≡ 0 → ⊥) → terms_no L terms f ≡ file_no L f
  unfolding terms_no
  terms-file h = or_row-first (file_no L f) _ h

  module _ (file : file_no L f ≡ 0) where
    -- then 28 for a number of terms that isn't above the last first ordinal
    pub terms-few : terms ≤ last_first_ordinal L f → terms_no L terms f ≡ 28
    unfolding terms_no
    terms-few h = rw (file, le-leb terms (last_first_ordinal L f) h)

    pub terms-enough : last_first_ordinal L f < terms → terms_no L terms f ≡ 0
    unfolding terms_no
    terms-enough h = rw (file, lt-leb terms (last_first_ordinal L f) h)

-- ---- the opening's number, and the answer

module _ (L version terms : ℕ) (f : List ℕ) where
  -- row 30 comes before all others
  pub open-unknown : (version_no version ≡ 0 → ⊥) → open_no L version terms f ≡ version_no version
  unfolding open_no
  open-unknown bad = or_row-first (version_no version) _ bad

  -- of a version that there is the rows behind it decide
  pub open-known : version_no version ≡ 0 → open_no L version terms f ≡ terms_no L terms f
  unfolding open_no
  open-known good = rw good

  pub record OpenOk : Type 0 where
    pub known : version_bad version ≡ false
    pub file : file_no L f ≡ 0
    pub above : last_first_ordinal L f < terms

  pub open-ok : open_no L version terms f ≡ 0 → OpenOk
  unfolding open_no terms_no
  open-ok e =
      let first = or_row-zero (version_no version) _ e in
      let rows = or_row-zero (file_no L f) _ first.1 in
      let enough = (cond-zero (leb terms (last_first_ordinal L f)) 27 0 rows.1).0 in
      record { known = version-kept version first.0; file = rows.0; above = leb-false terms (last_first_ordinal L f) enough }

  pub open-refused : (r : Refusal) → number_of r ≡ open_no L version terms f → Err r ≡ open_def L version terms f
  unfolding open_def
  open-refused r e = rw (← e) (sym (step-refused version terms f r))

  pub open-taken : open_no L version terms f ≡ 0 → Ok (opened_of version terms f) ≡ open_def L version terms f
  unfolding open_def
  open-taken e = simp e

  -- what opening answers has the number
  pub load-number : load_no (open_def L version terms f) ≡ open_no L version terms f
  unfolding open_def
  load-number = step-number version terms f (open_no L version terms f) (omega (arith, open_no-most L version terms f))
