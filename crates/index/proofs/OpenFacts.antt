-- What is known of bytes and a record that come from one opening: one record of facts, and that opening gives it.
use mathlib.Core.Path.{◌≡◌, refl, sym, subst}
use Rattle.std.specs.Prelude.{Ok}
use mathlib.Core.List.{List}
use Prim.Native.Nat.{ℕ, zero, suc, ◌+◌, ◌-◌, ◌*◌, ◌^◌, ◌≤◌, ◌<◌}
use native.Mathlib.Omega.{arith}
use lib.ListN.{length}
use Rattle.layout.proofs.GroupLengths.{group-len-some, group-len-most}
use Rattle.group.specs.Legal.{limit}
use Rattle.store.specs.Store.{group_count}
use Rattle.store.specs.Read.{StoreOk}
use Rattle.store.specs.Facts.{GroupLenOk}
use Rattle.store.proofs.Rows.{store_kept}
use Rattle.directory.specs.Read.{Sorted}
use Rattle.directory.proofs.Rules.{DirectoryOk, directory-kept}
use Rattle.directory.proofs.Opened.{opened-good, opened-sorted}
use Rattle.index.specs.declared.SSTableIndexV3.{SSTableIndexV3}
use Rattle.index.specs.Parts.{len_of_directory, directory_part, store_len, group_records_len, group_records_part, addrs_part, count_in}
use Rattle.index.specs.Parts.{block_in, last_first_ordinal}
use Rattle.index.specs.Opening.{file_no, open_no, opened_of, step_of_open, open_def, OpensBy, least_terms, group_of, Opens}
use Rattle.index.specs.Lookups.{directory_at, metas_at, addrs_at, OpenedFits}
use Rattle.index.proofs.OpeningRows.{footer-ok, records-ok, file-ok, open-ok}

pub record OpenFacts (L : ℕ) (f : List ℕ) (opened : SSTableIndexV3) : Type 0 where
  pub group : GroupLenOk L
  pub accepted : file_no L f ≡ 0
  pub above : last_first_ordinal L f < opened.terms
  pub is : opened ≡ opened_of opened.version opened.terms f
  pub fits : OpenedFits L opened (length f)
  pub count : opened.n ≡ count_in f
  pub some : 2 ≤ count_in f
  pub few : count_in f ≤ 65536
  pub directory : directory_at opened f ≡ directory_part f
  pub metas : metas_at opened f ≡ group_records_part f
  pub addrs : addrs_at opened f ≡ addrs_part f
  pub rules : DirectoryOk (directory_part f)
  pub sorted : Sorted (directory_part f) (count_in f)
  pub ok : StoreOk L (group_records_part f) (addrs_part f) (count_in f)
  pub nonempty : 1 ≤ len_of_directory f
  pub footer : len_of_directory f + 16 ≤ length f
  pub records : group_records_len f ≡ 36 * group_count L (count_in f)
  pub within : 8 + group_records_len f ≤ store_len f

-- ---- the facts

pub opens-no : (version terms : ℕ) (f : List ℕ) (k : ℕ) (opened : SSTableIndexV3) → step_of_open k version terms f ≡ Ok opened
    → (k ≡ 0) × (opened ≡ opened_of version terms f)
opens-no version terms f zero opened e = (refl, cc)
opens-no version terms f (suc k) opened e = absurd (cc)

module _ (L version terms : ℕ) (f : List ℕ) (len : GroupLenOk L) where
  accepted-facts : open_no L version terms f ≡ 0 → OpenFacts L f (opened_of version terms f)
  unfolding opened_of
  accepted-facts e =
      let passed = open-ok L version terms f e in
      let none = file-ok L f passed.file in
      let foot = footer-ok f none.footer in
      let recs = records-ok L f none.records in
      let rule = directory-kept (directory_part f) (opened-good (directory_part f) none.directory) in
      record {
        group = len;
        accepted = passed.file;
        above = passed.above;
        is = refl;
        fits = record {
          version = passed.known;
          some = omega (arith, rule.some);
          few = rule.few;
          directory = omega (arith, foot.inside);
          metas = omega (arith, foot.inside, recs.inside);
          addrs = omega (arith, foot.inside, recs.inside);
          records = omega (arith, recs.exact);
        };
        count = refl;
        some = rule.some;
        few = rule.few;
        directory = refl;
        metas = refl;
        addrs = refl;
        rules = rule;
        sorted = opened-sorted (directory_part f) none.directory;
        ok = store_kept L (group_records_part f) (addrs_part f) (count_in f) len.some (omega (arith, rule.some)) none.store;
        nonempty = foot.some;
        footer = foot.inside;
        records = recs.exact;
        within = recs.inside;
      }

-- the least number of terms of a file that keeps its rows is a number of 64 bits
pub least-fits : (L : ℕ) (f : List ℕ) → GroupLenOk L → file_no L f ≡ 0 → least_terms L f < 2 ^ 64
unfolding last_first_ordinal block_in limit
least-fits L f len e =
    let none = file-ok L f e in
    let rule = directory-kept (directory_part f) (opened-good (directory_part f) none.directory) in
    let ok = store_kept L (group_records_part f) (addrs_part f) (count_in f) len.some (omega (arith, rule.some)) none.store in
    omega (arith, (ok.legal.numbers (count_in f - 1) (omega (arith, rule.some))).ordinal-small)

pub opens-facts-by : (L : ℕ) (f : List ℕ) (opened : SSTableIndexV3) → GroupLenOk L → OpensBy L f opened → OpenFacts L f opened
unfolding open_def
opens-facts-by L f opened len e =
    let a = opens-no opened.version opened.terms f (open_no L opened.version opened.terms f) opened e in
    subst (OpenFacts L f) (sym a.1) (accepted-facts L opened.version opened.terms f len a.0)

-- bytes open to one record for each version and number of terms
pub opens-unique : (L : ℕ) (f : List ℕ) (a b : SSTableIndexV3) → a.version ≡ b.version → a.terms ≡ b.terms → OpensBy L f a
    → OpensBy L f b → a ≡ b
opens-unique L f a b v t p q = let r : open_def L a.version a.terms f ≡ Ok b = rw (v, t) q in cc

-- ---- the groups that a record has

pub group-len : (opened : SSTableIndexV3) → GroupLenOk (group_of opened)
group-len opened = record { some = group-len-some opened.version; few = group-len-most opened.version }

pub opens-facts : (f : List ℕ) (opened : SSTableIndexV3) → Opens f opened → OpenFacts (group_of opened) f opened
opens-facts f opened e = opens-facts-by (group_of opened) f opened (group-len opened) e
