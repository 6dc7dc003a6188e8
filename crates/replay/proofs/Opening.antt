-- A list's first total bytes open as the entries' index or get 28, and pass the check; or are none and get 10, or 30, from both.
use Prim.Native.Nat.{ℕ, ◌≤◌, ◌<◌}
use mathlib.Core.Path.{◌≡◌, refl, sym, ap, subst, ◌∙◌}
use mathlib.Core.List.{List, []}
use mathlib.Core.Bool.{true, false, cond}
use mathlib.Core.Logic.{⊎_elim}
use native.Mathlib.Omega.{arith}
use lib.Dec.{eqb, leb}
use lib.ListN.{length, take}
use borrow.Author.Tests.{eqb-true, eqb-false, leb-true, leb-false}
use borrow.Table.Steps.{cases}
use Rattle.serialize.proofs.Stores.{sets-part}
use Rattle.builder.specs.Calls.{builder_of}
use Rattle.builder.specs.Index.{Settings, settings}
use Rattle.builder.specs.Finish.{Finish, unwritten}
use Rattle.builder.specs.declared.SSTableIndexBuilder.{SSTableIndexBuilder}
use Rattle.machine.specs.Plain.{Entry, plain_index}
use Rattle.machine.specs.Finished.{plain_finish, plain_finish_in}
use Rattle.machine.proofs.PlainFinish.{plain-none, plain-refused, plain-taken, plain-number}
use Rattle.machine.proofs.FinishIn.{plain-unknown, plain-known}
use Rattle.std.specs.Prelude.{Result, Ok, Err}
use Rattle.layout.specs.declared.refusals.Refusal.{Refusal}
use Rattle.layout.specs.declared.refusals.Refusal.TheVariants.{FileShort, TermsBad, VersionBad}
use Rattle.layout.specs.Versions.{version_bad, group_len_of}
use Rattle.layout.proofs.GroupLengths.{version-good, version-refused}
use Rattle.index.specs.declared.SSTableIndexV3.{SSTableIndexV3}
use Rattle.index.specs.Opening.{footer_no, file_no, terms_no, load_def, opened_of}
use Rattle.index.proofs.OpeningRows.{open-known, open-refused}
use Rattle.index.proofs.Terms.{unknown-refused}
use Rattle.canonical.specs.Canonical.{canonical_no, check_no}
use Rattle.canonical.proofs.Versions.{check-unknown, check-known}
use Rattle.demands.specs.Demand3.{Finishes, last_first_of, index_of_calls}
use Rattle.replay_format.specs.Format.{calls, list_terms, list_version}
use Rattle.replay.specs.Made.{finish_settings, fresh_of, entries_of, finish_of_list, open_number, check_number}
use Rattle.replay.specs.Asked.{OpenedAs, CheckedAs}
use Rattle.replay.proofs.Entries.{list-demand, list-finish}

-- ---- a finish of entries

-- its first total bytes are the index, or none
pub record FinishParts (S : Settings) (es : List Entry) (out : List ℕ) (f : Finish) : Type 0 where
  pub fits : f.total ≤ length out
  pub none : f.total ≡ 0 → take f.total f.out ≡ []
  pub some : (f.total ≡ 0 → ⊥) → take f.total f.out ≡ plain_index S es
  pub two : (f.total ≡ 0 → ⊥) → 2 ≤ length es
  pub taken : (f.total ≡ 0 → ⊥) → f.no ≡ 0

module _ (S : Settings) (es : List Entry) (out : List ℕ) where
  take_none : (n : ℕ) (l : List ℕ) → n ≡ 0 → take n l ≡ []
  take_none n l e = rw e

  has-two : (length (plain_index S es) ≡ 0 → ⊥) → 2 ≤ length es
  has-two f = grind (arith, plain-none es S, f)

  -- a refused finish writes nothing
  refused-parts : (k : ℕ) (b : SSTableIndexBuilder) → FinishParts S es out (unwritten k b out)
  refused-parts k b = record {
    fits = omega arith;
    none = λ e. refl;
    some = λ f. absurd (f refl);
    two = λ f. absurd (f refl);
    taken = λ f. absurd (f refl);
  }

  plain-parts : FinishParts S es out (plain_finish S es out)
  plain-parts =
      ⊎_elim
      (λ p. subst (FinishParts S es out) (sym (plain-refused S es out p.0)) (refused-parts 9 (builder_of (length es))))
      (λ p. subst (FinishParts S es out) (sym (plain-taken S es out p.0)) (record {
        fits = p.0;
        none = λ e. take_none _ _ e;
        some = λ f. sets-part out (plain_index S es) 0 (omega (arith, p.0));
        two = has-two;
        taken = λ f. refl;
      }))
      (plain-number S es out)

pub finish-parts : (version : ℕ) (es : List Entry) (out : List ℕ) → FinishParts (settings version) es out (plain_finish_in version es out)
finish-parts version es out =
    let P = FinishParts (settings version) es out in
    cases (version_bad version)
    (λ t. subst P (sym (plain-unknown version es out t)) (refused-parts (settings version) es out 30 (builder_of (length es))))
    (λ t. subst P (sym (plain-known version es out t)) (plain-parts (settings version) es out))

-- ---- an opening and a check

module _ (S : Settings) (version terms : ℕ) (es : List Entry) (f : List ℕ) where
  -- an opening by what loading answers
  opening-as : (k : ℕ) (loaded : Result SSTableIndexV3 Refusal) → load_def version terms f ≡ loaded → OpenedAs k S terms es f loaded
      → OpenedAs k S terms es f (load_def version terms f)
  opening-as k loaded e o = rw e o

  -- a version that no index has gets 30 from both, whatever the bytes are
  opens-unknown : version_bad version ≡ true → CheckedAs 30 30 S version terms es f
  opens-unknown bad =
      let no = sym (version-refused version bad) in
      record {
        opening =
            opening-as 30 (Err VersionBad) (sym (unknown-refused (group_len_of version) version terms f VersionBad no)) (refl, omega arith);
        checked = check-unknown version f bad;
      }

-- no bytes get 10
no-bytes : (L terms : ℕ) → 10 ≡ terms_no L terms []
unfolding terms_no file_no footer_no
no-bytes L terms = refl

not-canonical : (S : Settings) → canonical_no S [] ≡ 10
unfolding canonical_no file_no footer_no
not-canonical S = refl

opens-none : (S : Settings) (version terms : ℕ) (es : List Entry) → version_bad version ≡ false → CheckedAs 10 10 S version terms es []
opens-none S version terms es known =
    let L = group_len_of version in
    let no = no-bytes L terms ∙ sym (open-known L version terms [] (version-good version known)) in
    record {
      opening =
          opening-as S version terms es [] 10 (Err FileShort) (sym (open-refused L version terms [] FileShort no)) (refl, omega arith);
      checked = check-known version [] known ∙ not-canonical (settings version);
    }

-- ---- the bytes after a list's calls and finish

module _ (s B K out : List ℕ) where
  abbrev f : Finish
  f = finish_of_list s B K out

  parts : FinishParts (finish_settings s) (entries_of s B K) out f
  parts = finish-parts (list_version s) (entries_of s B K) out

  -- as demand 3 has them
  pub list-after : index_of_calls (list_version s) (calls s) (fresh_of B K) out ≡ take f.total f.out
  list-after = ap (λ (x : Finish). take x.total x.out) (list-finish s B K out)

  -- an index is there, and the finish isn't refused
  pub list-finishes : (f.total ≡ 0 → ⊥) → Finishes (list_version s) (calls s) (fresh_of B K) out
  list-finishes some = record {
    two = parts.two some;
    accepted = ap (λ (x : Finish). x.no) (list-finish s B K out) ∙ parts.taken some;
  }

  -- what was written, and its opening with the list's version and number of terms
  abbrev written : List ℕ
  written = take f.total f.out

  abbrev Checked : ℕ → ℕ → List ℕ → Type 0
  Checked k c bytes = CheckedAs k c (finish_settings s) (list_version s) (list_terms s) (entries_of s B K) bytes

  opening : (k : ℕ) (loaded : Result SSTableIndexV3 Refusal) → load_def (list_version s) (list_terms s) written ≡ loaded
      → OpenedAs k (finish_settings s) (list_terms s) (entries_of s B K) written loaded
      → OpenedAs k (finish_settings s) (list_terms s) (entries_of s B K) written (load_def (list_version s) (list_terms s) written)
  opening k loaded e o = opening-as (finish_settings s) (list_version s) (list_terms s) (entries_of s B K) written k loaded e o

  module _ (some : f.total ≡ 0 → ⊥) where
    checked_some : check_no (list_version s) written ≡ 0
    checked_some = rw list-after at ((list-demand s B K out).canonical (list-finishes some))

    -- a number of terms that isn't above the last first ordinal
    opened_few : list_terms s ≤ last_first_of (entries_of s B K) → Checked 28 0 written
    opened_few h = record {
      opening =
          opening 28 (Err TermsBad) (rw list-after at ((list-demand s B K out).refuses (list-finishes some) (list_terms s) h))
          (refl, omega arith);
      checked = checked_some;
    }

    opened_enough : last_first_of (entries_of s B K) < list_terms s → Checked 0 0 written
    opened_enough h =
        let d = list-demand s B K out in
        record {
          opening =
              opening 0 (Ok (opened_of (list_version s) (list_terms s) written))
              (rw list-after at (d.opens (list-finishes some) (list_terms s) h)) (
                refl,
                record {
                  bytes = parts.some some;
                  few = d.few;
                  finds = rw list-after at (d.finds (list-finishes some) (list_terms s) h);
                },
              );
          checked = checked_some;
        }

    opened_some : Checked (cond (leb (list_terms s) (last_first_of (entries_of s B K))) 28 0) 0 written
    opened_some =
        cases (leb (list_terms s) (last_first_of (entries_of s B K)))
        (λ t. rw t (opened_few (leb-true (list_terms s) (last_first_of (entries_of s B K)) t)))
        (λ t. rw t (opened_enough (leb-false (list_terms s) (last_first_of (entries_of s B K)) t)))

  -- of a version that there is
  opened_known : version_bad (list_version s) ≡ false
      → Checked (cond (eqb f.total 0) 10 (cond (leb (list_terms s) (last_first_of (entries_of s B K))) 28 0)) (cond (eqb f.total 0) 10 0)
      written
  opened_known known =
      cases (eqb f.total 0)
      (λ t. rw (t, parts.none (eqb-true f.total 0 t))
      (opens-none (finish_settings s) (list_version s) (list_terms s) (entries_of s B K) known))
      (λ t. rw t (opened_some (eqb-false f.total 0 t)))

  pub list-opened : Checked (open_number (list_version s) (list_terms s) (entries_of s B K) f) (check_number (list_version s) f) written
  unfolding open_number check_number
  list-opened =
      cases (version_bad (list_version s))
      (λ t. rw (version-refused (list_version s) t)
      (opens-unknown (finish_settings s) (list_version s) (list_terms s) (entries_of s B K) written t))
      (λ t. rw (version-good (list_version s) t) (opened_known t))

  pub list-fits : f.total ≤ length out
  list-fits = parts.fits

  -- a list of a version that no index has: its finish is refused with 30 and writes nothing, and what it wrote gets 30 from both
  pub list-unknown : version_bad (list_version s) ≡ true
      → (f ≡ unwritten 30 (builder_of (length (entries_of s B K))) out)
      × (written ≡ [])
      × (open_number (list_version s) (list_terms s) (entries_of s B K) f ≡ 30)
      × (check_number (list_version s) f ≡ 30)
  unfolding open_number check_number
  list-unknown bad =
      let refused = plain-unknown (list_version s) (entries_of s B K) out bad in (
        refused,
        parts.none (ap (λ (x : Finish). x.total) refused),
        rw (version-refused (list_version s) bad),
        rw (version-refused (list_version s) bad),
      )
