-- Demand 3, for every version: the calls' answers are the plain machine's; what finish writes opens with that version just where the
-- number of terms is above its last block's first ordinal, has the blocks and passes the check. All of it also for any choice of slopes
-- of 32 bits, which no call takes.
use Prim.Native.Nat.{ℕ, ◌^◌, ◌≤◌, ◌<◌}
use mathlib.Core.Path.{◌≡◌, refl, sym, ap, subst, ◌∙◌}
use mathlib.Core.Bool.{false}
use mathlib.Core.List.{List, []}
use borrow.Table.Steps.{cases}
use mathlib.Core.Logic.{⊎_elim}
use native.Mathlib.Omega.{arith}
use lib.ListN.{length, get_or, take}
use Rattle.std.specs.Prelude.{Ok, Err}
use Rattle.layout.specs.Layout.{max_blocks}
use Rattle.layout.specs.declared.refusals.Refusal.TheVariants.{TermsBad}
use Rattle.layout.specs.Versions.{version_bad, version_no}
use Rattle.layout.proofs.GroupLengths.{version-good, group-len-some, group-len-most}
use Rattle.slope.specs.Slope.{best_slope}
use Rattle.slope.proofs.Widths.{best_slope-lt}
use Rattle.builder.specs.Calls.{State}
use Rattle.builder.specs.Index.{SettingsOk, settings}
use Rattle.builder.specs.Finish.{Finish}
use Rattle.machine.specs.Plain.{Call, SameLists, plain_numbers, plain_index}
use Rattle.machine.specs.Finished.{plain_finish, plain_finish_in}
use Rattle.machine.specs.Runs.{FreshState, rooms_of, run_numbers, finished_after, finished_in}
use Rattle.machine.proofs.NeverHit.{fresh-not-one, fresh-not-eight}
use Rattle.machine.proofs.Rules.{run-rules}
use Rattle.machine.proofs.Finishing.{finish-plain}
use Rattle.machine.proofs.FinishIn.{plain-unknown, plain-known, accepted-version, finish-in-plain}
use Rattle.machine.proofs.PlainFinish.{plain-number, plain-front}
use Rattle.builder.proofs.IndexWritten.{settings-ok}
use Rattle.machine.proofs.SameIndex.{same_index, fresh-inj}
use Rattle.index.specs.Opening.{load_def, opened_of}
use Rattle.canonical.specs.Canonical.{canonical_no, check_no}
use Rattle.demands.specs.Demand3.{Finds, last_first_of, entries_of_calls, Finishes, index_of_calls, Demand3}
use Rattle.demands.proofs.Found.{with_slopes, entries-open, entries-refused, found, entries-canonical}

module _ (version : ℕ) (cs : List Call) (fresh : State) (out : List ℕ) (none : FreshState fresh) where
  finishes : finished_in version cs fresh out ≡ plain_finish_in version (entries_of_calls cs fresh) out
  finishes = finish-in-plain version cs fresh none out

  -- its number is 0, 9 or 30
  no-other : (k : ℕ) → (k ≡ 0 → ⊥) → (k ≡ 9 → ⊥) → (k ≡ 30 → ⊥) → (finished_in version cs fresh out).no ≡ k → ⊥
  no-other k some nine thirty e =
      let es = entries_of_calls cs fresh in
      let same : (plain_finish_in version es out).no ≡ k = sym (ap (λ (x : Finish). x.no) finishes) ∙ e in
      cases (version_bad version)
      (λ t. thirty (sym same ∙ ap (λ (x : Finish). x.no) (plain-unknown version es out t)))
      (λ t. let known : (plain_finish (settings version) es out).no ≡ k = rw (plain-known version es out t) at same in
      ⊎_elim (λ p. nine (sym known ∙ p.1)) (λ p. some (sym known ∙ p.1)) (plain-number (settings version) es out))

  module _ (h : Finishes version cs fresh out) where
    accepted : (plain_finish_in version (entries_of_calls cs fresh) out).no ≡ 0
    accepted = sym (ap (λ (x : Finish). x.no) finishes) ∙ h.accepted

    known : version_bad version ≡ false
    known = accepted-version version (entries_of_calls cs fresh) out accepted

    good : version_no version ≡ 0
    good = version-good version known

    laid_out : index_of_calls version cs fresh out ≡ plain_index (settings version) (entries_of_calls cs fresh)
    laid_out =
        let same = plain-known version (entries_of_calls cs fresh) out known in
        ap (λ (x : Finish). take x.total x.out) (finishes ∙ same)
        ∙ plain-front (settings version) (entries_of_calls cs fresh) out (rw same at accepted)

    refuses : (terms : ℕ) → terms ≤ last_first_of (entries_of_calls cs fresh)
        → load_def version terms (index_of_calls version cs fresh out) ≡ Err TermsBad
    refuses terms below =
        let both = run-rules cs fresh none in
        rw laid_out
        (entries-refused version good best_slope best_slope-lt (entries_of_calls cs fresh) both.1 both.0.rep.few h.two terms below)

    module _ (terms : ℕ) (above : last_first_of (entries_of_calls cs fresh) < terms) where
      opens : load_def version terms (index_of_calls version cs fresh out)
          ≡ Ok (opened_of version terms (index_of_calls version cs fresh out))
      opens =
          let both = run-rules cs fresh none in
          subst (λ (f : List ℕ). load_def version terms f ≡ Ok (opened_of version terms f)) (sym laid_out)
          (entries-open version good best_slope best_slope-lt (entries_of_calls cs fresh) both.1 both.0.rep.few h.two terms above)

      finds : Finds (entries_of_calls cs fresh) (index_of_calls version cs fresh out) terms
          (opened_of version terms (index_of_calls version cs fresh out))
      finds =
          let both = run-rules cs fresh none in
          subst (λ (f : List ℕ). Finds (entries_of_calls cs fresh) f terms (opened_of version terms f)) (sym laid_out)
          (found version good best_slope best_slope-lt (entries_of_calls cs fresh) both.1 both.0.rep.few h.two terms above)

    canonical : check_no version (index_of_calls version cs fresh out) ≡ 0
    unfolding check_no
    canonical =
        let both = run-rules cs fresh none in
        rw (good, laid_out)
        (entries-canonical version good best_slope best_slope-lt (entries_of_calls cs fresh) both.1 both.0.rep.few h.two)

-- for every version; one that no index has is refused by finish, and all that is said of an index is said of the other two
pub demand-3 : (version : ℕ) (cs : List Call) (fresh : State) (out : List ℕ) → FreshState fresh → Demand3 version cs fresh out
demand-3 version cs fresh out none = record {
  answers = (run-rules cs fresh none).0.numbers;
  never-1 = fresh-not-one cs fresh none;
  never-8 = fresh-not-eight cs fresh none;
  few = (run-rules cs fresh none).0.rep.few;
  finishes = finishes version cs fresh out none;
  finish-never-1 = no-other version cs fresh out none 1 (λ e. omega arith) (λ e. omega arith) (λ e. omega arith);
  finish-never-8 = no-other version cs fresh out none 8 (λ e. omega arith) (λ e. omega arith) (λ e. omega arith);
  opens = opens version cs fresh out none;
  refuses = refuses version cs fresh out none;
  finds = finds version cs fresh out none;
  canonical = canonical version cs fresh out none;
  equal = λ cs' fresh' out' none' h h' same.
      fresh-inj (settings version) (settings version) refl (settings-ok version) (settings-ok version) cs cs' fresh fresh' none none' h.two
      (sym (laid_out version cs fresh out none h) ∙ same ∙ laid_out version cs' fresh' out' none' h');
  equal-bytes = λ cs' fresh' out' none' h h' same.
      laid_out version cs fresh out none h
      ∙ same_index (settings version) (entries_of_calls cs fresh) (entries_of_calls cs' fresh') same
      ∙ sym (laid_out version cs' fresh' out' none' h');
}

-- ---- with any choice of slopes of 32 bits, in groups of a version's length

-- two entries or more are left, and the finish isn't refused
pub record FinishesOf (version : ℕ) (choose : List ℕ → ℕ) (cs : List Call) (fresh : State) (out : List ℕ) : Type 0 where
  pub two : 2 ≤ length (entries_of_calls cs fresh)
  pub accepted : (finished_after (with_slopes version choose) cs fresh out).no ≡ 0

-- what it wrote, cut to its total
abbrev pub index_of : ℕ → (List ℕ → ℕ) → List Call → State → List ℕ → List ℕ
index_of version choose cs fresh out =
    take (finished_after (with_slopes version choose) cs fresh out).total (finished_after (with_slopes version choose) cs fresh out).out

pub record Demand3Of (version : ℕ) (choose : List ℕ → ℕ) (cs : List Call) (fresh : State) (out : List ℕ) : Type 0 where
  pub answers : run_numbers cs fresh ≡ plain_numbers (rooms_of fresh) cs []
  pub never-1 : (i : ℕ) → get_or (run_numbers cs fresh) i 0 ≡ 1 → ⊥
  pub never-8 : (i : ℕ) → get_or (run_numbers cs fresh) i 0 ≡ 8 → ⊥
  pub few : length (entries_of_calls cs fresh) ≤ max_blocks
  pub finishes : finished_after (with_slopes version choose) cs fresh out
      ≡ plain_finish (with_slopes version choose) (entries_of_calls cs fresh) out
  pub finish-never-1 : (finished_after (with_slopes version choose) cs fresh out).no ≡ 1 → ⊥
  pub finish-never-8 : (finished_after (with_slopes version choose) cs fresh out).no ≡ 8 → ⊥
  pub opens : FinishesOf version choose cs fresh out → (terms : ℕ) → last_first_of (entries_of_calls cs fresh) < terms
      → load_def version terms (index_of version choose cs fresh out)
      ≡ Ok (opened_of version terms (index_of version choose cs fresh out))
  pub refuses : FinishesOf version choose cs fresh out → (terms : ℕ) → terms ≤ last_first_of (entries_of_calls cs fresh)
      → load_def version terms (index_of version choose cs fresh out) ≡ Err TermsBad
  pub finds : FinishesOf version choose cs fresh out → (terms : ℕ) → last_first_of (entries_of_calls cs fresh) < terms
      → Finds (entries_of_calls cs fresh) (index_of version choose cs fresh out) terms
      (opened_of version terms (index_of version choose cs fresh out))
  pub canonical : FinishesOf version choose cs fresh out
      → canonical_no (with_slopes version choose) (index_of version choose cs fresh out) ≡ 0
  pub equal : (cs' : List Call) (fresh' : State) (out' : List ℕ) → FreshState fresh'
      → FinishesOf version choose cs fresh out → FinishesOf version choose cs' fresh' out'
      → index_of version choose cs fresh out ≡ index_of version choose cs' fresh' out'
      → SameLists (entries_of_calls cs fresh) (entries_of_calls cs' fresh')
  pub equal-bytes : (cs' : List Call) (fresh' : State) (out' : List ℕ) → FreshState fresh'
      → FinishesOf version choose cs fresh out → FinishesOf version choose cs' fresh' out'
      → SameLists (entries_of_calls cs fresh) (entries_of_calls cs' fresh')
      → index_of version choose cs fresh out ≡ index_of version choose cs' fresh' out'

module _ (version : ℕ) (good : version_no version ≡ 0) (choose : List ℕ → ℕ) (slopes : (vs : List ℕ) → choose vs < 2 ^ 32) where
  any-ok : SettingsOk (with_slopes version choose)
  any-ok = record { slopes = slopes; group = record { some = group-len-some version; few = group-len-most version } }

  module _ (cs : List Call) (fresh : State) (out : List ℕ) (none : FreshState fresh) where
    finishes-of : finished_after (with_slopes version choose) cs fresh out
        ≡ plain_finish (with_slopes version choose) (entries_of_calls cs fresh) out
    finishes-of = finish-plain (with_slopes version choose) cs fresh none out

    -- its number is 0 or 9
    only-nine : (k : ℕ) → (k ≡ 0 → ⊥) → (k ≡ 9 → ⊥) → (finished_after (with_slopes version choose) cs fresh out).no ≡ k → ⊥
    only-nine k some other e =
        let S = with_slopes version choose in
        let es = entries_of_calls cs fresh in
        let same : (plain_finish S es out).no ≡ k = sym (ap (λ (x : Finish). x.no) finishes-of) ∙ e in
        ⊎_elim (λ p. other (sym same ∙ p.1)) (λ p. some (sym same ∙ p.1)) (plain-number S es out)

    module _ (h : FinishesOf version choose cs fresh out) where
      laid-out-of : index_of version choose cs fresh out ≡ plain_index (with_slopes version choose) (entries_of_calls cs fresh)
      laid-out-of =
          ap (λ (x : Finish). take x.total x.out) finishes-of
          ∙ plain-front (with_slopes version choose) (entries_of_calls cs fresh) out
          (sym (ap (λ (x : Finish). x.no) finishes-of) ∙ h.accepted)

      refuses-of : (terms : ℕ) → terms ≤ last_first_of (entries_of_calls cs fresh)
          → load_def version terms (index_of version choose cs fresh out) ≡ Err TermsBad
      refuses-of terms below =
          let both = run-rules cs fresh none in
          rw laid-out-of
          (entries-refused version good choose slopes (entries_of_calls cs fresh) both.1 both.0.rep.few h.two terms below)

      module _ (terms : ℕ) (above : last_first_of (entries_of_calls cs fresh) < terms) where
        opens-of : load_def version terms (index_of version choose cs fresh out)
            ≡ Ok (opened_of version terms (index_of version choose cs fresh out))
        opens-of =
            let both = run-rules cs fresh none in
            subst (λ (f : List ℕ). load_def version terms f ≡ Ok (opened_of version terms f)) (sym laid-out-of)
            (entries-open version good choose slopes (entries_of_calls cs fresh) both.1 both.0.rep.few h.two terms above)

        finds-of : Finds (entries_of_calls cs fresh) (index_of version choose cs fresh out) terms
            (opened_of version terms (index_of version choose cs fresh out))
        finds-of =
            let both = run-rules cs fresh none in
            subst (λ (f : List ℕ). Finds (entries_of_calls cs fresh) f terms (opened_of version terms f)) (sym laid-out-of)
            (found version good choose slopes (entries_of_calls cs fresh) both.1 both.0.rep.few h.two terms above)

      canonical-of : canonical_no (with_slopes version choose) (index_of version choose cs fresh out) ≡ 0
      canonical-of =
          let both = run-rules cs fresh none in
          rw laid-out-of
          (entries-canonical version good choose slopes (entries_of_calls cs fresh) both.1 both.0.rep.few h.two)

  -- for every choice of slopes
  pub demand-3-of : (cs : List Call) (fresh : State) (out : List ℕ) → FreshState fresh → Demand3Of version choose cs fresh out
  demand-3-of cs fresh out none = record {
    answers = (run-rules cs fresh none).0.numbers;
    never-1 = fresh-not-one cs fresh none;
    never-8 = fresh-not-eight cs fresh none;
    few = (run-rules cs fresh none).0.rep.few;
    finishes = finishes-of cs fresh out none;
    finish-never-1 = only-nine cs fresh out none 1 (λ e. omega arith) (λ e. omega arith);
    finish-never-8 = only-nine cs fresh out none 8 (λ e. omega arith) (λ e. omega arith);
    opens = opens-of cs fresh out none;
    refuses = refuses-of cs fresh out none;
    finds = finds-of cs fresh out none;
    canonical = canonical-of cs fresh out none;
    equal = λ cs' fresh' out' none' h h' same.
        fresh-inj (with_slopes version choose) (with_slopes version choose) refl any-ok any-ok cs cs' fresh fresh' none none' h.two
        (sym (laid-out-of cs fresh out none h) ∙ same ∙ laid-out-of cs' fresh' out' none' h');
    equal-bytes = λ cs' fresh' out' none' h h' same.
        laid-out-of cs fresh out none h
        ∙ same_index (with_slopes version choose) (entries_of_calls cs fresh) (entries_of_calls cs' fresh') same
        ∙ sym (laid-out-of cs' fresh' out' none' h');
  }
