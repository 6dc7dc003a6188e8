-- The finish of a version: 30 for one that no index has; else the finish with its settings.
use Prim.Native.Nat.{ℕ}
use mathlib.Core.Path.{◌≡◌, ap}
use mathlib.Core.Bool.{true, false}
use mathlib.Core.List.{List, []}
use mathlib.Core.Logic.{◌⊎◌, inl, inr, ⊎_elim}
use native.Mathlib.Omega.{arith}
use borrow.Table.Steps.{cases}
use Rattle.layout.specs.Versions.{version_bad}
use Rattle.builder.specs.Calls.{builder_of, State}
use Rattle.builder.specs.Index.{settings}
use Rattle.builder.specs.Finish.{Finish, unwritten, finish_in}
use lib.ListN.{length}
use Rattle.machine.specs.Plain.{Entry, Call, plain_end}
use Rattle.machine.specs.Finished.{plain_finish, plain_finish_in}
use Rattle.machine.specs.Runs.{FreshState, rooms_of, finished_in}
use Rattle.machine.proofs.Rules.{run-rules}
use Rattle.machine.proofs.PlainFinish.{plain-number}
use Rattle.machine.proofs.Finishing.{finish-plain}

module _ (version : ℕ) (es : List Entry) (out : List ℕ) where
  pub plain-unknown : version_bad version ≡ true → plain_finish_in version es out ≡ unwritten 30 (builder_of (length es)) out
  unfolding plain_finish_in
  plain-unknown bad = rw bad

  pub plain-known : version_bad version ≡ false → plain_finish_in version es out ≡ plain_finish (settings version) es out
  unfolding plain_finish_in
  plain-known good = rw good

  -- 30 exactly where no index has the version, else the number that the finish with its settings has
  pub number-in : ((version_bad version ≡ true) × ((plain_finish_in version es out).no ≡ 30))
      ⊎ ((version_bad version ≡ false) × ((plain_finish_in version es out).no ≡ (plain_finish (settings version) es out).no))
  number-in =
      cases (version_bad version)
      (λ t. inl (t, ap (λ (f : Finish). f.no) (plain-unknown t)))
      (λ t. inr (t, ap (λ (f : Finish). f.no) (plain-known t)))

  pub version-of-refused : (plain_finish_in version es out).no ≡ 30 → version_bad version ≡ true
  version-of-refused e =
      ⊎_elim (λ p. p.0)
      (λ p. ⊎_elim (λ q. absurd (let z : ⊥ = omega (arith, e, p.1, q.1) in z)) (λ q. absurd (let z : ⊥ = omega (arith, e, p.1, q.1) in z))
      (plain-number (settings version) es out)) number-in

  -- one that isn't refused has a version that there is
  pub accepted-version : (plain_finish_in version es out).no ≡ 0 → version_bad version ≡ false
  accepted-version e = ⊎_elim (λ p. absurd (let z : ⊥ = omega (arith, e, p.1) in z)) (λ p. p.0) number-in

-- a list of calls from a fresh builder, then the finish of a version
pub finish-in-plain : (version : ℕ) (cs : List Call) (s : State) → FreshState s → (out : List ℕ)
    → finished_in version cs s out ≡ plain_finish_in version (plain_end (rooms_of s) cs []) out
unfolding finish_in plain_finish_in
finish-in-plain version cs s e out =
    cases (version_bad version)
    (λ t. rw t (ap (λ (b : _). unwritten 30 b out) (ap builder_of (run-rules cs s e).0.rep.count)))
    (λ t. rw t (finish-plain (settings version) cs s e out))
