-- Rows 1 and 8 are never hit by a list of calls from a fresh builder: none of its numbers is 1 or 8.
use Prim.Native.Nat.{ℕ, zero, suc}
use mathlib.Core.Path.{◌≡◌}
use mathlib.Core.List.{List, [], ◌∷◌}
use mathlib.Core.Bool.{false}
use native.Mathlib.Omega.{arith}
use Rattle.std.proofs.lemmas.Bool.Decides.{nat_tests}
use lib.ListN.{get_or}
use Rattle.builder.specs.View.{View}
use Rattle.builder.specs.Rows.{area_bad, key_no, block_no, add_no, shorten_no}
use Rattle.builder.specs.Calls.{State}
use Rattle.builder.proofs.Views.{area-good}
use Rattle.machine.specs.Plain.{Entry, Call, add, shorten_last, plain_view, call_no}
use Rattle.machine.specs.Runs.{FreshState, rooms_of, call_def, run_numbers}
use Rattle.machine.proofs.Entries.{Rep, fresh, plain-n, plain-place, plain-room}
use Rattle.machine.proofs.Machine.{step}

-- row 1
pub never-one : (es : List Entry) (s : State) → Rep es s → area_bad (plain_view (rooms_of s) es) ≡ false
never-one es s r =
    let n = plain-n (rooms_of s) es in
    let k = plain-place (rooms_of s) es in
    let m = plain-room (rooms_of s) es in
    area-good (plain_view (rooms_of s) es)
    (record {
      few = omega (arith, r.few);
      inside = omega (arith, r.inside);
      last = record { within = omega (arith, r.within) };
    })

-- a number other than 1 and 8
abbrev Other : ℕ → Type 0
Other k = (k ≡ 1 → ⊥) × (k ≡ 8 → ⊥)

call-other : (v : View) (c : Call) → area_bad v ≡ false → Other (call_no v c)
unfolding call_no add_no shorten_no block_no key_no
call-other v (add key b) h = (λ e. grind (arith, nat_tests, h, e), λ e. grind (arith, nat_tests, h, e))
call-other v (shorten_last next) h = (λ e. grind (arith, nat_tests, h, e), λ e. grind (arith, nat_tests, h, e))

run-other : (cs : List Call) (es : List Entry) (s : State) → Rep es s → (i : ℕ) → Other (get_or (run_numbers cs s) i 0)
unfolding run_numbers
run-other [] es s r i = (λ e. omega arith, λ e. omega arith)
run-other (c ∷ cs) es s r zero = rw (step c es s r).number (call-other (plain_view (rooms_of s) es) c (never-one es s r))
run-other (c ∷ cs) es s r (suc i) = run-other cs _ (call_def c s).state (step c es s r).rep i

pub fresh-not-one : (cs : List Call) (s : State) → FreshState s → (i : ℕ) → get_or (run_numbers cs s) i 0 ≡ 1 → ⊥
fresh-not-one cs s e i = (run-other cs [] s (fresh s e) i).0

pub fresh-not-eight : (cs : List Call) (s : State) → FreshState s → (i : ℕ) → get_or (run_numbers cs s) i 0 ≡ 8 → ⊥
fresh-not-eight cs s e i = (run-other cs [] s (fresh s e) i).1
