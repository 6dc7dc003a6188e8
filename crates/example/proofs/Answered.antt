-- The answers: a refusal, and the first example, the empty string or one that was written.
use mathlib.Core.Path.{◌≡◌, refl, sym, ap, ◌∙◌}
use mathlib.Core.List.{List, [], ◌∷◌, ◌++◌}
use mathlib.Core.Bool.{true, false, false≢true}
use mathlib.Core.Option.{Option, none, some}
use Prim.Native.Nat.{ℕ, ◌+◌, ◌≤◌, ◌<◌, zero-le}
use native.Mathlib.Omega.{arith}
use lib.ListN.{length, get_or}
use Rattle.std.specs.Prelude.{Result, Ok, Err, Option as MayBe, Some, None}
use Rattle.std.specs.Option.{is_some, unwrap_or}
use Rattle.std.specs.Borrow.{Bor}
use Rattle.keys.proofs.Order.{prefix-≼}
use Rattle.automaton.specs.Table.{WellFormed, table_no, flag}
use Rattle.automaton.proofs.Strings.{hits-nil}
use Rattle.pruning.specs.Interval.{start_now, Marked}
use Rattle.example_distance.specs.Distance.{Distances}
use Rattle.example_distance.proofs.Shortest.{zero-at}
use Rattle.example_leaving.specs.Leaving.{FirstBetween}
use Rattle.example_leaving.specs.declared.Leaving.{Leaving}
use Rattle.example_leaving.proofs.First.{not-after}
use Rattle.layout.specs.declared.refusals.Refusal.{Refusal}
use Rattle.layout.specs.declared.refusals.Refusal.TheVariants.{RoomShort, NoExample}
use Rattle.layout.specs.Refusals.{number_of}
use Rattle.layout.proofs.Numbers.{number_positive}
use Rattle.example.specs.Example.{longer, ExampleNo, Shown, example_answer_no, example_answer_len, ExampleAnswerCased, ExampleFor}
use Rattle.example.proofs.Examples.{key_of, EmptyLeft, FirstInside}

-- ---- an answer: what the call promises
abbrev pub Answered : List ℕ → Option (List ℕ) → List ℕ → List ℕ → List ℕ → Result ℕ Refusal → Type 0
Answered t start end out new r = ExampleFor t start end out new (example_answer_no r) (example_answer_len r)

-- a refusal leaves the output as it was
pub answered-refused : {t : List ℕ} {start : Option (List ℕ)} {end out : List ℕ} (refusal : Refusal)
    → ExampleNo t start end (length out) (number_of refusal)
    → Answered t start end out out (Err refusal)
answered-refused refusal row = record {
  number = row;
  leaves = record { taken = λ e. absurd (let h = number_positive refusal in let z : ⊥ = omega arith in z); refused = λ p. (refl, refl) };
}

module _ {t : List ℕ} {start : Option (List ℕ)} {end out : List ℕ} (ok : table_no t ≡ 0) where
  pub answered-short : length out < longer start end + 64 → Answered t start end out out (Err RoomShort)
  answered-short less = answered-refused RoomShort (ExampleNo.short ok less)

  module _ (fits : longer start end + 64 ≤ length out) where
    pub answered-shown : (new : List ℕ) (len : ℕ) → Shown t start end out new len → Answered t start end out new (Ok len)
    answered-shown new len x =
        let (i, above, not-above) = x.first.is-one in
        record {
          number = ExampleNo.accepted ok fits (record { string = x.string; hits = i; good = (above, not-above) });
          leaves = record { taken = λ e. x; refused = λ p. absurd (let z : ⊥ = omega arith in z) };
        }

    pub answered-none : (Marked t start end → ⊥) → Answered t start end out out (Err NoExample)
    answered-none n = answered-refused NoExample (ExampleNo.nothing ok fits n)

-- ---- no start, and the empty string is accepted: it comes first
pub empty-shown : (t end : List ℕ) {out : List ℕ} → flag t 0 ≡ 1 → Shown t none end out out 0
empty-shown t end e = record {
  string = [];
  first = record { is-one = (hits-nil e, tt, prefix-≼ [] end); first = λ v i. not-after [] v zero-le (prefix-≼ [] v) };
  whole = refl;
  short = zero-le;
  bytes = refl;
}

-- ---- a refusal has a number above 0
pub example_answer_cased : (r : Result ℕ Refusal) → ExampleAnswerCased r
example_answer_cased (Ok len) = tt
example_answer_cased (Err refusal) = number_positive refusal

-- ---- a start that is lent, or isn't there
pub start-none : (s : MayBe (Bor (List ℕ))) → is_some s ≡ false → start_now s ≡ none
start-none None e = refl
start-none (Some start) e = absurd (false≢true (sym e))

key-lent : (s : MayBe (Bor (List ℕ))) (empty : Bor (List ℕ)) → empty.now ≡ [] → (unwrap_or s empty).now ≡ key_of (start_now s)
key-lent None empty e = e
key-lent (Some start) empty e = refl

left-dead : (t : List ℕ) (start : Option (List ℕ)) → (flag t 0 ≡ 1 → ⊥) → EmptyLeft t start
left-dead t none dead = dead
left-dead t (some start) dead = tt

module _ {t d : List ℕ} (x : Distances t d) (wf : WellFormed t) where
  pub left-some : (s : MayBe (Bor (List ℕ))) → is_some s ≡ true → EmptyLeft t (start_now s)
  left-some None e = absurd (false≢true e)
  left-some (Some start) e = tt

  pub left-far : (s : MayBe (Bor (List ℕ))) → (get_or d 0 0 ≡ 0 → ⊥) → EmptyLeft t (start_now s)
  left-far s n = left-dead t (start_now s) (λ f. n (zero-at x 0 wf.some f))

  pub inside : {end : List ℕ} {c : Leaving} (s : MayBe (Bor (List ℕ))) (key empty : Bor (List ℕ)) → key ≡ unwrap_or s empty
      → empty.now ≡ [] → EmptyLeft t (start_now s) → FirstBetween t d (key.now ++ (0 ∷ [])) (end ++ (0 ∷ [])) c
      → FirstInside t d (start_now s) end c
  inside s key empty e n left z =
      let same : key.now ≡ key_of (start_now s) = ap (λ (k : Bor (List ℕ)). k.now) e ∙ key-lent s empty n in
      record { measured = x; well_formed = wf; empty-left = left; between = rw same at z }
