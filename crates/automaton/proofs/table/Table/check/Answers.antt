-- Each return gives the number of the first row that the bytes hit, and bytes that hit none are well-formed.
use Rattle.std.proofs.Common.{◌≡◌, ◌≤◌, ◌+◌, ◌*◌, length, List, ℕ, Option, None, Some, Result, Err, Bor, true, false}
use Rattle.std.proofs.Common.{refl, sym, ◌∙◌, arith, get_or, rules, tests}
use borrow.Author.Tests.{ltb-false}
use Rattle.std.specs.Option.{unwrap_or, option_map, ok_or}
use Rattle.std.proofs.lemmas.Result.{err_from_is_err_and}
use Rattle.layout.specs.declared.refusals.Refusal.{Refusal}
use Rattle.automaton.specs.Table.{states}
use Rattle.automaton.proofs.Refusal.{Shape, is-21, past-21, table-ok, flags-tested, next-tested}
use Rattle.automaton.proofs.table.Table.check.Goals as goal
use Rattle.automaton.proofs.table.Table.check.Goals.{Then-any_from, Then-any_from-2, Else-any_from-2}
use Rattle.automaton.proofs.table.Table.check.Goals.{
  then-not-contains-via-then-not-contains,
  then-not-contains-via-else-not-contains+then-bytes-from,
}

-- the first byte, where there is one
first-is : (t : List ℕ) (r : Option (Bor ℕ)) (b : Bor ℕ) → r ≡ Some b
    → ((d : ℕ) → unwrap_or (option_map {T = Bor ℕ} {U = ℕ} (λ x. x.now) r) d ≡ get_or t 0 d) → b.now ≡ states t
first-is t r b e f = rw e at f 0

-- past the tests of row 21, which read the first byte twice
counted : (t : List ℕ) {m n : ℕ} → m ≡ states t → (1 ≤ m) × (m ≤ 64) → n ≡ m → length t ≡ 1 + 257 * n → Shape t
counted t first within again long = record { some = omega arith; few = omega arith; long = omega arith }

refused-as : (r : Option (Bor ℕ)) (x y : Refusal) → r ≡ None → ◌≡◌ {A = Result (Bor ℕ) Refusal} (Err x) (ok_or r y) → x ≡ y
refused-as r x y e v = let q : ◌≡◌ {A = Result (Bor ℕ) Refusal} (Err x) (Err y) = rw e at v in cc

pub returns-in_err-m-clause-number : goal.returns-in_err-m-clause-number
returns-in_err-m-clause-number c =
    let p = err_from_is_err_and c.from_residual.result c.from_residual.ensures.1 in
    let v = c.in_err-m.ensures in
    let empty = ltb-false 0 _ (sym c.first.ensures.item.0 ∙ sym v.variant) in
    rw (p.1, p.2, refused-as _ _ _ v.ok_part v.value) (is-21 _ (λ s. omega (arith, empty, s.long)))

pub returns-then-not-contains-clause-number : goal.returns-then-not-contains-clause-number
returns-then-not-contains-clause-number c =
    let e = c.from-rows.ensures in
    let m = first-is c.args.bytes.now _ _ c.in_ok-m.ensures.ok_part (c.first.ensures.item.4 (omega arith)) in
    elim c.then-not-contains.branch [
      | then-not-contains-via-then-not-contains w ↦ is-21 _ (λ s. search (rules, tests, arith, m, s))
      | then-not-contains-via-else-not-contains+then-bytes-from w ↦ is-21 _
          (λ s. w.if-bytes-from.true (omega (arith, m, s.long, e, w.from.ensures)))
    ]

pub returns-then-any_from-clause-number : goal.returns-then-any_from-clause-number
returns-then-any_from-clause-number c =
    let t = c.args.bytes.now in
    let m = first-is t _ _ c.in_ok-m.ensures.ok_part (c.first.ensures.item.4 (omega arith)) in
    let s = counted t m (search (rules, tests, arith)) c.from.ensures c.if-bytes-from.false in
    past-21 t true _ s (flags-tested t _ (rw (c.from-rows.ensures, m) at c.if-any_from.ensures)) refl

pub returns-then-any_from-2-clause-number : goal.returns-then-any_from-2-clause-number
returns-then-any_from-2-clause-number c =
    let t = c.args.bytes.now in
    let m = first-is t _ _ c.in_ok-m.ensures.ok_part (c.first.ensures.item.4 (omega arith)) in
    let s = counted t m (search (rules, tests, arith)) c.from.ensures c.if-bytes-from.false in
    past-21 t false true s (flags-tested t _ (rw (c.from-rows.ensures, m) at c.if-any_from.ensures))
    (next-tested t _ (rw (c.from-rows.ensures, m) at c.if-any_from-2.ensures))

pub invariant_of-result : goal.invariant_of-result
invariant_of-result c =
    let t = c.args.bytes.now in
    let m = first-is t _ _ c.in_ok-m.ensures.ok_part (c.first.ensures.item.4 (omega arith)) in
    let s = counted t m (search (rules, tests, arith)) c.from.ensures c.if-bytes-from.false in
    let e = past-21 t false false s (flags-tested t _ (rw (c.from-rows.ensures, m) at c.if-any_from.ensures))
    (next-tested t _ (rw (c.from-rows.ensures, m) at c.if-any_from-2.ensures)) in
    record { well_formed = table-ok t (sym e) }

pub returns-clause-number : goal.returns-clause-number
returns-clause-number c =
    let t = c.args.bytes.now in
    let m = first-is t _ _ c.in_ok-m.ensures.ok_part (c.first.ensures.item.4 (omega arith)) in
    let s = counted t m (search (rules, tests, arith)) c.from.ensures c.if-bytes-from.false in
    past-21 t false false s (flags-tested t _ (rw (c.from-rows.ensures, m) at c.if-any_from.ensures))
    (next-tested t _ (rw (c.from-rows.ensures, m) at c.if-any_from-2.ensures))
