-- A line is at most 2,109 bytes long, by its parts.
use mathlib.Core.Path.{◌≡◌}
use mathlib.Core.List.{List, [], ◌∷◌, ◌++◌, append_assoc}
use Prim.Native.Nat.{ℕ, ◌≤◌, ◌<◌}
use native.Mathlib.Omega.{arith}
use lib.ListN.{length, length-append}
use Rattle.group.specs.declared.BlockAddr.{BlockAddr}
use Rattle.group.specs.Legal.{limit, NumbersOk}
use Rattle.line_text.specs.Lines.{decimal, separator_text, line_of, line_len}
use Rattle.line_text.proofs.Decimal.{length-decimal, length-hex}

-- ---- the parts of a line

regroup : (i s e o k n : List ℕ) → ((((i ++ s) ++ e) ++ o) ++ k) ++ n ≡ i ++ (s ++ (e ++ (o ++ (k ++ n))))
regroup i s e o k n = simp append_assoc

module _ (id : ℕ) (b : BlockAddr) where
  abbrev pub to_start : List ℕ
  to_start = decimal id ++ (32 ∷ decimal b.start)

  abbrev pub to_end : List ℕ
  to_end = to_start ++ (32 ∷ decimal b.end)

  abbrev pub to-ordinal : List ℕ
  to-ordinal = to_end ++ (32 ∷ decimal b.first_ordinal)

  abbrev pub to-separator : List ℕ → List ℕ
  to-separator separator = to-ordinal ++ (32 ∷ separator_text separator)

  pub parts-line : (separator : List ℕ) → to-separator separator ++ (10 ∷ []) ≡ line_of id b separator
  unfolding line_of
  parts-line separator =
      regroup (decimal id) (32 ∷ decimal b.start) (32 ∷ decimal b.end) (32 ∷ decimal b.first_ordinal) (32 ∷ separator_text separator)
      (10 ∷ [])

-- ---- their lengths

id-digits : (id : ℕ) → id < 65536 → length (decimal id) ≤ 5
id-digits id h = omega (arith, length-decimal 4 19 id [] (omega arith))

number_digits : (n : ℕ) → n < limit → length (decimal n) ≤ 17
unfolding limit
number_digits n h = omega (arith, length-decimal 16 19 n [] (omega arith))

separator-digits : (separator : List ℕ) → length separator ≤ 1024 → length (separator_text separator) ≤ 2048
separator-digits [] h = omega arith
separator-digits (x ∷ separator) h = omega (arith, length-hex (x ∷ separator))

-- what each part reaches up to
pub record Reach (id : ℕ) (b : BlockAddr) : Type 0 where
  pub own : length (decimal id) ≤ 5
  pub start : length (to_start id b) ≤ 23
  pub end : length (to_end id b) ≤ 41
  pub ordinal : length (to-ordinal id b) ≤ 59

module _ (id : ℕ) (b : BlockAddr) (h : id < 65536) (ok : NumbersOk b) where
  pub reach : Reach id b
  reach =
      let i = id-digits id h in
      let s = number_digits b.start (omega (arith, ok.ordered, ok.end-small)) in
      let e = number_digits b.end ok.end-small in
      let o = number_digits b.first_ordinal ok.ordinal-small in
      record {
        own = i;
        start = simp length-append (omega arith);
        end = simp length-append (omega arith);
        ordinal = simp length-append (omega arith);
      }

  pub separator-reach : (separator : List ℕ) → length separator ≤ 1024 → length (to-separator id b separator) ≤ 2108
  separator-reach separator short =
      omega (arith, reach.ordinal, separator-digits separator short, length-append (to-ordinal id b) (32 ∷ separator_text separator))

  pub line-short : (separator : List ℕ) → length separator ≤ 1024 → length (line_of id b separator) ≤ line_len
  line-short separator short =
      rw (← (parts-line id b separator)) (omega (
        arith,
        separator-reach separator short,
        length-append (to-separator id b separator) (10 ∷ []),
      ))
