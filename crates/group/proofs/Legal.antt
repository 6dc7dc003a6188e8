-- Rows 3, 4 and 5 as tests and as facts: a test that fails is the fact, and the fact makes the test fail.
use mathlib.Core.Path.{◌≡◌}
use mathlib.Core.Bool.{false, ◌||◌}
use lib.Dec.{eqb, ltb, leb}
use borrow.Author.Tests.{ltb-false, leb-false, eqb-true, not-false, le-ltb, lt-leb, eq-eqb}
use Rattle.std.proofs.lemmas.Bool.{or_parts}
use Rattle.group.specs.declared.BlockAddr.{BlockAddr}
use Rattle.group.specs.Legal.{limit, NumbersOk, Follows}
use Rattle.group.specs.Rows.{are_numbers_bad, is_join_bad, is_ordinal_bad}

pub numbers-ok : (b : BlockAddr) → are_numbers_bad b ≡ false → NumbersOk b
unfolding are_numbers_bad
numbers-ok b e =
    let first = or_parts (ltb b.end b.start) (leb limit b.end || leb limit b.first_ordinal) e in
    let rest = or_parts (leb limit b.end) (leb limit b.first_ordinal) first.1 in
    record {
      ordered = ltb-false b.end b.start first.0;
      end-small = leb-false limit b.end rest.0;
      ordinal-small = leb-false limit b.first_ordinal rest.1;
    }

pub numbers-good : (b : BlockAddr) → NumbersOk b → are_numbers_bad b ≡ false
unfolding are_numbers_bad
numbers-good b k = simp (le-ltb b.end b.start k.ordered, lt-leb limit b.end k.end-small, lt-leb limit b.first_ordinal k.ordinal-small)

pub follows : (before b : BlockAddr) → is_join_bad before b ≡ false → is_ordinal_bad before b ≡ false → Follows before b
unfolding is_join_bad is_ordinal_bad
follows before b e f = record {
  touches = eqb-true b.start before.end (not-false (eqb b.start before.end) e);
  rises = leb-false b.first_ordinal before.first_ordinal f;
}

pub joins : (before b : BlockAddr) → Follows before b → is_join_bad before b ≡ false
unfolding is_join_bad
joins before b k = simp (eq-eqb b.start before.end k.touches)

pub ordinal-rises : (before b : BlockAddr) → Follows before b → is_ordinal_bad before b ≡ false
unfolding is_ordinal_bad
ordinal-rises before b k = lt-leb b.first_ordinal before.first_ordinal k.rises
