-- Blocks that were read from an area, where the laws speak of the area.
use Rattle.std.proofs.Common.{◌≡◌, ℕ, suc, ◌+◌, ◌<◌, Bool, true, false, true≢false, List, MatchBool, length, sym, ◌∙◌, arith}
use Rattle.std.specs.List.{AllWithin, range_with_len}
use Rattle.std.proofs.lemmas.List.FromFn.{length-range_with_len, get_or-range_with_len}
use native.Mathlib.Nat.{zero-add}
use native.Mathlib.Numerals.{add-one}
use Rattle.group.specs.declared.BlockAddr.{BlockAddr}
use Rattle.group.specs.Blocks.{block_at}
use Rattle.group.specs.Legal.{NumbersOk, Follows}
use Rattle.group.specs.Rows.{are_numbers_bad, is_join_bad, is_ordinal_bad}
use Rattle.group.proofs.Legal.{numbers-ok, follows}

pub numbers-read : (area : List ℕ) (i : ℕ) {b : BlockAddr} {t : Bool} → b ≡ block_at area 3 i → t ≡ are_numbers_bad b → t ≡ false
    → NumbersOk (block_at area 3 i)
numbers-read area i {b = b} e f g = rw (← e) (numbers-ok b (sym f ∙ g))

pub follows-read : (area : List ℕ) (i : ℕ) {b c : BlockAddr} {t u : Bool} → b ≡ block_at area 3 i → c ≡ block_at area 3 (i + 1)
    → t ≡ is_join_bad b c → t ≡ false → u ≡ is_ordinal_bad b c → u ≡ false
    → Follows (block_at area 3 i) (block_at area 3 (suc i))
follows-read area i {b = b} {c = c} e f j p o q = rw (← add-one i, ← e, ← f) (follows b c (sym j ∙ p) (sym o ∙ q))

-- what `all` says of each number of a range from 0 on
pub each-of : (P : ℕ → Type 0) (No : Type 0) (n : ℕ) (r : Bool)
    → MatchBool r (AllWithin P (range_with_len 0 n) 0 (length (range_with_len 0 n))) No
    → r ≡ true → (i : ℕ) → i < n → P i
each-of P No n true m e i h =
    rw (get_or-range_with_len 0 n i 0 h, zero-add i) at (m i 0 (omega arith) (rw (length-range_with_len 0 n) h))
each-of P No n false m e i h = absurd (true≢false (sym e))
