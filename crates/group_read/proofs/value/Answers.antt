-- No sum wraps, and the limit of the code is the limit.
use Rattle.std.proofs.Common.{◌≡◌, ℕ, ◌-◌, ◌*◌, ◌^◌, ◌≤◌, ◌<◌, cond, ltb, refl, arith}
use Rattle.std.proofs.lemmas.Nat.{one_shl}
use borrow.Author.Tests.{lt-ltb, le-ltb}
use native.Mathlib.Nat.{mul-le-mul}
use Rattle.group.specs.Legal.{limit}
use Rattle.group.specs.Read.{value_read}
use Rattle.group.proofs.Limit.{limit-high}
use Rattle.group_read.proofs.value.Goals as goal

product_small : (slope i : ℕ) → slope < 2 ^ 32 → i ≤ 65536 → slope * i ≤ 2 ^ 32 * 65536
product_small slope i h k = mul-le-mul {n₂ = 2 ^ 32} (omega arith) k

-- the limit below 0, the difference from there on
below : (a b l : ℕ) → a < b → l ≡ cond (ltb a b) l (a - b)
below a b l h = rw (lt-ltb a b h) refl

above : (a b l : ℕ) → b ≤ a → a - b ≡ cond (ltb a b) l (a - b)
above a b l h = rw (le-ltb a b h) refl

pub overflow_add-sum : goal.overflow_add-sum
overflow_add-sum c = omega (arith, limit-high)

pub overflow_add-sum-2 : goal.overflow_add-sum-2
overflow_add-sum-2 c =
    rw c.from.ensures (omega (arith, limit-high, product_small c.args.line.slope c.args.i (omega arith) (omega arith)))

pub returns-then-sum-shift : goal.returns-then-sum-shift
unfolding value_read limit
returns-then-sum-shift c = rw (one_shl (c.args.line.nbits - 1) 64 (omega arith), c.from.ensures) at (below _ _ limit c.if-sum-shift.true)

pub returns-else-sum-shift : goal.returns-else-sum-shift
unfolding value_read limit
returns-else-sum-shift c =
    let n = c.args.line.nbits in
    rw (c.from.ensures, one_shl (n - 1) 64 (omega arith))
    (above _ _ limit (rw (one_shl (n - 1) 64 (omega arith), c.from.ensures) at c.if-sum-shift.false))
