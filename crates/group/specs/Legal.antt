-- What rows 3, 4 and 5 of document 01's table ask of blocks.
use Rattle.std.specs.Prelude.{ℕ, suc, ◌^◌, ◌≤◌, ◌<◌, ◌≡◌}
use Rattle.group.specs.declared.BlockAddr.{BlockAddr}

-- ends and ordinals are below the limit
unfoldable pub limit : ℕ
limit = 2 ^ 55

-- row 3 isn't hit
pub record NumbersOk (b : BlockAddr) : Type 0 where
  pub ordered : b.start ≤ b.end
  pub end-small : b.end < limit
  pub ordinal-small : b.first_ordinal < limit

-- rows 4 and 5 aren't hit by the block c behind b
pub record Follows (b c : BlockAddr) : Type 0 where
  pub touches : c.start ≡ b.end
  pub rises : b.first_ordinal < c.first_ordinal

-- n blocks, given by their number, keep the three rows
pub record Legal (block : ℕ → BlockAddr) (n : ℕ) : Type 0 where
  pub numbers : (i : ℕ) → i < n → NumbersOk (block i)
  pub follows : (i : ℕ) → suc i < n → Follows (block i) (block (suc i))
