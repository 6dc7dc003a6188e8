-- The pieces of the text, by its three cases: how many there are, and piece i.
use mathlib.Core.Path.{◌≡◌, refl, ap, ◌∙◌}
use mathlib.Core.List.{List, [], ◌∷◌, ◌++◌}
use Prim.Native.Nat.{ℕ, zero, suc, ◌+◌, ◌≤◌, ◌<◌}
use native.Mathlib.Nat.{zero-add, add-zero, suc-add, add-suc}
use native.Mathlib.Omega.{arith}
use lib.ListN.{length, get_or, length-append}
use borrow.Author.Tests.{lt-ltb, le-ltb}
use Rattle.index.specs.declared.SSTableIndexV3.{SSTableIndexV3}
use Rattle.std.specs.Prelude.{Result}
use Rattle.layout.specs.declared.refusals.Refusal.{Refusal}
use Rattle.index.specs.Opening.{load_least_def}
use Rattle.line_text.specs.Lines.{decimal}
use Rattle.line_text.specs.Lines.{too_long_line, refused_text, refused_line}
use Rattle.block_lines.specs.Text.{read_version, max_len, line_at, lines_from, loaded_pieces, blocks_pieces}
use Rattle.line_text.proofs.Decimal.{length-fuel}

module _ (f : List ℕ) where
  pub long-pieces : max_len < length f → blocks_pieces f ≡ too_long_line ∷ []
  unfolding blocks_pieces
  long-pieces h = rw (lt-ltb max_len (length f) h)

  pub short-pieces : length f ≤ max_len → (loaded : Result SSTableIndexV3 Refusal) → load_least_def read_version f ≡ loaded
      → blocks_pieces f ≡ loaded_pieces loaded f
  unfolding blocks_pieces
  short-pieces h loaded e = rw (le-ltb max_len (length f) h, e)

-- the line of a refusal is short
pub refused-short : (k : ℕ) → length (refused_line k) ≤ 29
unfolding refused_line
refused-short k = omega (
  arith,
  length-append refused_text (decimal k ++ (10 ∷ [])),
  length-append (decimal k) (10 ∷ []),
  length-fuel 19 k [],
)

-- ---- a line per block
module _ (f : List ℕ) where
  module _ (opened : SSTableIndexV3) where
    pub length-lines : (id count : ℕ) → length (lines_from opened f id count) ≡ count
    unfolding lines_from
    length-lines id zero = refl
    length-lines id (suc count) = ap suc (length-lines (suc id) count)

    line-from : (id count i : ℕ) → i < count → get_or (lines_from opened f id count) i [] ≡ line_at opened f (id + i)
    unfolding lines_from
    line-from id zero i h = absurd (let z : ⊥ = omega arith in z)
    line-from id (suc count) zero h = rw (add-zero id)
    line-from id (suc count) (suc i) h = line-from (suc id) count i (omega arith) ∙ rw (suc-add id i, add-suc id i)

    pub line-is : (count i : ℕ) → i < count → get_or (lines_from opened f 0 count) i [] ≡ line_at opened f i
    line-is count i h = line-from 0 count i h ∙ rw (zero-add i)
