-- All that the program `blocks` prints of the bytes f that it reads: pieces, one after the other.
use Rattle.std.specs.Prelude.{ℕ, zero, suc, ◌≤◌, ◌≡◌, Result, Ok, Err, cond, ltb, length, get_or}
use mathlib.Core.List.{List, [], ◌∷◌, flatten}
use Rattle.index.specs.declared.SSTableIndexV3.{SSTableIndexV3}
use Rattle.layout.specs.declared.refusals.Refusal.{Refusal}
use Rattle.layout.specs.Refusals.{number_of}
use Rattle.index.specs.Parts.{separator_in}
use Rattle.index.specs.Opening.{load_least_def}
use Rattle.block_lines.specs.Opened.{opened_block}
use Rattle.line_text.specs.Lines.{line_of, too_long_line, refused_line, line_len}

-- the version that the program reads
abbrev pub read_version : ℕ
read_version = 3

-- the longest input that is taken
abbrev pub max_len : ℕ
max_len = 65536

-- the line of block id of an opened index
abbrev pub line_at : SSTableIndexV3 → List ℕ → ℕ → List ℕ
line_at opened f id = line_of id (opened_block opened f id) (separator_in f id)

-- the lines of `count` blocks from id on
unfoldable pub lines_from : SSTableIndexV3 → List ℕ → ℕ → ℕ → List (List ℕ)
lines_from opened f id zero = []
lines_from opened f id (suc count) = line_at opened f id ∷ lines_from opened f (suc id) count

-- by what opening with that version and the least number of terms answers: a line per block, or the one of the refusal
abbrev pub loaded_pieces : Result SSTableIndexV3 Refusal → List ℕ → List (List ℕ)
loaded_pieces (Ok opened) f = lines_from opened f 0 opened.n
loaded_pieces (Err refusal) f = refused_line (number_of refusal) ∷ []

unfoldable pub blocks_pieces : List ℕ → List (List ℕ)
blocks_pieces f = cond (ltb max_len (length f)) (too_long_line ∷ []) (loaded_pieces (load_least_def read_version f) f)

-- all of them, joined: the whole text
unfoldable pub blocks_text : List ℕ → List ℕ
blocks_text f = flatten (blocks_pieces f)

-- piece i
abbrev pub piece_at : List ℕ → ℕ → List ℕ
piece_at f i = get_or (blocks_pieces f) i []

-- a text that is piece i; no piece is longer than the longest line
pub record IsPiece (f : List ℕ) (i : ℕ) (text : List ℕ) : Type 0 where
  pub whole : text ≡ piece_at f i
  pub short : length text ≤ line_len
