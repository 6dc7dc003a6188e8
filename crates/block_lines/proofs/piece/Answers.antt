-- Of the text's three cases each has its piece.
use Rattle.std.proofs.Common.{◌≡◌, ◌<◌, ◌≤◌, ℕ, List, [], ◌∷◌, Ok, Err, length, get_or, sym, ap, subst, ◌∙◌, arith}
use Rattle.layout.specs.Refusals.{number_of}
use Rattle.layout.specs.Versions.{group_len_of}
use Rattle.index.specs.declared.SSTableIndexV3.{SSTableIndexV3}
use Rattle.index.specs.Opening.{load_least_def, least_terms, OpensBy, Opens}
use Rattle.index.proofs.Terms.{own-version, opens-own}
use Rattle.line_text.specs.Lines.{too_long_line, refused_line}
use Rattle.block_lines.specs.Text.{read_version, max_len, line_at, lines_from, blocks_pieces, piece_at, IsPiece}
use Rattle.block_lines.proofs.Opened.{line-fits}
use Rattle.block_lines.proofs.TextPieces.{long-pieces, short-pieces, refused-short, length-lines, line-is}
use Rattle.block_lines.proofs.piece.Goals as goal

-- the one piece there is
only : (pieces : List (List ℕ)) (piece : List ℕ) (i : ℕ) → pieces ≡ piece ∷ [] → i < length pieces → piece ≡ get_or pieces i []
only pieces piece i e h =
    let z : i ≡ 0 = omega (arith, ap length e) in
    rw (e, z)

-- the lines of an opened index
module _ (f : List ℕ) (opened : SSTableIndexV3) (few : length f ≤ max_len) (loaded : load_least_def read_version f ≡ Ok opened) where
  opens : Opens f opened
  opens =
      let L = group_len_of read_version in
      subst (λ (v : ℕ). OpensBy (group_len_of v) f opened) (sym (own-version L read_version (least_terms L f) f opened loaded))
      (opens-own L read_version (least_terms L f) f opened loaded)

  lines : blocks_pieces f ≡ lines_from opened f 0 opened.n
  lines = short-pieces f few (Ok opened) loaded

  below : (i : ℕ) → i < length (blocks_pieces f) → i < opened.n
  below i h = omega (arith, ap length lines, length-lines f opened 0 opened.n)

  is_line : (i : ℕ) → i < length (blocks_pieces f) → (text : List ℕ) → text ≡ line_at opened f i → IsPiece f i text
  is_line i h text e =
      let piece : piece_at f i ≡ line_at opened f i = rw lines (line-is f opened opened.n i (below i h)) in
      let fits = line-fits f opened opens i (below i h) in
      record { whole = e ∙ sym piece; short = rw e fits }

pub returns-then-data-gt-MAX_LEN : goal.returns-then-data-gt-MAX_LEN
returns-then-data-gt-MAX_LEN c = record {
  whole = only _ too_long_line c.args.i (long-pieces c.args.«data».now c.if-data-gt-MAX_LEN.true) c.requires.1;
  short = omega arith;
}

pub line-requires : goal.line-requires
line-requires c =
    let f = c.args.«data».now in
    let loaded : load_least_def read_version f ≡ Ok c.in-Ok.opened = sym c.requires.0 ∙ c.in-Ok.is in
    let few = c.if-data-gt-MAX_LEN.false in
    (opens f c.in-Ok.opened few loaded, below f c.in-Ok.opened few loaded c.args.i c.requires.1)

pub returns-in-Ok : goal.returns-in-Ok
returns-in-Ok c =
    let loaded : load_least_def read_version c.args.«data».now ≡ Ok c.in-Ok.opened = sym c.requires.0 ∙ c.in-Ok.is in
    is_line c.args.«data».now c.in-Ok.opened c.if-data-gt-MAX_LEN.false loaded c.args.i c.requires.1 _ c.line.ensures.same

pub returns-in-Err : goal.returns-in-Err
returns-in-Err c =
    let pieces = short-pieces c.args.«data».now c.if-data-gt-MAX_LEN.false (Err c.in-Err.refusal) (sym c.requires.0 ∙ c.in-Err.is) in
    record {
      whole = only _ (refused_line (number_of c.in-Err.refusal)) c.args.i pieces c.requires.1;
      short = omega (arith, refused-short (number_of c.in-Err.refusal));
    }
