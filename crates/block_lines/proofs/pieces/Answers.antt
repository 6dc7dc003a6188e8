-- One line where the input is too long or refused, else a line per block.
use Rattle.std.proofs.Common.{◌≡◌, ℕ, List, Result, sym, ◌∙◌, Ok, Err, length, MatchResult, rules}
use Rattle.layout.specs.declared.refusals.Refusal.{Refusal}
use Rattle.index.specs.declared.SSTableIndexV3.{SSTableIndexV3}
use Rattle.block_lines.specs.Text.{loaded_pieces}
use Rattle.block_lines.proofs.TextPieces.{long-pieces, short-pieces, length-lines}
use Rattle.block_lines.proofs.pieces.Goals as goal

-- a line per block, or one
count-is : (f : List ℕ) (loaded : Result SSTableIndexV3 Refusal) (n : ℕ) (P : SSTableIndexV3 → Type 0) (Q : Refusal → Type 0)
    → MatchResult loaded P Q → ((opened : SSTableIndexV3) → P opened → n ≡ opened.n) → ((refusal : Refusal) → Q refusal → n ≡ 1)
    → n ≡ length (loaded_pieces loaded f)
count-is f (Ok opened) n P Q h p q = p opened h ∙ sym (length-lines f opened 0 opened.n)
count-is f (Err refusal) n P Q h p q = q refusal h

pub returns-then-data-gt-MAX_LEN : goal.returns-then-data-gt-MAX_LEN
returns-then-data-gt-MAX_LEN c = rw (long-pieces c.args.«data».now c.if-data-gt-MAX_LEN.true)

pub returns : goal.returns
returns c =
    let f = c.args.«data».now in
    rw (short-pieces f c.if-data-gt-MAX_LEN.false c.args.loaded (sym c.requires))
    (count-is f c.args.loaded c.map_or.result _ _ c.map_or.ensures (λ opened p. search rules) (λ refusal q. search rules))
