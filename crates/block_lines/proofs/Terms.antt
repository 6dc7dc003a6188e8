-- The text of a file doesn't depend on its number of terms: rows 10 to 16 alone decide, and a line has nothing of that number.
use Prim.Native.Nat.{ℕ, zero, suc, ◌≤◌, ◌<◌}
use mathlib.Core.Path.{◌≡◌, refl, sym, ap, ap₂, ◌∙◌}
use mathlib.Core.List.{List, ◌∷◌, flatten, append-nil}
use Rattle.std.specs.Prelude.{Ok, Err}
use native.Mathlib.Omega.{arith}
use lib.ListN.{length}
use Rattle.layout.specs.Refusals.{number_of}
use Rattle.layout.specs.Versions.{version_bad, version_no, group_len_of}
use Rattle.index.specs.declared.SSTableIndexV3.{SSTableIndexV3}
use Rattle.index.specs.Parts.{count_in, block_in, separator_in}
use Rattle.index.specs.Opening.{file_no, opened_of, least_terms, refusal_of}
use Rattle.index.proofs.Refusals.{refusal-number, file_no-most}
use Rattle.index.proofs.Terms.{least-refused, least-taken}
use Rattle.line_text.specs.Lines.{line_of, refused_line}
use Rattle.block_lines.specs.Text.{read_version, max_len, lines_from, blocks_text}
use Rattle.block_lines.proofs.TextPieces.{short-pieces}

-- the lines of two records of one version differ in nothing
same-lines : (a b : SSTableIndexV3) (f : List ℕ) (id count : ℕ) → a.version ≡ b.version → lines_from a f id count ≡ lines_from b f id count
unfolding lines_from
same-lines a b f id zero e = refl
same-lines a b f id (suc count) e =
    ap₂ (λ (line : List ℕ) (rest : List (List ℕ)). line ∷ rest)
    (ap (λ (v : ℕ). line_of id (block_in (group_len_of v) f id) (separator_in f id)) e)
    (same-lines a b f (suc id) count e)

-- the groups of the version that is read
abbrev read_len : ℕ
read_len = group_len_of read_version

read-good : version_no read_version ≡ 0
unfolding version_no version_bad
read-good = refl

module _ (f : List ℕ) (short : length f ≤ max_len) where
  kept : file_no read_len f ≡ 0 → (terms : ℕ) → blocks_text f ≡ flatten (lines_from (opened_of read_version terms f) f 0 (count_in f))
  unfolding blocks_text opened_of
  kept e terms =
      let least = opened_of read_version (least_terms read_len f) f in
      let pieces = short-pieces f short (Ok least) (sym (least-taken read_len read_version f read-good e)) in
      ap flatten (pieces ∙ same-lines least (opened_of read_version terms f) f 0 (count_in f) refl)

  refused : 0 < file_no read_len f → blocks_text f ≡ refused_line (file_no read_len f)
  unfolding blocks_text flatten
  refused h =
      let r = refusal_of (file_no read_len f) in
      let no = refusal-number (file_no read_len f) h (omega (arith, file_no-most read_len f)) in
      let pieces = short-pieces f short (Err r) (sym (least-refused read_len read_version f read-good r no)) in
      ap flatten pieces ∙ append-nil (refused_line (number_of r)) ∙ ap refused_line no

-- the text of a file that is short enough
pub record RowsText (f : List ℕ) : Type 0 where
  -- one that keeps rows 10 to 16 with the groups of that version: the lines of its blocks, whatever number of terms its record has
  pub kept : file_no read_len f ≡ 0 → (terms : ℕ) → blocks_text f ≡ flatten (lines_from (opened_of read_version terms f) f 0 (count_in f))
  -- any other: the line of the row that it hits, which is never 28 and never 30
  pub refused : 0 < file_no read_len f → blocks_text f ≡ refused_line (file_no read_len f)
  pub most : file_no read_len f ≤ 16

pub blocks-text-rows : (f : List ℕ) → length f ≤ max_len → RowsText f
blocks-text-rows f short = record { kept = kept f short; refused = refused f short; most = file_no-most read_len f }
