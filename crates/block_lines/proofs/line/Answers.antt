-- The block and the separator are those that the index has for the id, and the line fits.
use Rattle.std.proofs.Common.{◌∙◌}
use Rattle.block_lines.proofs.Opened.{separator-is, line-fits}
use Rattle.block_lines.proofs.line.Goals as goal

pub returns-clause-same : goal.returns-clause-same
returns-clause-same c =
    let found = c.separator-bytes.ensures ∙ separator-is c.args.«data».now c.args.opened c.requires.0 c.args.id c.requires.1 in
    rw (c.block-block.ensures.0, found)

pub returns-clause-short : goal.returns-clause-short
returns-clause-short c =
    let a = c.args in
    let found = c.separator-bytes.ensures ∙ separator-is a.«data».now a.opened c.requires.0 a.id c.requires.1 in
    rw (c.block-block.ensures.0, found) (line-fits a.«data».now a.opened c.requires.0 a.id c.requires.1)
