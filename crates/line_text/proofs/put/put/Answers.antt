-- A part that is copied over a part is stored there.
use Rattle.std.proofs.Common.{◌≡◌, ◌-◌, ◌+◌, length, refl, arith, append_assoc}
use Rattle.std.proofs.lemmas.List.{drop-drop}
use Rattle.std.proofs.lemmas.List.Edits.{sets-eq}
use Rattle.line_text.proofs.put.put.Goals as goal

pub returns : goal.returns
returns c =
    let a = c.args in
    let part : a.at + length a.part.now - a.at ≡ length a.part.now = omega arith in
    (refl, rw (sets-eq a.part.now a.out.now a.at c.requires, part, c.copy_from_slice.ensures.after, append_assoc, drop-drop) (cc))
