-- Five numbers over a part are five stores.
use Rattle.std.proofs.Common.{◌≡◌, ◌-◌, ◌+◌, length, arith, ap, length-take, length-drop, append_assoc}
use Rattle.std.proofs.lemmas.List.{drop-drop}
use Rattle.std.proofs.lemmas.List.Edits.{sets-eq}
use Rattle.replay_cells.proofs.Cells.write.Goals as goal

pub returns : goal.returns
returns c =
    let part : c.args.at + 5 - c.args.at ≡ 5 = omega arith in
    let long : length c.args.self.0 ≡ 5
    = omega (arith, ap length c.copy_from_slice.ensures.after, simp (length-take, length-drop) at c.copy_from_slice.ensures.len) in
    record {
      written = rw (sets-eq c.args.self.0 c.args.answers.now c.args.at (omega arith), long, part, append_assoc, drop-drop) (cc);
      five = long;
    }
