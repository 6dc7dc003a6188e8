-- Where no item is left, the walk has come to its end.
use Rattle.std.proofs.Common.{◌≡◌, ◌-◌, arith, sym, ◌∙◌}
use Rattle.replay_format.specs.Format.{behind}
use Rattle.replay_format.proofs.Items.{behind_none}
use Rattle.replay_format.proofs.behind_items.Goals as goal

pub returns : goal.returns
returns g c = λ len told.
    let none : c.args.count - c.loop-done._done ≡ 0 = omega arith in
    let walked : c.loop-done.at ≡ behind len c.args.from c.args.count
    = sym (behind_none len c.loop-done.at) ∙ rw none at c.loop-done.invariant.walk len told in
    (walked, omega arith)
