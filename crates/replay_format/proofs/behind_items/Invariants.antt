-- The walk from the next place over the items left ends where the whole walk does.
use Rattle.std.proofs.Common.{◌≡◌, ◌-◌, ◌<◌, ◌^◌, ℕ, Option}
use Rattle.replay_format.specs.Format.{behind}
use Rattle.replay_format.specs.Tags.{IsLen}
use Rattle.replay_format.proofs.behind_items.Given as goal

abbrev pub invariant-loop-done : goal.invariant-loop-done
invariant-loop-done g l = record {
  there : 0 < l.at;
  walk : (len : ℕ → ℕ) → ((at : ℕ) (r : Option ℕ) → at < 2 ^ 64 → goal.F-post g l.item_len at r → IsLen r (len at))
      → behind len l.at (l.count - l._done) ≡ behind len l.from l.count;
}
