-- `Areas::key_bad_behind` meets its contract: row 6 asks only after a block.
use Rattle.std.proofs.Common.{rules, ◌∙◌}
use Rattle.builder_rows.specs.Shown.{shown}
use Rattle.builder_rows.proofs.Last.{both-ways, key-bad-none, key-bad-some}
use Rattle.builder_rows.proofs.Areas.key_bad_behind.Goals as goal

pub returns : goal.returns
returns c =
    let a = c.args.self.now in
    let key = c.args.key.now in
    both-ways c.last_key.result c.last_key.ensures c.is_some_and.ensures
    (λ none f. f ∙ key-bad-none (shown a) key none)
    (λ last is tested. search (rules, key-bad-some))
