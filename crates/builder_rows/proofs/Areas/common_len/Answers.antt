-- `Areas::common_len` meets its contract: with no block the last key is empty.
use Rattle.std.proofs.Common.{rules}
use Rattle.builder_rows.proofs.Last.{both-ways, common-none}
use Rattle.builder_rows.proofs.Areas.common_len.Goals as goal

pub returns : goal.returns
returns c =
    let a = c.args.self.now in
    both-ways c.last_key.result c.last_key.ensures c.map_or.ensures
    (λ none zero. common-none a.builder.n a.blocks.now a.keys.now c.args.key.now none zero)
    (λ last is counted. search rules)
