-- `Areas::key_bad` meets its contract: with no block the last key is empty.
use Rattle.std.proofs.Common.{rules}
use Rattle.builder_rows.proofs.Last.{both-ways, common-none}
use Rattle.builder_rows.proofs.Areas.key_bad.Goals as goal

pub key_bad_behind-requires : goal.key_bad_behind-requires
key_bad_behind-requires c =
    let a = c.args.self.now in
    both-ways c.last_key.result c.last_key.ensures c.map_or-common.ensures
    (λ none zero. common-none a.builder.n a.blocks.now a.keys.now c.args.key.now none zero)
    (λ last is counted. search rules)
