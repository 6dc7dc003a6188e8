-- `BlockAddrStoreWriter::check_rows` meets its contract: the rows are read off what was seen of all records.
use Rattle.std.proofs.Common.{◌≡◌, ℕ, refl, ◌∙◌, rules, tests, arith}
use Rattle.std.proofs.lemmas.Iterator.{YieldsList-from_range}
use Rattle.std.proofs.lemmas.Iterator.Consumers.{fold_from_yields_List}
use Rattle.group.specs.Blocks.{block_of}
use Rattle.store_slice.specs.declared.rows.Seen.{Seen}
use Rattle.store_slice.specs.Records.{none_seen, seen_with, seen_all}
use Rattle.store_slice.proofs.Scan.{default-none, fold-seen, seen_no}
use Rattle.store_slice.proofs.writer.BlockAddrStoreWriter.check_rows.Goals as goal

pub returns : goal.returns
returns g c =
    let bs = g.R.Records.blocks c.args.self.now.records.now in
    let next : Seen → ℕ → Seen = λ s i. seen_with s (block_of bs i) in
    let folded =
    fold_from_yields_List _ next c.default.result c.fold-seen.result c.fold-seen.ensures.ran
    (YieldsList-from_range 0 c.count-n.result c.count-n.result refl (omega arith)) (λ a x b q k. search (rules, tests)) in
    let all : c.fold-seen.result ≡ seen_all none_seen bs =
    folded ∙ rw (default-none c.default.result c.default.ensures, c.count-n.ensures) (fold-seen bs) in
    c.check.ensures ∙ rw (all, c.count-n.ensures) (seen_no bs)
