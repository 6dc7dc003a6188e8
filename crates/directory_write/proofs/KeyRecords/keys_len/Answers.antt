-- The keys' lengths are added up, and each key has at most 1,024 bytes.
use Rattle.std.proofs.Common.{ℕ, ◌∙◌, arith, length, rules}
use Rattle.std.proofs.lemmas.Iterator.{YieldsList-from_map, YieldsList-from_range}
use Rattle.std.proofs.lemmas.Iterator.Consumers.{sum_by_from_yields_List, fits_by_from_yields_list}
use Rattle.directory.proofs.Lengths.{length-keys_at-bytes-le}
use Rattle.directory_write.specs.Records.{record_key}
use Rattle.directory_write.proofs.Lengths.{added-lengths}
use Rattle.directory_write.proofs.KeyRecords.keys_len.Goals as goal

pub sum-requires-clause-fits : goal.sum-requires-clause-fits
sum-requires-clause-fits c =
    let r = c.args.self.now in
    let all = added-lengths r.area.now r.stride r.field r.keys.now 0 r.n in
    fits_by_from_yields_list _ _ c.map.result _
    (YieldsList-from_map _ (λ (j : ℕ). length (record_key r j))
    (YieldsList-from_range 0 r.n r.n c.map.ensures.source (omega arith)) c.map.ensures.closure
    (λ x r q k. search rules))
    (omega (arith, all, length-keys_at-bytes-le r.area.now r.stride r.field r.keys.now r.n r.stand, r.stand.few))

pub returns : goal.returns
returns c =
    let r = c.args.self.now in
    sum_by_from_yields_List _ _ c.map.result _ c.sum.ensures.ran
    (YieldsList-from_map _ (λ (j : ℕ). length (record_key r j))
    (YieldsList-from_range 0 r.n r.n c.map.ensures.source (omega arith)) c.map.ensures.closure
    (λ x r q k. search rules))
    ∙ added-lengths r.area.now r.stride r.field r.keys.now 0 r.n
