-- The sum fits, since each key has at most 1,024 bytes.
use Rattle.std.proofs.Common.{arith}
use Rattle.directory.proofs.Lengths.{length-keys_at-bytes-le, length-keys_at-directory}
use Rattle.directory_write.proofs.KeyRecords.directory_len.Goals as goal

pub overflow_add-result-2 : goal.overflow_add-result-2
overflow_add-result-2 c =
    let r = c.args.self.now in
    omega (arith, length-keys_at-bytes-le r.area.now r.stride r.field r.keys.now r.n r.stand, r.stand.few, c.keys_len.ensures)

pub returns : goal.returns
returns c =
    let r = c.args.self.now in
    omega (arith, length-keys_at-directory r.area.now r.stride r.field r.keys.now r.n, c.keys_len.ensures)
