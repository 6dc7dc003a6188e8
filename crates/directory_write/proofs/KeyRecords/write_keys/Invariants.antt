-- The keys left, written from the next place on, give what all keys give.
use Rattle.std.proofs.Common.{◌≡◌, ◌+◌, length}
use Rattle.std.proofs.lemmas.List.Edits.{sets}
use Rattle.directory.specs.Directory.{key_bytes}
use Rattle.directory.proofs.Written.{left}
use Rattle.directory_write.specs.Records.{record_keys}
use Rattle.directory_write.proofs.KeyRecords.write_keys.Given as goal

abbrev pub invariant-loop-i : goal.invariant-loop-i
invariant-loop-i l =
    let kept = left l.self.area.now l.self.stride l.self.field l.self.keys.now l.self.n l.i in
    record {
      place : l.to + length (key_bytes kept) ≡ length (key_bytes (record_keys l.self));
      whole : sets l.fn.out 0 (key_bytes (record_keys l.self)) ≡ sets l.out l.to (key_bytes kept);
    }
