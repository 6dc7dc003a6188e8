-- The pairs left, written behind those of before, give what all pairs give.
use Rattle.std.proofs.Common.{◌≡◌, ◌*◌, ◌≤◌}
use Rattle.std.proofs.lemmas.List.Edits.{sets}
use Rattle.directory.specs.Directory.{pairs}
use Rattle.directory.proofs.Written.{left}
use Rattle.directory_write.specs.Records.{record_keys}
use Rattle.directory_write.proofs.KeyRecords.write_pairs.Given as goal

abbrev pub invariant-loop-i : goal.invariant-loop-i
invariant-loop-i l =
    record {
      most : l.offset ≤ 1024 * l.i;
      whole : sets l.fn.out 0 (pairs 0 (record_keys l.self))
          ≡ sets l.out (8 * l.i) (pairs l.offset (left l.self.area.now l.self.stride l.self.field l.self.keys.now l.self.n l.i));
    }
