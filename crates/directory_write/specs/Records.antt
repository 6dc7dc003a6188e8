-- The keys that the code's records name.
use Rattle.std.specs.Prelude.{ℕ, List}
use Rattle.directory.specs.Keys.{key_at, keys_at}
use Rattle.directory_write.specs.declared.KeyRecords as code

-- key i, and all keys
abbrev pub record_key : code.KeyRecords → ℕ → List ℕ
record_key r i = key_at r.area.now r.stride r.field r.keys.now i

abbrev pub record_keys : code.KeyRecords → List (List ℕ)
record_keys r = keys_at r.area.now r.stride r.field r.keys.now 0 r.n
