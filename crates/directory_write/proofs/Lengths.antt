-- The lengths of the keys, added up, are the length of their bytes.
use mathlib.Core.Path.{◌≡◌, refl, ap, ◌∙◌}
use mathlib.Core.List.{List}
use Prim.Native.Nat.{ℕ, zero, suc, ◌+◌}
use native.Mathlib.Nat.{zero-add}
use native.Mathlib.Numerals.{add-one}
use lib.ListN.{length, length-append}
use Rattle.std.specs.List.{sum_by, range_with_len}
use Rattle.std.proofs.lemmas.List.Sums.{sum_by_from}
use Rattle.directory.specs.Directory.{key_bytes}
use Rattle.directory.specs.Keys.{key_at, keys_at}

pub added-lengths : (area : List ℕ) (stride field : ℕ) (keys : List ℕ) (i count : ℕ)
    → sum_by (λ (j : ℕ). length (key_at area stride field keys j)) (range_with_len i count)
    ≡ length (key_bytes (keys_at area stride field keys i count))
unfolding keys_at key_bytes
added-lengths area stride field keys i zero = refl
added-lengths area stride field keys i (suc count) =
    let len = length (key_at area stride field keys i) in
    let rest = range_with_len (suc i) count in
    rw (
      length-append (key_at area stride field keys i) (key_bytes (keys_at area stride field keys (suc i) count)),
      ← (added-lengths area stride field keys (suc i) count),
      add-one i,
    )
    (sum_by_from (λ (j : ℕ). length (key_at area stride field keys j)) (0 + len) rest
    ∙ ap (λ (k : ℕ). k + sum_by (λ (j : ℕ). length (key_at area stride field keys j)) rest) (zero-add len))
