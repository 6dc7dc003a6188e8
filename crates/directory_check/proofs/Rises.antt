-- What `any` says of all keys but the first is row 13.
use Rattle.std.proofs.Common.{◌≡◌, ℕ, suc, ◌+◌, ◌-◌, ◌≤◌, Bool, List, refl, arith}
use mathlib.Core.Bool.{not}
use Rattle.std.specs.List.{list_any, range_with_len}
use Rattle.keys.specs.Order.{less}
use Rattle.directory.specs.Read.{key_of, keys_bad}
use Rattle.layout.proofs.Fronts.{any-from}
use Rattle.directory.proofs.Rules.{keys-fronts}

module _ (d : List ℕ) (n : ℕ) where
  -- whether key i, which isn't the first, isn't above the one before it
  abbrev pub falls : ℕ → Bool
  falls i = not (less (key_of d n (i - 1)) (key_of d n i))

  -- what `any` says of all keys but the first
  pub keys-of : 1 ≤ n → list_any falls (range_with_len 1 (n - 1)) ≡ keys_bad d n n
  keys-of some =
      let all : suc (n - 1) ≡ n = omega arith in
      rw all at (any-from (keys-fronts d n) 1 (n - 1) falls (λ i.
      let next : 1 + i ≡ suc i = omega arith in
      let same : suc i - 1 ≡ i = omega arith in
      rw (next, same) refl))
