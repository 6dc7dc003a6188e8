-- Row 20 over the keys of a directory.
use mathlib.Core.Path.{refl}
use mathlib.Core.List.{List}
use Prim.Native.Nat.{ℕ}
use Rattle.layout.proofs.Fronts.{Fronts}
use Rattle.directory.specs.Read.{key_outside}
use Rattle.listing.specs.Listing.{keys_outside}

module _ (d : List ℕ) (n : ℕ) where
  pub outside-fronts : Fronts (keys_outside d n) (key_outside d n)
  unfolding keys_outside
  outside-fronts = record { none = refl; more = λ m. refl }
