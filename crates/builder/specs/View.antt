-- What the table's rows look at. The builder with its areas has one, and so has the plain machine.
use Rattle.std.specs.Prelude.{ℕ, List}
use Rattle.group.specs.declared.BlockAddr.{BlockAddr}
pub use Rattle.builder.specs.declared.record.KeyPlace.{KeyPlace}

-- how many numbers a block has (document 01, "Records")
abbrev pub stride : ℕ
stride = 5

-- all zeros, which stands where there is no block
abbrev pub missing_place : KeyPlace
missing_place = record { offset = 0; len = 0 }

-- the count, the last block with its separator and its key's place, where the next key goes, and both areas' lengths
pub record View : Type 0 where
  pub n : ℕ
  pub last : BlockAddr
  pub last_key : List ℕ
  pub place : KeyPlace
  pub next_key : ℕ
  pub room : ℕ
  pub key_room : ℕ
