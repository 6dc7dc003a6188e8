-- A group whose blocks stand in an area: the area is a group's, and what is planned from it is the record of the blocks read,
-- which a record equals that agrees with it in what the writer chooses.
use Prim.Native.Nat.{ℕ, ◌+◌, ◌-◌, ◌*◌, ◌≤◌, ◌<◌}
use mathlib.Core.Path.{◌≡◌, refl, sym, ap, ap₂, ◌∙◌}
use mathlib.Core.List.{List, ◌∷◌}
use native.Mathlib.Nat.{zero-add}
use native.Mathlib.Numerals.{add-one}
use native.Mathlib.Omega.{arith}
use lib.ListN.{length}
use Rattle.layout.specs.Layout.{max_group_len}
use Rattle.serialize.specs.Digits.{le_val}
use Rattle.group.specs.declared.BlockAddr.{BlockAddr}
use Rattle.group.specs.declared.BlockAddrBlockMetadata.{BlockAddrBlockMetadata}
use Rattle.group.specs.Blocks.{block_of, block_at, blocks_at}
use Rattle.group.specs.Legal.{Legal}
use Rattle.group.specs.Write.{meta_of}
use Rattle.group.specs.Read.{range_read, ordinal_read, block_read}
use Rattle.group.specs.Facts.{GroupArea}
use Rattle.group.proofs.Blocks.{blocks_at-at, legal-same}
use Rattle.group.proofs.Metadata.{same-meta}
use Rattle.store.proofs.Groups.{blocks_at-cons}
use Rattle.store_canonical.specs.Canonical.{blocks_from, group_first, group_rest, SamePlan}
use Rattle.store_canonical.proofs.Blocks.{length-blocks_from, blocks_from-at}

-- the first of a list and the others
same_first : (b c : BlockAddr) (bs cs : List BlockAddr) → b ∷ bs ≡ c ∷ cs → b ≡ c
same_first b c bs cs e = cc

same-others : (b c : BlockAddr) (bs cs : List BlockAddr) → b ∷ bs ≡ c ∷ cs → bs ≡ cs
same-others b c bs cs e = cc

module _ (m : BlockAddrBlockMetadata) (bytes area : List ℕ)
    (holds : blocks_at area 3 0 (m.block_len + 1) ≡ blocks_from (block_read m (le_val bytes)) 0 (m.block_len + 1)) where
  abbrev own : ℕ → BlockAddr
  own = block_read m (le_val bytes)

  own_at : (i : ℕ) → i < m.block_len + 1 → block_at area 3 (0 + i) ≡ own i
  own_at i h =
      sym (blocks_at-at area 3 0 (m.block_len + 1) i h)
      ∙ ap (λ (l : List BlockAddr). block_of l i) holds
      ∙ blocks_from-at own 0 (m.block_len + 1) i h
      ∙ ap own (zero-add i)

  pub area-group : m.block_len < max_group_len → 3 * (m.block_len + 1) ≤ length area → Legal own (m.block_len + 1)
      → GroupArea area 3 0 (m.block_len + 1)
  area-group few room legal = record {
    some = omega arith;
    few = omega arith;
    wide = omega arith;
    inside = omega arith;
    legal = legal-same own_at legal;
  }

  lists : block_at area 3 0 ∷ blocks_at area 3 (0 + 1) (m.block_len + 1 - 1) ≡ group_first m bytes ∷ group_rest m bytes
  unfolding blocks_from
  lists =
      sym (blocks_at-cons area 3 0 (m.block_len + 1) (omega arith))
      ∙ holds ∙ ap (blocks_from own 0) (add-one m.block_len)

  pub planned-is : (choose : List ℕ → ℕ) (offset : ℕ) (planned : BlockAddrBlockMetadata)
      → planned ≡ meta_of choose offset (block_at area 3 0) (blocks_at area 3 (0 + 1) (m.block_len + 1 - 1))
      → planned ≡ meta_of choose offset (group_first m bytes) (group_rest m bytes)
  planned-is choose offset planned e =
      e ∙ ap₂ (meta_of choose offset) (same_first _ _ _ _ lists) (same-others _ _ _ _ lists)

-- equal records agree
pub same-plans : (a b : BlockAddrBlockMetadata) → a ≡ b → SamePlan a b
same-plans a b e = record {
  offset = ap (λ (x : BlockAddrBlockMetadata). x.offset) e;
  range-slope = ap (λ (x : BlockAddrBlockMetadata). x.range_start_slope) e;
  ordinal-slope = ap (λ (x : BlockAddrBlockMetadata). x.first_ordinal_slope) e;
  ordinal-width = ap (λ (x : BlockAddrBlockMetadata). x.first_ordinal_nbits) e;
  range-width = ap (λ (x : BlockAddrBlockMetadata). x.range_start_nbits) e;
}

-- first values and the count are read from the record itself
pub planned-same : (m : BlockAddrBlockMetadata) (bytes : List ℕ) (choose : List ℕ → ℕ) (offset : ℕ)
    → SamePlan m (meta_of choose offset (group_first m bytes) (group_rest m bytes)) → m ≡ meta_of choose offset (group_first m bytes)
    (group_rest m bytes)
unfolding meta_of block_read range_read ordinal_read
planned-same m bytes choose offset same =
    same-meta same.offset refl refl same.range-slope same.ordinal-slope same.ordinal-width same.range-width
    (sym (length-blocks_from (block_read m (le_val bytes)) 1 m.block_len))
