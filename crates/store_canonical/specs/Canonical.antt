-- A store that is, byte for byte, what the writer makes of the blocks read in it (document 02, wish 3). L is the group's length;
-- `choose` gives a slope for values.
use Rattle.std.specs.Prelude.{ℕ, zero, suc, ◌-◌, ◌*◌, ◌/◌, ◌%◌, ◌^◌, ◌≡◌, Bool, ◌&&◌, List, [], ◌∷◌, length, take}
use Rattle.serialize.specs.Digits.{le_val}
use Rattle.bitpacker.specs.Bits.{bytes_of}
use Rattle.bitpacker.specs.Fields.{group_bits}
use Rattle.group.specs.declared.BlockAddr.{BlockAddr}
use Rattle.group.specs.declared.BlockAddrBlockMetadata.{BlockAddrBlockMetadata}
use Rattle.group.specs.Write.{meta_of, addr_bytes}
use Rattle.group.specs.Read.{block_read}
use Rattle.store.specs.Store.{group_count, group_records, addrs}
use Rattle.store.specs.Read.{store_block}
use Rattle.store_canonical.specs.Same.{same_bytes}

-- `count` blocks from block i on, given by their number
unfoldable pub blocks_from : (ℕ → BlockAddr) → ℕ → ℕ → List BlockAddr
blocks_from block i zero = []
blocks_from block i (suc count) = block i ∷ blocks_from block (suc i) count

-- the blocks read in a store of n blocks
abbrev pub store_blocks : ℕ → List ℕ → List ℕ → ℕ → List BlockAddr
store_blocks L recs addr n = blocks_from (store_block L recs addr) 0 n

-- the group records and the address bytes are those that the writer makes of these blocks
unfoldable pub is_store_canonical : (List ℕ → ℕ) → ℕ → List ℕ → List ℕ → ℕ → Bool
is_store_canonical choose L recs addr n =
    same_bytes recs (group_records choose L (group_count L n) 0 (store_blocks L recs addr n))
    && same_bytes addr (addrs choose L (group_count L n) (store_blocks L recs addr n))

-- ---- one group, whose address bytes are the front of `bytes`

-- its first block, and those after it
abbrev pub group_first : BlockAddrBlockMetadata → List ℕ → BlockAddr
group_first m bytes = block_read m (le_val bytes) 0

abbrev pub group_rest : BlockAddrBlockMetadata → List ℕ → List BlockAddr
group_rest m bytes = blocks_from (block_read m (le_val bytes)) 1 m.block_len

-- its record is the writer's, with its bits at `offset`, and so are its bits
pub record GroupCanonical (choose : List ℕ → ℕ) (offset : ℕ) (m : BlockAddrBlockMetadata) (bytes : List ℕ) : Type 0 where
  pub meta : m ≡ meta_of choose offset (group_first m bytes) (group_rest m bytes)
  pub bits : take (length (addr_bytes m (group_first m bytes) (group_rest m bytes))) bytes
      ≡ addr_bytes m (group_first m bytes) (group_rest m bytes)

-- the bits that fill its last byte
abbrev pub padding_of : BlockAddrBlockMetadata → List ℕ → ℕ
padding_of m bytes =
    let bits = group_bits m.range_start_nbits m.first_ordinal_nbits m.block_len in
    le_val bytes / 2 ^ bits % 2 ^ (8 * bytes_of bits - bits)

-- two records agree in what the writer chooses: where the bits stand, slopes and widths
pub record SamePlan (a b : BlockAddrBlockMetadata) : Type 0 where
  pub offset : a.offset ≡ b.offset
  pub range-slope : a.range_start_slope ≡ b.range_start_slope
  pub ordinal-slope : a.first_ordinal_slope ≡ b.first_ordinal_slope
  pub ordinal-width : a.first_ordinal_nbits ≡ b.first_ordinal_nbits
  pub range-width : a.range_start_nbits ≡ b.range_start_nbits
