-- The store (SPECIFICATION 3.2): the group records with their length before them, and the groups' bits.
-- L is the group's length; `choose` gives a slope for values.
use Rattle.std.specs.Prelude.{ℕ, zero, suc, ◌+◌, ◌-◌, ◌*◌, ◌/◌, List, [], ◌∷◌, ◌++◌, length, take, drop}
use Rattle.layout.specs.Layout.{meta_len}
use Rattle.serialize.specs.Digits.{le_bytes}
use Rattle.group.specs.declared.BlockAddr.{BlockAddr}
use Rattle.group.specs.Meta.{meta_bytes}
use Rattle.group.specs.Write.{meta_of, addr_bytes}

-- n blocks make this many groups of L; the last may have fewer
abbrev pub group_count : ℕ → ℕ → ℕ
group_count L n = (n + (L - 1)) / L

-- the record and the bits of one group; its bits don't depend on where they stand
unfoldable pub group_record : (List ℕ → ℕ) → ℕ → List BlockAddr → List ℕ
group_record choose offset [] = []
group_record choose offset (b ∷ bs) = meta_bytes (meta_of choose offset b bs)

unfoldable pub group_addrs : (List ℕ → ℕ) → List BlockAddr → List ℕ
group_addrs choose [] = []
group_addrs choose (b ∷ bs) = addr_bytes (meta_of choose 0 b bs) b bs

-- the records of k groups, whose bits begin at `offset` and have no byte between them
unfoldable pub group_records : (List ℕ → ℕ) → ℕ → ℕ → ℕ → List BlockAddr → List ℕ
group_records choose L zero offset bs = []
group_records choose L (suc k) offset bs =
    group_record choose offset (take L bs) ++ group_records choose L k (offset + length (group_addrs choose (take L bs))) (drop L bs)

-- the bits of k groups, each on a new byte
unfoldable pub addrs : (List ℕ → ℕ) → ℕ → ℕ → List BlockAddr → List ℕ
addrs choose L zero bs = []
addrs choose L (suc k) bs = group_addrs choose (take L bs) ++ addrs choose L k (drop L bs)

-- the store of blocks, 0 and 1 included
unfoldable pub store_bytes : (List ℕ → ℕ) → ℕ → List BlockAddr → List ℕ
store_bytes choose L bs =
    le_bytes 8 (meta_len * group_count L (length bs))
    ++ (group_records choose L (group_count L (length bs)) 0 bs ++ addrs choose L (group_count L (length bs)) bs)
