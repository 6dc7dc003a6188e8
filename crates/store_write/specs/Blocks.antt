-- The blocks of a store of an area, and those of one of its groups.
use Rattle.std.specs.Prelude.{ℕ, ◌*◌, List}
use Rattle.group.specs.Blocks.{blocks_at}
use Rattle.group.specs.declared.BlockAddr.{BlockAddr}
use Rattle.store.specs.Read.{len_of_group}
use Rattle.store_write.specs.declared.AreaStore.{AreaStore}

abbrev pub all_of : AreaStore → List BlockAddr
all_of s = blocks_at s.area.now s.stride 0 s.n

abbrev pub in_group : AreaStore → ℕ → List BlockAddr
in_group s g = blocks_at s.area.now s.stride (s.group_len * g) (len_of_group s.group_len s.n g)
