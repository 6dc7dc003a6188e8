-- Lengths and limits of the layouts (document 01, "Records" and the table's rows 1, 2, 7 and 12; document 02, wishes 1 and 5), each in one
-- place.
use Rattle.std.specs.Prelude.{ℕ}

-- the most blocks that an index has
abbrev pub max_blocks : ℕ
max_blocks = 65536

-- the most blocks of a group that inner functions and laws speak of
abbrev pub max_group_len : ℕ
max_group_len = 256

-- the blocks of a group in an index of version 3 and of version 4; the last group may have fewer
abbrev pub store_block_len : ℕ
store_block_len = 128

abbrev pub store_block_len_v4 : ℕ
store_block_len_v4 = 256

-- the bytes of a group record
abbrev pub meta_len : ℕ
meta_len = 36

-- the bytes of a key's pair in the directory
abbrev pub pair_len : ℕ
pair_len = 8

-- the most bytes of a key
abbrev pub max_key_len : ℕ
max_key_len = 1024

-- the most keys of a batch
abbrev pub max_batch_keys : ℕ
max_batch_keys = 64
