-- Whether an index is, byte for byte, the one that finish makes from the blocks and separators read in it.
use Rattle.std.specs.Prelude.{ℕ, ◌≡◌, cond, List}
use Rattle.layout.specs.Versions.{version_no}
use Rattle.group.specs.declared.BlockAddr.{BlockAddr}
use Rattle.group.specs.Blocks.{blocks_at}
use Rattle.group.specs.Rows.{or_row}
use Rattle.directory.specs.Read.{keys_in}
use Rattle.builder.specs.View.{stride}
use Rattle.builder.specs.Index.{Settings, settings, index_bytes}
use Rattle.builder.specs.Finish.{list_no, area_keys}
use Rattle.builder.specs.declared.SSTableIndexBuilder.{SSTableIndexBuilder}
use Rattle.index.specs.Parts.{directory_part, count_in, block_in}
use Rattle.index.specs.Opening.{file_no}
use Rattle.store_canonical.specs.Same.{same_bytes}
use Rattle.store_canonical.specs.Canonical.{blocks_from}

-- the blocks and the separators read in an index
abbrev pub blocks_in : ℕ → List ℕ → List BlockAddr
blocks_in L f = blocks_from (block_in L f) 0 (count_in f)

abbrev pub separators_in : List ℕ → List (List ℕ)
separators_in f = keys_in (directory_part f)

-- the index of these
unfoldable pub rewritten : Settings → List ℕ → List ℕ
rewritten S f = index_bytes S (blocks_in S.len_of_group f) (separators_in f)

-- rows 10 to 16, then 27: a file that opens but isn't that index; 0 where it is
unfoldable pub canonical_no : Settings → List ℕ → ℕ
canonical_no S f = or_row (file_no S.len_of_group f) (cond (same_bytes f (rewritten S f)) 0 27)

-- the check of an index of a version: 30 before all others for one that no index has
unfoldable pub check_no : ℕ → List ℕ → ℕ
check_no version f = or_row (version_no version) (canonical_no (settings version) f)

-- a builder with its areas holds these blocks and separators, and neither row 1 nor row 8 is hit
pub record AreasHold (b : SSTableIndexBuilder) (B K : List ℕ) (blocks : List BlockAddr) (separators : List (List ℕ)) : Type 0 where
  pub list : list_no b B K ≡ 0
  pub blocks-are : blocks_at B stride 0 b.n ≡ blocks
  pub separators-are : area_keys b B K ≡ separators
