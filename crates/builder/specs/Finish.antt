-- Finish (document 01, rows 1, 8 and 9; document 02, row 30): what it leaves, for all inputs and settings.
use Rattle.std.specs.Prelude.{ℕ, zero, suc, ◌<◌, List, [], Bool, false, not, ◌||◌, cond, eqb, ltb, length, Result, Ok, Err}
use Rattle.std.proofs.lemmas.List.Edits.{sets}
use Rattle.layout.specs.declared.refusals.Refusal.{Refusal}
use Rattle.layout.specs.Refusals.{number_of}
use Rattle.layout.specs.Versions.{version_bad}
use Rattle.group.specs.Blocks.{blocks_at}
use Rattle.group.specs.Rows.{or_row}
use Rattle.directory.specs.Directory.{directory_bytes}
use Rattle.directory.specs.Keys.{keys_at}
use Rattle.store.specs.Store.{group_count}
use Rattle.store.specs.Plans.{plans}
use Rattle.builder.specs.View.{stride}
use Rattle.builder.specs.Rows.{record_bad, area_bad, block_no}
use Rattle.builder.specs.Area.{key_field, area_block, area_place, area_key, area_view, view_of}
use Rattle.builder.specs.Index.{Settings, settings, index_bytes}
use Rattle.builder.specs.declared.SSTableIndexBuilder.{SSTableIndexBuilder}
use Rattle.builder.specs.declared.Refused.{Refused}
use Rattle.builder.specs.declared.Written.{Written}

-- key m stands wrong: its offset isn't where the one before ends (0 for the first), or its record breaks row 1's rule
abbrev pub place_bad : ℕ → List ℕ → List ℕ → Bool
place_bad m B K = not (eqb (area_place B m).offset (area_view m B K).next_key) || record_bad (length K) (area_place B m)

-- block m breaks 2 to 6 after the m blocks before it
abbrev pub rule_bad : ℕ → List ℕ → List ℕ → Bool
rule_bad m B K = not (eqb (block_no (area_view m B K) (area_key B K m) (area_key B K m) (area_block B m)) 0)

-- one of the first m does
unfoldable pub places_bad : ℕ → List ℕ → List ℕ → Bool
places_bad zero B K = false
places_bad (suc m) B K = places_bad m B K || place_bad m B K

unfoldable pub rules_bad : ℕ → List ℕ → List ℕ → Bool
rules_bad zero B K = false
rules_bad (suc m) B K = rules_bad m B K || rule_bad m B K

-- rows 1 and 8
unfoldable pub list_no : SSTableIndexBuilder → List ℕ → List ℕ → ℕ
list_no b B K = cond (area_bad (view_of b B K)) 1 (cond (places_bad b.n B K || rules_bad b.n B K) 8 0)

-- the separators of the areas, their directory and their index; with n of 0 or 1 there is neither
abbrev pub area_keys : SSTableIndexBuilder → List ℕ → List ℕ → List (List ℕ)
area_keys b B K = keys_at B stride key_field K 0 b.n

unfoldable pub area_directory : SSTableIndexBuilder → List ℕ → List ℕ → List ℕ
area_directory b B K = cond (ltb b.n 2) [] (directory_bytes (area_keys b B K))

unfoldable pub area_index : Settings → SSTableIndexBuilder → List ℕ → List ℕ → List ℕ
area_index S b B K = cond (ltb b.n 2) [] (index_bytes S (blocks_at B stride 0 b.n) (area_keys b B K))

-- what is kept of the plans of the areas' store
abbrev pub area_plans : Settings → SSTableIndexBuilder → List ℕ → List ℕ
area_plans S b B = plans S.choose S.len_of_group (group_count S.len_of_group b.n) (blocks_at B stride 0 b.n)

-- row 9: output shorter than the result
unfoldable pub finish_no : Settings → SSTableIndexBuilder → List ℕ → List ℕ → List ℕ → ℕ
finish_no S b B K out = or_row (list_no b B K) (cond (ltb (length out) (length (area_index S b B K))) 9 0)

-- the number, the builder, the whole output, the total and the directory's length
pub record Finish : Type 0 where
  pub no : ℕ
  pub builder : SSTableIndexBuilder
  pub out : List ℕ
  pub total : ℕ
  pub directory : ℕ

-- a refused finish changes nothing
abbrev pub unwritten : ℕ → SSTableIndexBuilder → List ℕ → Finish
unwritten k b out = record { no = k; builder = b; out = out; total = 0; directory = 0 }

abbrev pub finish_of : Result Written Refused → List ℕ → Finish
finish_of (Ok written) out =
    record { no = 0; builder = written.builder; out = out; total = written.total; directory = written.directory_len }
finish_of (Err refused) out = unwritten (number_of refused.refusal) refused.builder out

-- a refusal has a number above 0
abbrev pub FinishedCased : Result Written Refused → Type 0
FinishedCased (Ok written) = Unit {0}
FinishedCased (Err refused) = 0 < number_of refused.refusal

-- a finish whose number is known (SPECIFICATION 5.8, 12.2): the index over the output's front, or the output as it was
unfoldable pub step_of_finish : Settings → ℕ → SSTableIndexBuilder → List ℕ → List ℕ → List ℕ → Finish
step_of_finish S zero b B K out = record {
  no = 0;
  builder = b;
  out = sets out 0 (area_index S b B K);
  total = length (area_index S b B K);
  directory = length (area_directory b B K);
}
step_of_finish S (suc k) b B K out = unwritten (suc k) b out

unfoldable pub finish_def : Settings → SSTableIndexBuilder → List ℕ → List ℕ → List ℕ → Finish
finish_def S b B K out = step_of_finish S (finish_no S b B K out) b B K out

-- a finish of a version: 30 before all others for one that no index has
unfoldable pub finish_in : ℕ → SSTableIndexBuilder → List ℕ → List ℕ → List ℕ → Finish
finish_in version b B K out = cond (version_bad version) (unwritten 30 b out) (finish_def (settings version) b B K out)

-- what `finish_len` answers: rows 30, 1 and 8, or the total that finish would need
pub record FinishLen : Type 0 where
  pub no : ℕ
  pub total : ℕ

abbrev pub finish_len_of : Result ℕ Refusal → FinishLen
finish_len_of (Ok total) = record { no = 0; total = total }
finish_len_of (Err refusal) = record { no = number_of refusal; total = 0 }

abbrev pub len_step : ℕ → ℕ → FinishLen
len_step zero total = record { no = 0; total = total }
len_step (suc k) total = record { no = suc k; total = 0 }

unfoldable pub finish_len_def : Settings → SSTableIndexBuilder → List ℕ → List ℕ → FinishLen
finish_len_def S b B K = len_step (list_no b B K) (length (area_index S b B K))

unfoldable pub finish_len_in : ℕ → SSTableIndexBuilder → List ℕ → List ℕ → FinishLen
finish_len_in version b B K = cond (version_bad version) (record { no = 30; total = 0 }) (finish_len_def (settings version) b B K)
