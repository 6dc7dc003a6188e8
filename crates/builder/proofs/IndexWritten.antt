-- The index of areas that keep rows 1 and 8: how long it is, and its three parts written one after the other.
use Prim.Native.Nat.{ℕ, ◌+◌, ◌-◌, ◌≤◌, ◌<◌}
use mathlib.Core.Path.{◌≡◌, ap, ◌∙◌}
use mathlib.Core.List.{List, [], ◌++◌}
use native.Mathlib.Nat.{add-zero, zero-add}
use native.Mathlib.Omega.{arith}
use lib.ListN.{length, take, drop}
use lib.Seq.{sets}
use borrow.Author.Tests.{lt-ltb, le-ltb}
use borrow.Rule.Slice.PartMut.{put_mid}
use Rattle.layout.specs.Versions.{group_len_of}
use Rattle.layout.proofs.GroupLengths.{group-len-some, group-len-most}
use Rattle.serialize.specs.Digits.{le_bytes}
use Rattle.serialize.proofs.Stores.{sets-append, sets-in-part}
use Rattle.slope.proofs.Widths.{best_slope-lt}
use Rattle.group.specs.Blocks.{blocks_at}
use Rattle.directory.specs.Directory.{directory_bytes}
-- what is left of the output after a place, for those above who cite this file
pub use Rattle.directory.proofs.Written.{length_rest}
use Rattle.directory.proofs.Lengths.{length-keys_at-directory, length-keys_at-bytes-le}
use Rattle.store.specs.Store.{store_bytes}
use Rattle.store.specs.Facts.{GroupLenOk}
use Rattle.store.proofs.Groups.{group-count-le}
use Rattle.store.proofs.Stored.{length-store-area, store-addrs-le}
use Rattle.builder.specs.View.{stride}
use Rattle.builder.specs.Area.{key_field, area_view}
use Rattle.builder.specs.Index.{Settings, SettingsOk, settings_of, settings, index_bytes}
use Rattle.builder.specs.Finish.{area_keys, area_directory, area_index}
use Rattle.builder.specs.declared.SSTableIndexBuilder.{SSTableIndexBuilder}
use Rattle.builder.proofs.Row8.{ListOk, keys-area, store-area}
use Rattle.builder.proofs.IndexBytes.{length-index_bytes}

-- the settings in use
pub settings-of-ok : (L : ℕ) → GroupLenOk L → SettingsOk (settings_of L)
settings-of-ok L group = record { slopes = best_slope-lt; group = group }

pub group-len-ok : (version : ℕ) → GroupLenOk (group_len_of version)
group-len-ok version = record { some = group-len-some version; few = group-len-most version }

pub settings-ok : (version : ℕ) → SettingsOk (settings version)
settings-ok version = settings-of-ok (group_len_of version) (group-len-ok version)

module _ (b : SSTableIndexBuilder) (B K : List ℕ) where
  abbrev pub directory_of : List ℕ
  directory_of = directory_bytes (area_keys b B K)

  pub directory-none : b.n < 2 → area_directory b B K ≡ []
  unfolding area_directory
  directory-none h = simp (lt-ltb b.n 2 h)

  pub directory-some : 2 ≤ b.n → area_directory b B K ≡ directory_of
  unfolding area_directory
  directory-some some = simp (le-ltb b.n 2 some)

module _ (S : Settings) (b : SSTableIndexBuilder) (B K : List ℕ) where
  abbrev pub store_of : List ℕ
  store_of = store_bytes S.choose S.len_of_group (blocks_at B stride 0 b.n)

  pub index-none : b.n < 2 → area_index S b B K ≡ []
  unfolding area_index
  index-none h = simp (lt-ltb b.n 2 h)

  module _ (some : 2 ≤ b.n) where
    index-laid : area_index S b B K ≡ index_bytes S (blocks_at B stride 0 b.n) (area_keys b B K)
    unfolding area_index
    index-laid = simp (le-ltb b.n 2 some)

    pub index-some : area_index S b B K ≡ directory_of b B K ++ (store_of ++ le_bytes 8 (length (directory_of b B K)))
    unfolding index_bytes
    index-some = index-laid

    pub index-length : length (area_index S b B K) ≡ length (directory_of b B K) + length store_of + 8
    index-length = ap length index-laid ∙ length-index_bytes S (blocks_at B stride 0 b.n) (area_keys b B K)

  -- 65,536 blocks with keys of 1,024 bytes
  pub index-small : SettingsOk S → ListOk b.n B K → length (directory_of b B K) + length store_of + 8 ≤ 400000000
  unfolding area_view
  index-small set ok =
      omega (
        arith,
        ok.area.few,
        length-keys_at-directory B stride key_field K b.n,
        length-keys_at-bytes-le B stride key_field K b.n (keys-area b.n B K ok),
        length-store-area S.choose set.group.some B stride 0 b.n,
        store-addrs-le S.choose set.slopes (store-area b.n B K ok) set.group,
        group-count-le set.group.some b.n,
      )

-- the parts of an index: the second written into what is left of the output after the first, the third after both
pub index-written : (d s out a p w : List ℕ) (x y : ℕ) → x ≡ length d → y ≡ length s
    → a ≡ sets out 0 d
    → p ≡ sets (take (length a - x) (drop x a)) 0 s
    → w ≡ sets (put_mid x (length a - x) a p) (x + y) (le_bytes 8 x)
    → w ≡ sets out 0 (d ++ (s ++ le_bytes 8 (length d)))
index-written d s out a p w x y ex ey first second third =
    let two : put_mid x (length a - x) a p ≡ sets a x s = rw (second, sets-in-part a s x 0, add-zero x) in
    let all : sets (sets a x s) (x + y) (le_bytes 8 x) ≡ sets a x (s ++ le_bytes 8 x) = rw ey (sets-append a s (le_bytes 8 x) x) in
    let front : sets (sets out 0 d) x (s ++ le_bytes 8 x) ≡ sets out 0 (d ++ (s ++ le_bytes 8 x)) =
    rw (zero-add (length d), ← ex) at (sets-append out d (s ++ le_bytes 8 x) 0) in
    rw (← ex, ← front, ← first, ← all, ← two) third
