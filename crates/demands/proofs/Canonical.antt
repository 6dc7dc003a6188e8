-- An index of two blocks or more is the one that finish makes of the blocks and separators read in it, whatever slopes were chosen.
use Prim.Native.Nat.{ℕ, ◌<◌}
use mathlib.Core.Path.{◌≡◌, refl, sym, ◌∙◌}
use mathlib.Core.List.{List, []}
use native.Mathlib.Nat.{zero-add}
use native.Mathlib.Omega.{arith}
use lib.ListN.{length}
use lib.Seq.{ext_get_or}
use Rattle.group.specs.declared.BlockAddr.{BlockAddr}
use Rattle.group.specs.Blocks.{no_block}
use Rattle.directory.proofs.Opened.{length-keys_from, get_or-keys_from}
use Rattle.builder.specs.Index.{Settings, index_bytes}
use Rattle.index.specs.Parts.{directory_part, count_in, block_in, separator_in}
use Rattle.written_index.specs.Written.{WrittenIndex}
use Rattle.written_index.proofs.IndexRead.{written-count, written-file, written-block, written-separator}
use Rattle.store_canonical.proofs.Blocks.{length-blocks_from, blocks_from-at}
use Rattle.store_canonical.proofs.Same.{same_true}
use Rattle.canonical.specs.Canonical.{blocks_in, separators_in, rewritten, canonical_no}

module _ {choose : List ℕ → ℕ} {L : ℕ} {bs : List BlockAddr} {ks : List (List ℕ)} {f : List ℕ} (w : WrittenIndex choose L bs ks f) where
  count : count_in f ≡ length bs
  count = written-count w

  -- the blocks and the separators read in it are those that it was written from
  blocks-read : blocks_in L f ≡ bs
  blocks-read =
      let long = length-blocks_from (block_in L f) 0 (count_in f) in
      ext_get_or no_block (blocks_in L f) bs (long ∙ count)
      (λ i h. let b : i < count_in f = omega (arith, long) in
      blocks_from-at (block_in L f) 0 (count_in f) i b ∙ rw (zero-add i) (written-block w i (omega (arith, count))))

  separators-read : separators_in f ≡ ks
  unfolding separator_in
  separators-read =
      let long = length-keys_from (directory_part f) (count_in f) 0 (count_in f) in
      ext_get_or [] (separators_in f) ks (long ∙ count ∙ sym w.same)
      (λ i h. let b : i < count_in f = omega (arith, long) in
      get_or-keys_from (directory_part f) (count_in f) 0 (count_in f) i b ∙ rw (zero-add i) (written-separator w i (omega (arith, count))))

  abbrev S : Settings
  S = record { choose = choose; len_of_group = L }

  rewritten-same : rewritten S f ≡ f
  unfolding rewritten index_bytes
  rewritten-same = rw (blocks-read, separators-read) (sym w.bytes)

  pub written-canonical : canonical_no S f ≡ 0
  unfolding canonical_no
  written-canonical = rw (written-file w, rewritten-same, same_true f f refl)
