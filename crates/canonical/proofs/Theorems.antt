-- The theorems of the canonical form: who gets 0, that there is one such file for blocks and separators, and that finish writes it.
use Prim.Native.Nat.{ℕ, ◌≤◌}
use mathlib.Core.Path.{◌≡◌, refl, sym, ap, ◌∙◌}
use mathlib.Core.Logic.{◌⊎◌, inl, inr}
use mathlib.Core.Bool.{Bool, true, false, cond}
use mathlib.Core.List.{List}
use native.Mathlib.Omega.{arith}
use borrow.Author.Tests.{le-ltb}
use lib.ListN.{length, take}
use lib.Seq.{sets}
use Rattle.serialize.proofs.Stores.{sets-part}
use Rattle.group.specs.Rows.{or_row}
use Rattle.group.proofs.Blocks.{length-blocks_at}
use Rattle.group.proofs.RowOrder.{or_row-first, or_row-zero}
use Rattle.store_canonical.specs.Same.{same_bytes}
use Rattle.store_canonical.proofs.Blocks.{length-blocks_from}
use Rattle.store_canonical.proofs.Same.{same_true, same-equal}
use Rattle.builder.specs.View.{stride}
use Rattle.builder.specs.Index.{Settings}
use Rattle.builder.specs.Finish.{area_directory, area_index, finish_def}
use Rattle.builder.specs.declared.SSTableIndexBuilder.{SSTableIndexBuilder}
use Rattle.builder.proofs.FinishNumbers.{finish-taken}
use Rattle.index.specs.Parts.{count_in, block_in}
use Rattle.index.specs.Opening.{file_no}
use Rattle.index.proofs.OpeningRows.{footer-ok, directory-ok, file-ok}
use Rattle.canonical.specs.Canonical.{blocks_in, separators_in, rewritten, canonical_no, AreasHold}

-- ---- the number

zero-means : (t : Bool) → cond {A = ℕ} t 0 27 ≡ 0 → t ≡ true
zero-means true e = refl
zero-means false e = absurd (let z : ⊥ = omega arith in z)

either : (t : Bool) → (cond {A = ℕ} t 0 27 ≡ 0) ⊎ (cond {A = ℕ} t 0 27 ≡ 27)
either true = inl refl
either false = inr refl

module _ (S : Settings) (f : List ℕ) where
  -- a file that gets 0 opens
  pub canonical-opens : canonical_no S f ≡ 0 → file_no S.len_of_group f ≡ 0
  unfolding canonical_no
  canonical-opens e = (or_row-zero (file_no S.len_of_group f) _ e).0

  -- a refused file gets opening's number
  pub canonical-refused : (file_no S.len_of_group f ≡ 0 → ⊥) → canonical_no S f ≡ file_no S.len_of_group f
  unfolding canonical_no
  canonical-refused refused = or_row-first (file_no S.len_of_group f) _ refused

  module _ (opened : file_no S.len_of_group f ≡ 0) where
    number : canonical_no S f ≡ cond (same_bytes f (rewritten S f)) 0 27
    unfolding canonical_no
    number = ap (λ (k : ℕ). or_row k (cond (same_bytes f (rewritten S f)) 0 27)) opened

    -- a file that opens gets 0 or 27
    pub canonical-or-not : (canonical_no S f ≡ 0) ⊎ (canonical_no S f ≡ 27)
    canonical-or-not = rw number (either (same_bytes f (rewritten S f)))

    -- 0 exactly for the index made of what is read in it
    pub canonical-exactly : (canonical_no S f ≡ 0 → f ≡ rewritten S f) × (f ≡ rewritten S f → canonical_no S f ≡ 0)
    canonical-exactly = (
      λ e. same-equal f (rewritten S f) (zero-means (same_bytes f (rewritten S f)) (sym number ∙ e)),
      λ e. number ∙ ap (λ (t : Bool). cond t 0 27) (same_true f (rewritten S f) e),
    )

  pub canonical-is : canonical_no S f ≡ 0 → f ≡ rewritten S f
  canonical-is e = (canonical-exactly (canonical-opens e)).0 e

-- blocks and separators have one canonical file
pub canonical-unique : (S : Settings) (f g : List ℕ) → canonical_no S f ≡ 0 → canonical_no S g ≡ 0
    → blocks_in S.len_of_group f ≡ blocks_in S.len_of_group g → separators_in f ≡ separators_in g → f ≡ g
unfolding rewritten
canonical-unique S f g p q blocks separators = canonical-is S f p ∙ rw (blocks, separators) (sym (canonical-is S g q))

-- ---- finish

module _ (S : Settings) (f : List ℕ) (opened : file_no S.len_of_group f ≡ 0) (b : SSTableIndexBuilder) (B K : List ℕ)
    (hold : AreasHold b B K (blocks_in S.len_of_group f) (separators_in f)) where
  count : 2 ≤ b.n
  count =
      let ok = file-ok S.len_of_group f opened in
      let there = (directory-ok f (footer-ok f ok.footer) ok.directory).some in
      let same : b.n ≡ count_in f = sym (length-blocks_at B stride 0 b.n) ∙ ap length hold.blocks-are ∙ length-blocks_from (block_in
      S.len_of_group f) 0 (count_in f) in
      rw same there

  index-anew : area_index S b B K ≡ rewritten S f
  unfolding area_index rewritten
  index-anew = rw (le-ltb b.n 2 count, hold.blocks-are, hold.separators-are)

  module _ (out : List ℕ) (room : length (rewritten S f) ≤ length out) where
    taken : finish_def S b B K out ≡ record {
      no = 0;
      builder = b;
      out = sets out 0 (rewritten S f);
      total = length (rewritten S f);
      directory = length (area_directory b B K);
    }
    taken =
        sym (finish-taken S b B K out hold.list (sets out 0 (rewritten S f)) (length (rewritten S f)) (length (area_directory b B K))
        (rw index-anew room) (rw index-anew) (rw index-anew) refl)

    -- the index made anew is what finish writes
    pub finish-anew : take (finish_def S b B K out).total (finish_def S b B K out).out ≡ rewritten S f
    finish-anew = rw taken (sets-part out (rewritten S f) 0 (omega arith))

    -- so a file gets 0 exactly when finish writes that file
    pub finish-writes : ((finish_def S b B K out).no ≡ 0)
        × (canonical_no S f ≡ 0 → take (finish_def S b B K out).total (finish_def S b B K out).out ≡ f)
        × (take (finish_def S b B K out).total (finish_def S b B K out).out ≡ f → canonical_no S f ≡ 0)
    finish-writes = (
      rw taken,
      λ e. finish-anew ∙ sym (canonical-is S f e),
      λ e. (canonical-exactly S f opened).1 (sym e ∙ finish-anew),
    )
