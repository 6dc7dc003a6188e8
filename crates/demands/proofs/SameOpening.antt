-- A file of up to 128 blocks, whoever wrote it, is the same file in both versions: opening and the check give it the same number, and what
-- is read in it is the same. Of two lengths of a group that all its blocks fit, no row and no block depends on which of them it is.
use Prim.Native.Nat.{ℕ, zero, suc, ◌+◌, ◌-◌, ◌≤◌, ◌<◌}
use mathlib.Core.Path.{◌≡◌, refl, sym, ap, ◌∙◌}
use mathlib.Core.Bool.{false}
use mathlib.Core.List.{List}
use mathlib.Core.Logic.{⊎_elim}
use native.Mathlib.Nat.{div-eq_of_lt, mod-eq_of_lt, eq-zero-or-pos}
use native.Mathlib.Omega.{arith}
use borrow.Author.Tests.{eqb-true, eqb-false}
use borrow.Table.Steps.{cases}
use lib.Dec.{eqb}
use Rattle.std.specs.Prelude.{Ok, Err}
use Rattle.layout.specs.Layout.{store_block_len}
use Rattle.layout.specs.Versions.{version_bad, group_len_of}
use Rattle.layout.proofs.GroupLengths.{version-good, group-len-some}
use Rattle.layout.specs.declared.refusals.Refusal.{Refusal}
use Rattle.group.specs.declared.BlockAddr.{BlockAddr}
use Rattle.group.proofs.RowOrder.{or_row-first}
use Rattle.directory.proofs.Rules.{directory-kept}
use Rattle.directory.proofs.Opened.{opened-good}
use Rattle.store.specs.Store.{group_count}
use Rattle.store.specs.Read.{store_block, len_of_group}
use Rattle.store.specs.Check.{groups_bad, blocks_bad, store_no}
use Rattle.store.proofs.Groups.{group-count-zero}
use Rattle.store_canonical.specs.Canonical.{blocks_from}
use Rattle.store_canonical.proofs.Blocks.{length-blocks_from}
use Rattle.builder.specs.Index.{settings_of}
use Rattle.index.specs.Parts.{directory_part, group_records_part, addrs_part, count_in, block_in, last_first_ordinal}
use Rattle.index.specs.Opening.{group_records_bad, file_no, terms_no, open_no, opened_of, step_of_open, open_def, load_def}
use Rattle.index.proofs.OpeningRows.{file-ok}
use Rattle.canonical.specs.Canonical.{blocks_in, separators_in, rewritten, canonical_no, check_no}
use Rattle.demands.proofs.OtherVersion.{one-count, index-one, long-groups}

-- ---- blocks that are the same below n

module _ (block block' : ℕ → BlockAddr) where
  same-blocks_bad : (n : ℕ) → ((i : ℕ) → i < n → block i ≡ block' i) → blocks_bad block n ≡ blocks_bad block' n
  unfolding blocks_bad
  same-blocks_bad zero same = refl
  same-blocks_bad (suc zero) same = rw (same 0 (omega arith)) refl
  same-blocks_bad (suc (suc m)) same =
      rw (
        same-blocks_bad (suc m) (λ i h. same i (omega arith)),
        same m (omega arith),
        same (suc m) (omega arith),
      ) refl

  same-blocks_from : (i count : ℕ) → ((j : ℕ) → j < i + count → block j ≡ block' j) → blocks_from block i count ≡ blocks_from block' i count
  unfolding blocks_from
  same-blocks_from i zero same = refl
  same-blocks_from i (suc count) same =
      rw (same i (omega arith), same-blocks_from (suc i) count (λ j h. same j (omega arith))) refl

-- ---- one group

-- n blocks fit a group of either length
record Fit (L K n : ℕ) : Type 0 where
  some : 1 ≤ L
  some' : 1 ≤ K
  few : n ≤ L
  few' : n ≤ K

module _ {L K n : ℕ} (fit : Fit L K n) where
  same-count : group_count L n ≡ group_count K n
  same-count =
      ⊎_elim
      (λ (none : n ≡ 0). rw (none, group-count-zero fit.some, group-count-zero fit.some') refl)
      (λ (more : 0 < n). one-count L n fit.some more fit.few ∙ sym (one-count K n fit.some' more fit.few'))
      (eq-zero-or-pos n)

  -- there is no second group
  count-most : group_count L n ≤ 1
  count-most =
      ⊎_elim
      (λ (none : n ≡ 0). rw (none, group-count-zero fit.some) (omega arith))
      (λ (more : 0 < n). rw (one-count L n fit.some more fit.few) (omega arith))
      (eq-zero-or-pos n)

  module _ (recs addr : List ℕ) where
    same-store_block : (i : ℕ) → i < L → i < K → store_block L recs addr i ≡ store_block K recs addr i
    unfolding store_block
    same-store_block i h h' = rw (div-eq_of_lt h, div-eq_of_lt h', mod-eq_of_lt h, mod-eq_of_lt h') refl

    same-groups_bad : (k : ℕ) → k ≤ 1 → groups_bad L recs addr n k ≡ groups_bad K recs addr n k
    unfolding groups_bad
    same-groups_bad zero most = refl
    same-groups_bad (suc zero) most =
        let all : len_of_group L n 0 ≡ len_of_group K n 0 = omega (arith, fit.few, fit.few') in
        rw all refl
    same-groups_bad (suc (suc k)) most = absurd (let z : ⊥ = omega arith in z)

    same-store : store_no L recs addr n ≡ store_no K recs addr n
    unfolding store_no
    same-store =
        let groups = same-groups_bad (group_count L n) count-most in
        let blocks = same-blocks_bad (store_block L recs addr) (store_block K recs addr) n
        (λ i h. same-store_block i (omega (arith, fit.few)) (omega (arith, fit.few'))) in
        rw (groups, blocks, same-count) refl

-- ---- a file whose blocks fit one group of either length

module _ (L K : ℕ) (f : List ℕ) (fit : Fit L K (count_in f)) where
  block-one : (i : ℕ) → i < L → i < K → block_in L f i ≡ block_in K f i
  unfolding block_in
  block-one i h h' = same-store_block fit (group_records_part f) (addrs_part f) i h h'

  last-one : last_first_ordinal L f ≡ last_first_ordinal K f
  unfolding last_first_ordinal
  last-one =
      let same = block-one (count_in f - 1) (omega (arith, fit.some, fit.few)) (omega (arith, fit.some', fit.few')) in
      ap (λ (b : BlockAddr). b.first_ordinal) same

  records-one : group_records_bad L f ≡ group_records_bad K f
  unfolding group_records_bad
  records-one = rw (same-count fit) refl

  -- rows 10 to 13 don't look at the length
  file-one : file_no L f ≡ file_no K f
  unfolding file_no
  file-one = rw (records-one, same-store fit (group_records_part f) (addrs_part f)) refl

  terms-one : (terms : ℕ) → terms_no L terms f ≡ terms_no K terms f
  unfolding terms_no
  terms-one terms = rw (file-one, last-one) refl

  open-one : (v w terms : ℕ) → version_bad v ≡ false → version_bad w ≡ false → open_no L v terms f ≡ open_no K w terms f
  unfolding open_no
  open-one v w terms known known' = rw (version-good v known, version-good w known') (terms-one terms)

  blocks-one : blocks_in L f ≡ blocks_in K f
  blocks-one =
      same-blocks_from (block_in L f) (block_in K f) 0 (count_in f)
      (λ i h. block-one i (omega (arith, fit.few)) (omega (arith, fit.few')))

  rewritten-one : 1 ≤ count_in f → rewritten (settings_of L) f ≡ rewritten (settings_of K) f
  unfolding rewritten
  rewritten-one some =
      let long = length-blocks_from (block_in L f) 0 (count_in f) in
      index-one L K (blocks_in L f) (separators_in f) (omega (arith, long)) (omega (arith, long, fit.few)) (omega (arith, long, fit.few'))
      ∙ rw blocks-one refl

  canonical-one : canonical_no (settings_of L) f ≡ canonical_no (settings_of K) f
  unfolding canonical_no
  canonical-one =
      cases (eqb (file_no L f) 0)
      (λ t.
      let ok = file-ok L f (eqb-true (file_no L f) 0 t) in
      let rule = directory-kept (directory_part f) (opened-good (directory_part f) ok.directory) in
      rw (file-one, rewritten-one (omega (arith, rule.some))) refl)
      (λ t.
      let refused = eqb-false (file_no L f) 0 t in
      or_row-first (file_no L f) _ refused ∙ file-one ∙ sym (or_row-first (file_no K f) _ (λ z. refused (file-one ∙ z))))

-- ---- the answer with a number

-- a number is refused alike with either version, and 0 opens
step-refuses : (k v w terms : ℕ) (f : List ℕ) (r : Refusal) → step_of_open k v terms f ≡ Err r → step_of_open k w terms f ≡ Err r
step-refuses zero v w terms f r e = absurd (cc)
step-refuses (suc k) v w terms f r e = e

step-opens : (k v w terms : ℕ) (f : List ℕ) → step_of_open k v terms f ≡ Ok (opened_of v terms f)
    → step_of_open k w terms f ≡ Ok (opened_of w terms f)
step-opens zero v w terms f e = refl
step-opens (suc k) v w terms f e = absurd (cc)

module _ (v w terms : ℕ) (f : List ℕ) (same : open_no (group_len_of v) v terms f ≡ open_no (group_len_of w) w terms f) where
  load-refuses : (r : Refusal) → load_def v terms f ≡ Err r → load_def w terms f ≡ Err r
  unfolding open_def
  load-refuses r e = step-refuses (open_no (group_len_of w) w terms f) v w terms f r (rw same at e)

  load-opens : load_def v terms f ≡ Ok (opened_of v terms f) → load_def w terms f ≡ Ok (opened_of w terms f)
  unfolding open_def
  load-opens e = step-opens (open_no (group_len_of w) w terms f) v w terms f (rw same at e)

-- ---- the two versions

-- opening f with version v or w, and so many terms: one number, one refusal, or records that differ in the version alone
pub record OpensAlike (v w terms : ℕ) (f : List ℕ) : Type 0 where
  pub number : open_no (group_len_of v) v terms f ≡ open_no (group_len_of w) w terms f
  pub refused : (r : Refusal) → (load_def v terms f ≡ Err r → load_def w terms f ≡ Err r)
      × (load_def w terms f ≡ Err r → load_def v terms f ≡ Err r)
  pub opened : (load_def v terms f ≡ Ok (opened_of v terms f) → load_def w terms f ≡ Ok (opened_of w terms f))
      × (load_def w terms f ≡ Ok (opened_of w terms f) → load_def v terms f ≡ Ok (opened_of v terms f))

module _ (v w : ℕ) (f : List ℕ) (few : count_in f ≤ store_block_len) where
  fit : Fit (group_len_of v) (group_len_of w) (count_in f)
  fit = record {
    some = group-len-some v;
    some' = group-len-some w;
    few = omega (arith, few, long-groups v);
    few' = omega (arith, few, long-groups w);
  }

  -- rows 10 to 16 say the same of it
  pub same-file : file_no (group_len_of v) f ≡ file_no (group_len_of w) f
  same-file = file-one (group_len_of v) (group_len_of w) f fit

  -- its blocks are read the same
  pub same-block : (i : ℕ) → i < count_in f → block_in (group_len_of v) f i ≡ block_in (group_len_of w) f i
  same-block i h = block-one (group_len_of v) (group_len_of w) f fit i (omega (arith, h, fit.few)) (omega (arith, h, fit.few'))

  pub same-last : last_first_ordinal (group_len_of v) f ≡ last_first_ordinal (group_len_of w) f
  same-last = last-one (group_len_of v) (group_len_of w) f fit

  module _ (known : version_bad v ≡ false) (known' : version_bad w ≡ false) where
    pub same-opening : (terms : ℕ) → OpensAlike v w terms f
    same-opening terms =
        let same = open-one (group_len_of v) (group_len_of w) f fit v w terms known known' in
        record {
          number = same;
          refused = λ r. (load-refuses v w terms f same r, load-refuses w v terms f (sym same) r);
          opened = (load-opens v w terms f same, load-opens w v terms f (sym same));
        }

    pub same-check : check_no v f ≡ check_no w f
    unfolding check_no
    same-check = rw (version-good v known, version-good w known') (canonical-one (group_len_of v) (group_len_of w) f fit)
