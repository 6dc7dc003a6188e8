-- A file that opens differs from the index made of its blocks and separators in the store alone,
-- and there in the group records and the address bytes.
use Prim.Native.Nat.{ℕ, ◌+◌, ◌*◌, ◌<◌}
use mathlib.Core.Path.{◌≡◌, refl, sym, ap, ◌∙◌}
use mathlib.Core.Bool.{Bool, true, false, ◌&&◌, cond, and_assoc}
use mathlib.Core.List.{List, [], ◌∷◌, ◌++◌, append_assoc, append_cancel_right}
use native.Mathlib.Omega.{arith}
use lib.ListN.{length}
use Rattle.serialize.specs.Digits.{le_bytes, DigitsBelow}
use Rattle.group.specs.declared.BlockAddr.{BlockAddr}
use Rattle.group.specs.Rows.{or_row}
use Rattle.directory.specs.Directory.{directory_bytes}
use Rattle.store.specs.Store.{group_count, group_records, addrs, store_bytes}
use Rattle.store.specs.Facts.{GroupLenOk}
use Rattle.store.proofs.Groups.{group-count-below}
use Rattle.store.proofs.Stored.{length-records}
use Rattle.store_canonical.specs.Same.{same_bytes}
use Rattle.store_canonical.specs.Canonical.{is_store_canonical}
use Rattle.store_canonical.proofs.Blocks.{length-blocks_from}
use Rattle.store_canonical.proofs.Same.{same_self, same_true, same-equal, same_differs, differs-same}
use Rattle.builder.specs.Index.{Settings, index_bytes}
use Rattle.index.specs.Parts.{len_of_directory, group_records_len, group_records_part, addrs_part, count_in, block_in}
use Rattle.index.specs.Opening.{file_no}
use Rattle.index.proofs.OpeningRows.{footer-ok, records-ok, file-ok, length-directory_part}
use Rattle.canonical.specs.Canonical.{blocks_in, separators_in, rewritten, canonical_no}
use Rattle.index.proofs.OpeningJoined.{length-records_part, directory-bytes, file-is}

-- ---- the test of equal bytes, by parts

-- parts of equal length, one by one
same_parts : (a b r s : List ℕ) → length a ≡ length b → same_bytes (a ++ r) (b ++ s) ≡ same_bytes a b && same_bytes r s
unfolding same_bytes
same_parts [] [] r s e = refl
same_parts [] (y ∷ b) r s e = absurd (let z : ⊥ = omega arith in z)
same_parts (x ∷ a) [] r s e = absurd (let z : ⊥ = omega arith in z)
same_parts (x ∷ a) (y ∷ b) r s e = rw (same_parts a b r s (omega arith), and_assoc)

same-front : (p a b : List ℕ) → same_bytes (p ++ a) (p ++ b) ≡ same_bytes a b
same-front p a b = rw (same_parts p p a b refl, same_self p)

same-back-by : (a b t : List ℕ) (test : Bool) → same_bytes a b ≡ test → same_bytes (a ++ t) (b ++ t) ≡ test
same-back-by a b t true e = same_true (a ++ t) (b ++ t) (ap (λ (l : List ℕ). l ++ t) (same-equal a b e))
same-back-by a b t false e = differs-same (a ++ t) (b ++ t) (λ p. same_differs a b e (append_cancel_right a b t p))

same_back : (a b t : List ℕ) → same_bytes (a ++ t) (b ++ t) ≡ same_bytes a b
same_back a b t = same-back-by a b t (same_bytes a b) refl

-- five parts of which the third and the fourth may differ
same-five : (D H R A R' A' F : List ℕ) → length R ≡ length R'
    → same_bytes (D ++ (H ++ (R ++ (A ++ F)))) (D ++ ((H ++ (R' ++ A')) ++ F)) ≡ same_bytes R R' && same_bytes A A'
same-five D H R A R' A' F e =
    rw (
      append_assoc H (R' ++ A') F,
      append_assoc R' A' F,
      same-front D,
      same-front H,
      same_parts R R' (A ++ F) (A' ++ F) e,
      same_back A A' F,
    )

-- ---- an opened file

-- an index by the count of its blocks, the length of its directory and that of its group records
index-by : (S : Settings) (bs : List BlockAddr) (ks : List (List ℕ)) (n d m : ℕ) → length bs ≡ n → length (directory_bytes ks) ≡ d →
    m ≡ 36 * group_count S.len_of_group n
    → index_bytes S bs ks
    ≡ directory_bytes ks ++ ((le_bytes 8 m ++ (group_records S.choose S.len_of_group (group_count S.len_of_group n) 0 bs ++ addrs S.choose
    S.len_of_group (group_count S.len_of_group n) bs)) ++ le_bytes 8 d)
unfolding index_bytes store_bytes
index-by S bs ks n d m en ed em = rw (em, en, ed)

module _ (S : Settings) (f : List ℕ) (len : GroupLenOk S.len_of_group) (bytes : DigitsBelow 8 f) (opened : file_no S.len_of_group f ≡ 0)
  where
    -- the records and the address bytes made anew
    abbrev records-anew : List ℕ
    records-anew = group_records S.choose S.len_of_group (group_count S.len_of_group (count_in f)) 0 (blocks_in S.len_of_group f)

    abbrev addrs-anew : List ℕ
    addrs-anew = addrs S.choose S.len_of_group (group_count S.len_of_group (count_in f)) (blocks_in S.len_of_group f)

    length-blocks_in : length (blocks_in S.len_of_group f) ≡ count_in f
    length-blocks_in = length-blocks_from (block_in S.len_of_group f) 0 (count_in f)

    -- the index made anew has the file's directory and its lengths
    rewritten-is : rewritten S f
        ≡ directory_bytes (separators_in f) ++ ((le_bytes 8 (group_records_len f) ++ (records-anew ++ addrs-anew)) ++ le_bytes 8
        (len_of_directory f))
    unfolding rewritten
    rewritten-is =
        let ok = file-ok S.len_of_group f opened in
        index-by S (blocks_in S.len_of_group f) (separators_in f) (count_in f) (len_of_directory f) (group_records_len f) length-blocks_in
        (ap length (sym (directory-bytes S.len_of_group f bytes opened)) ∙ length-directory_part f (footer-ok f ok.footer))
        (records-ok S.len_of_group f ok.records).exact

    length-anew : length (group_records_part f) ≡ length records-anew
    length-anew =
        let G = group_count S.len_of_group (count_in f) in
        let some = len.some in
        let below : S.len_of_group * G < length (blocks_in S.len_of_group f) + S.len_of_group = rw length-blocks_in (group-count-below some
        (count_in f)) in
        length-records_part S.len_of_group f opened
        ∙ sym (length-records S.choose S.len_of_group G 0 (blocks_in S.len_of_group f) some below)

    pub canonical-parts : canonical_no S f
        ≡ cond (is_store_canonical S.choose S.len_of_group (group_records_part f) (addrs_part f) (count_in f)) 0 27
    unfolding canonical_no is_store_canonical block_in
    canonical-parts =
        let cut = file-is S.len_of_group f bytes opened in
        ap (λ (k : ℕ). or_row k (cond (same_bytes f (rewritten S f)) 0 27)) opened
        ∙ ap (λ (t : Bool). cond t 0 27)
        (ap (λ (l : List ℕ). same_bytes l (rewritten S f)) cut
        ∙ ap (same_bytes _) rewritten-is
        ∙ same-five (directory_bytes (separators_in f)) (le_bytes 8 (group_records_len f)) (group_records_part f) (addrs_part f)
        records-anew addrs-anew (le_bytes 8 (len_of_directory f)) length-anew)
