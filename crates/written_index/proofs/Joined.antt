-- Five parts one after the other, two of which tell lengths: what the parts of the index's definition are in them.
use Prim.Native.Nat.{ℕ, ◌+◌, ◌-◌}
use mathlib.Core.Path.{◌≡◌, sym, ap, ◌∙◌}
use mathlib.Core.List.{List, ◌++◌, append_assoc}
use native.Mathlib.Nat.{le_of_eq}
use native.Mathlib.Omega.{arith}
use lib.ListN.{length, drop, length-append}
use lib.Seq.{take_all, drop-drop, take-append_seam, drop-append_seam, take_at, drop_at}
use Rattle.serialize.specs.Digits.{le_val}
use Rattle.index.specs.Parts.{len_of_directory, directory_part, store_len, group_records_len, group_records_part, addrs_part}

-- f is the directory D, the length of the records R, these, the address bytes A and the directory's length
pub record Joined (f D R A : List ℕ) : Type 0 where
  pub directory-len : len_of_directory f ≡ length D
  pub directory : directory_part f ≡ D
  pub store-len : store_len f ≡ 8 + (length R + length A)
  pub records-len : group_records_len f ≡ length R
  pub records : group_records_part f ≡ R
  pub addrs : addrs_part f ≡ A

-- five parts one after the other, where the second tells the third's length, and the last the first's
module _ (D H R A F : List ℕ) (eight : length H ≡ 8) (last : length F ≡ 8) (says : le_val H ≡ length R) (tells : le_val F ≡ length D) where
  abbrev file : List ℕ
  file = D ++ (H ++ (R ++ (A ++ F)))

  length-file : length file ≡ length D + (8 + (length R + (length A + 8)))
  length-file = simp length-append (omega arith)

  at-footer : drop (length file - 8) file ≡ F
  at-footer =
      let front = D ++ (H ++ (R ++ A)) in
      let e : file ≡ front ++ F = simp append_assoc in
      let long : length front ≡ length file - 8 = simp length-append (omega arith) in
      ap (drop (length file - 8)) e ∙ drop_at front F (length file - 8) long

  at_store : drop (length D) file ≡ H ++ (R ++ (A ++ F))
  at_store = drop-append_seam D (H ++ (R ++ (A ++ F)))

  at_records : drop (length D + 8) file ≡ R ++ (A ++ F)
  at_records = sym (drop-drop 8 (length D) file) ∙ ap (drop 8) at_store ∙ drop_at H (R ++ (A ++ F)) 8 eight

  at-addrs : drop (length D + 8 + length R) file ≡ A ++ F
  at-addrs = sym (drop-drop (length R) (length D + 8) file) ∙ ap (drop (length R)) at_records ∙ drop-append_seam R (A ++ F)

  pub joined : Joined file D R A
  joined =
      let first : len_of_directory file ≡ length D = rw (at-footer, take_all 8 F (le_of_eq last)) tells in
      let second : group_records_len file ≡ length R = rw (first, at_store, take_at H (R ++ (A ++ F)) 8 eight) says in
      let store : store_len file ≡ 8 + (length R + length A) = rw first (omega (arith, length-file)) in
      let left : 8 + (length R + length A) - (8 + length R) ≡ length A = omega arith in
      record {
        directory-len = first;
        directory = rw first (take-append_seam D (H ++ (R ++ (A ++ F))));
        store-len = store;
        records-len = second;
        records = rw (second, first, at_records) (take-append_seam R (A ++ F));
        addrs = rw (store, second, left, first, at-addrs) (take-append_seam A F);
      }
