-- A file that opens, cut into its separators' directory, the records' length, the records, the address bytes and the directory's length.
use Prim.Native.Nat.{ℕ, ◌+◌, ◌-◌, ◌*◌}
use mathlib.Core.Path.{◌≡◌, sym, ◌∙◌}
use mathlib.Core.List.{List, ◌++◌}
use native.Mathlib.Omega.{arith}
use lib.ListN.{length, take, drop, length-drop, take-append-drop}
use lib.Seq.{length-take-le, take_all, drop-drop}
use Rattle.serialize.specs.Digits.{le_bytes, number_at, DigitsBelow}
use Rattle.serialize.proofs.Digits.{digits_of-below}
use Rattle.serialize.proofs.Numbers.{number-bytes}
use Rattle.store.specs.Store.{group_count}
use Rattle.directory.specs.Directory.{directory_bytes}
use Rattle.directory.specs.Read.{keys_in}
use Rattle.directory.proofs.Opened.{directory-is, opened-good}
use Rattle.index.specs.Parts.{len_of_directory, directory_part, store_len, group_records_len, group_records_part, addrs_part, count_in}
use Rattle.index.specs.Opening.{file_no}
use Rattle.index.proofs.OpeningRows.{footer-ok, records-ok, file-ok}

-- n bytes at p, then what is behind them
split : (p n : ℕ) (f : List ℕ) → drop p f ≡ take n (drop p f) ++ drop (p + n) f
split p n f = rw (← (drop-drop n p f)) (sym (take-append-drop n (drop p f)))

-- five parts of d, 8, m, a and 8 bytes
cut : (f D H F : List ℕ) (d m a : ℕ) → d + 8 + m + a + 8 ≡ length f → D ≡ take d f → H ≡ take 8 (drop d f)
    → F ≡ take 8 (drop (length f - 8) f)
    → f ≡ D ++ (H ++ (take m (drop (d + 8) f) ++ (take a (drop (d + 8 + m) f) ++ F)))
cut f D H F d m a all first second last =
    let at = d + 8 + m + a in
    let end : length f - 8 ≡ at = omega arith in
    let rest : take 8 (drop at f) ≡ drop at f = take_all 8 (drop at f) (omega (arith, length-drop at f)) in
    rw (first, second, last, end, rest, ← (split (d + 8 + m) a f), ← (split (d + 8) m f), ← (split d 8 f)) (sym (take-append-drop d f))

-- the group records are as long as they say
pub length-records_part : (L : ℕ) (f : List ℕ) → file_no L f ≡ 0 → length (group_records_part f) ≡ 36 * group_count L (count_in f)
length-records_part L f opened =
    let ok = file-ok L f opened in
    let foot = footer-ok f ok.footer in
    let recs = records-ok L f ok.records in
    let at = len_of_directory f + 8 in
    length-take-le (group_records_len f) (drop at f) (omega (arith, length-drop at f, foot.inside, recs.inside)) ∙ recs.exact

module _ (L : ℕ) (f : List ℕ) (bytes : DigitsBelow 8 f) (opened : file_no L f ≡ 0) where
  pub directory-bytes : directory_part f ≡ directory_bytes (keys_in (directory_part f))
  directory-bytes =
      let ok = file-ok L f opened in
      let foot = footer-ok f ok.footer in
      let d = len_of_directory f in
      let below : DigitsBelow 8 (take d f) = rw (← (number-bytes f 0 d (omega (arith, foot.inside)) bytes))
      (digits_of-below 8 d (number_at f 0 d)) in
      directory-is (directory_part f) below (opened-good (directory_part f) ok.directory)

  pub file-is : f ≡ directory_bytes (keys_in (directory_part f))
      ++ (le_bytes 8 (group_records_len f) ++ (group_records_part f ++ (addrs_part f ++ le_bytes 8 (len_of_directory f))))
  file-is =
      let ok = file-ok L f opened in
      let foot = footer-ok f ok.footer in
      let recs = records-ok L f ok.records in
      let d = len_of_directory f in
      let m = group_records_len f in
      let first = number-bytes f d 8 (omega (arith, foot.inside)) bytes in
      let last = number-bytes f (length f - 8) 8 (omega (arith, foot.inside)) bytes in
      cut f (directory_bytes (keys_in (directory_part f))) (le_bytes 8 m) (le_bytes 8 d) d m (store_len f - (8 + m))
      (omega (arith, foot.inside, recs.inside)) (sym directory-bytes) first last
