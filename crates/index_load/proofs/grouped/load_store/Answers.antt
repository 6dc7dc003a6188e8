-- Row 14, then rows 15 and 16 of the parts that the lengths give, and the record of these lengths with the least number of terms.
use Rattle.std.proofs.Common.{◌≡◌, ◌≤◌, ◌+◌, ◌-◌, ℕ, List, false, length, take, drop, arith, sym, ap, ap₂, ◌∙◌, Ok}
use Rattle.std.proofs.lemmas.Result.{err_from_is_err_and}
use Rattle.serialize.specs.Digits.{le_val}
use Rattle.store.specs.Read.{store_block}
use Rattle.store.specs.Check.{store_no}
use Rattle.store.specs.Facts.{GroupRecordsOk}
use Rattle.directory.specs.Read.{directory_no}
use Rattle.directory.proofs.Rules.{DirectoryOk}
use Rattle.index.specs.Parts.{len_of_directory, directory_part, group_records_part, addrs_part, count_in, block_in, last_first_ordinal}
use Rattle.index.specs.Opening.{footer_no, group_records_bad, file_no, opened_of}
use Rattle.index.proofs.OpeningRows.{FooterOk, footer-ok, directory-ok, count-front, records-ok, addrs-inside, metas-part}
use Rattle.index.proofs.OpeningRows.{addrs-part, metas-enough, opened-is, file-records, file-store}
use Rattle.index.proofs.OpenFacts.{least-fits}
use Rattle.index.proofs.Terms.{least-refused, least-taken}
use Rattle.index_load.proofs.grouped.load_store.Goals as goal

-- what is known of the file's numbers once row 14 is passed: d the directory's length, n the count and m the records' length, as they
-- are read
module _ (L : ℕ) (f : List ℕ) (d n m : ℕ) (footer : footer_no f ≡ 0) (ed : d ≡ len_of_directory f)
    (keys : directory_no (directory_part f) ≡ 0)
    (en : n ≡ le_val (take 4 f)) (em : m ≡ le_val (take 8 (drop d f))) where
  foot : FooterOk f
  foot = footer-ok f footer

  kept : DirectoryOk (directory_part f)
  kept = directory-ok f foot keys

  count : n ≡ count_in f
  count = en ∙ count-front f foot keys

  module _ (good : group_records_bad L f ≡ false) where
    inside : d + 8 + m ≤ length f - 8
    inside = addrs-inside L f d m foot ed (records-ok L f good) em

    enough : GroupRecordsOk L (take (d + 8 + m - (d + 8)) (drop (d + 8) f)) n
    enough =
        metas-enough L f d m foot ed (records-ok L f good) em n count (omega (arith, count, kept.some)) (omega (arith, count, kept.few))

    -- the number of rows 15 and 16 is the file's
    number : store_no L (take (d + 8 + m - (d + 8)) (drop (d + 8) f)) (take (length f - 8 - (d + 8 + m)) (drop (d + 8 + m) f)) n
        ≡ file_no L f
    number =
        ap₂ (λ (r l : List ℕ). store_no L r l n) (metas-part L f d m foot ed (records-ok L f good) em)
        (addrs-part L f d m foot ed (records-ok L f good) em)
        ∙ ap (store_no L (group_records_part f) (addrs_part f)) count
        ∙ file-store L f footer keys good

    -- and the last block read there is the file's
    last_is : (store_block L (take (d + 8 + m - (d + 8)) (drop (d + 8) f)) (take (length f - 8 - (d + 8 + m)) (drop (d + 8 + m) f))
        (n - 1)).first_ordinal
        ≡ last_first_ordinal L f
    unfolding last_first_ordinal block_in
    last_is =
        rw (
          metas-part L f d m foot ed (records-ok L f good) em,
          addrs-part L f d m foot ed (records-ok L f good) em,
          count,
        )

pub deserialize_u32-n-requires : goal.deserialize_u32-n-requires
deserialize_u32-n-requires c = omega (arith, (footer-ok c.args.«data».now c.requires.1).inside)

pub records_bad-requires : goal.records_bad-requires
records_bad-requires c =
    let f = c.args.«data».now in
    let n = count-front f (footer-ok f c.requires.1) c.requires.3 in (
      c.requires.0,
      c.requires.2,
      omega (arith, (footer-ok f c.requires.1).inside),
      c.deserialize_u32-n.ensures ∙ n,
      omega (arith, n, c.deserialize_u32-n.ensures, (directory-ok f (footer-ok f c.requires.1) c.requires.3).few),
    )

pub returns-then-records_bad : goal.returns-then-records_bad
returns-then-records_bad c =
    let f = c.args.«data».now in
    least-refused c.args.group_len c.args.version f c.requires.4 _ (file-records c.args.group_len f c.requires.1 c.requires.3
    (sym c.records_bad.ensures ∙ c.if-records_bad.true))

pub deserialize_u64-metas_len-requires : goal.deserialize_u64-metas_len-requires
deserialize_u64-metas_len-requires c = omega (arith, (footer-ok c.args.«data».now c.requires.1).inside)

pub overflow_add-metas : goal.overflow_add-metas
overflow_add-metas c = omega (arith, (footer-ok c.args.«data».now c.requires.1).inside)

pub overflow_add-addrs : goal.overflow_add-addrs
overflow_add-addrs c =
    omega (
      arith,
      inside _ _ _ _ _ c.requires.1 c.requires.2 c.requires.3 c.deserialize_u32-n.ensures c.deserialize_u64-metas_len.ensures
          (sym c.records_bad.ensures ∙ c.if-records_bad.false),
    )

pub overflow_sub-end : goal.overflow_sub-end
overflow_sub-end c = omega (arith, (footer-ok c.args.«data».now c.requires.1).inside)

pub slice_bounds-check-end : goal.slice_bounds-check-end
slice_bounds-check-end c =
    omega (
      arith,
      inside _ _ _ _ _ c.requires.1 c.requires.2 c.requires.3 c.deserialize_u32-n.ensures c.deserialize_u64-metas_len.ensures
          (sym c.records_bad.ensures ∙ c.if-records_bad.false),
    )

pub slice_bounds-check-count-2 : goal.slice_bounds-check-count-2
slice_bounds-check-count-2 c =
    omega (
      arith,
      inside _ _ _ _ _ c.requires.1 c.requires.2 c.requires.3 c.deserialize_u32-n.ensures c.deserialize_u64-metas_len.ensures
          (sym c.records_bad.ensures ∙ c.if-records_bad.false),
    )

pub slice_bounds-check-start-2 : goal.slice_bounds-check-start-2
slice_bounds-check-start-2 c =
    omega (
      arith,
      inside _ _ _ _ _ c.requires.1 c.requires.2 c.requires.3 c.deserialize_u32-n.ensures c.deserialize_u64-metas_len.ensures
          (sym c.records_bad.ensures ∙ c.if-records_bad.false),
    )

pub invariant_of-check : goal.invariant_of-check
invariant_of-check c =
    record {
      len = c.requires.0;
      records = enough _ _ _ _ _ c.requires.1 c.requires.2 c.requires.3 c.deserialize_u32-n.ensures c.deserialize_u64-metas_len.ensures
          (sym c.records_bad.ensures ∙ c.if-records_bad.false);
    }

pub returns-in_err-last : goal.returns-in_err-last
returns-in_err-last c =
    let p = err_from_is_err_and c.from_residual.result c.from_residual.ensures.1 in
    rw (p.1, p.2) (least-refused c.args.group_len c.args.version c.args.«data».now c.requires.4 _ (c.in_err-last.ensures.number
    ∙ number _ _ _ _ _ c.requires.1 c.requires.2 c.requires.3 c.deserialize_u32-n.ensures c.deserialize_u64-metas_len.ensures
    (sym c.records_bad.ensures ∙ c.if-records_bad.false)))

pub overflow_sub-result : goal.overflow_sub-result
overflow_sub-result c =
    inside _ _ _ _ _ c.requires.1 c.requires.2 c.requires.3 c.deserialize_u32-n.ensures c.deserialize_u64-metas_len.ensures
    (sym c.records_bad.ensures ∙ c.if-records_bad.false)

-- the store kept its rows, and what it gave is the last first ordinal
passed : (c : goal.In_ok-last) → file_no c.args.group_len c.args.«data».now ≡ 0
passed c =
    sym (c.in_ok-last.ensures.number
    ∙ number _ _ _ _ _ c.requires.1 c.requires.2 c.requires.3 c.deserialize_u32-n.ensures c.deserialize_u64-metas_len.ensures
    (sym c.records_bad.ensures ∙ c.if-records_bad.false))

ordinal : (c : goal.In_ok-last) → c.in_ok-last.last ≡ last_first_ordinal c.args.group_len c.args.«data».now
ordinal c =
    c.in_ok-last.ensures.value
    ∙ last_is _ _ _ _ _ c.requires.1 c.requires.2 c.requires.3 c.deserialize_u32-n.ensures c.deserialize_u64-metas_len.ensures
    (sym c.records_bad.ensures ∙ c.if-records_bad.false)

pub overflow_add-result : goal.overflow_add-result
overflow_add-result c = omega (arith, ordinal c, least-fits c.args.group_len c.args.«data».now c.requires.0 (passed c))

pub returns : goal.returns
returns c =
    let f = c.args.«data».now in
    let foot = footer-ok f c.requires.1 in
    let good = sym c.records_bad.ensures ∙ c.if-records_bad.false in
    ap Ok (opened-is c.args.group_len f c.args.directory_len _ foot c.requires.2
    (records-ok _ f good) c.deserialize_u64-metas_len.ensures _ (c.deserialize_u32-n.ensures ∙ count-front f foot c.requires.3)
    c.args.version _)
    ∙ ap (λ (t : ℕ). Ok (opened_of c.args.version (t + 1) f)) (ordinal c)
    ∙ least-taken c.args.group_len c.args.version f c.requires.4 (passed c)
