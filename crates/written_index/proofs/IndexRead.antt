-- A written index opens with a version that there is where the number of terms is above its last block's first ordinal, and all its parts
-- are read back, for all slopes.
use Prim.Native.Nat.{ℕ, zero, suc, ◌+◌, ◌-◌, ◌*◌, ◌^◌, ◌≤◌, ◌<◌}
use mathlib.Core.Path.{◌≡◌, refl, sym, ap, ◌∙◌}
use mathlib.Core.List.{List, [], append_assoc}
use Rattle.std.specs.Prelude.{Some, None, Ok, Err}
use native.Mathlib.Omega.{arith}
use lib.ListN.{length, get_or, take, length-append}
use Rattle.serialize.specs.Digits.{le_bytes}
use Rattle.serialize.proofs.Digits.{length-digits_of, of_digits-digits_of-lt}
use Rattle.layout.specs.Versions.{version_no}
use Rattle.layout.specs.declared.refusals.Refusal.TheVariants.{TermsBad}
use Rattle.group.specs.declared.BlockAddr.{BlockAddr}
use Rattle.group.specs.Blocks.{block_of}
use Rattle.store.specs.Store.{group_count, group_records, addrs, store_bytes}
use Rattle.store.proofs.Groups.{group-count-below, group-count-le}
use Rattle.store.proofs.Rows.{store_keeps}
use Rattle.store.proofs.Stored.{length-records, length-store_bytes}
use Rattle.store.proofs.ReadBack.{Storable, read_back}
use Rattle.directory.specs.Directory.{key_bytes, directory_bytes}
use Rattle.directory.specs.Read.{count_of}
use Rattle.directory.proofs.Lengths.{Bounded, length-directory_bytes, length-key_bytes-le, length-key_bytes-suc}
use Rattle.directory.proofs.Opened.{count-whole, offset-whole, length_whole, key-whole, directory-opens}
use Rattle.index.specs.Parts.{store_len, group_records_len, count_in, block_in, last_first_ordinal, separator_in}
use Rattle.index.specs.Opening.{file_no, opened_of, open_def}
use Rattle.index.specs.Lookups.{place_by}
use Rattle.index.proofs.OpeningRows.{FileOk, footer-good, records-good, file-none}
use Rattle.index.proofs.OpenFacts.{OpenFacts, opens-facts-by}
use Rattle.index.proofs.Terms.{opens-above, refused-below, opens-own}
use Rattle.index.proofs.LookupLaws.{place-known}
use Rattle.index.proofs.Places.{place-unknown}
use Rattle.written_index.specs.Written.{WrittenIndex, lengths_before, last_first, IndexRead}
use Rattle.written_index.proofs.Joined.{Joined, joined}

-- the lengths before separator i are those of the bytes before it
lengths-before : (ks : List (List ℕ)) (i : ℕ) → i ≤ length ks → lengths_before ks i ≡ length (key_bytes (take i ks))
unfolding lengths_before
lengths-before ks zero h = unfold key_bytes in refl
lengths-before ks (suc i) h = omega (arith, lengths-before ks i (omega arith), length-key_bytes-suc ks i h)

module _ {choose : List ℕ → ℕ} {L : ℕ} {bs : List BlockAddr} {ks : List (List ℕ)} {f : List ℕ} (w : WrittenIndex choose L bs ks f) where
  stored : Storable choose L bs
  stored = record { slopes = w.slopes; group = w.group; few = w.few; legal = w.legal }

  bounded : Bounded ks
  bounded = record { few = omega (arith, w.same, w.few); short = w.short }

  abbrev groups : ℕ
  groups = group_count L (length bs)

  -- ---- its parts

  length-metas : length (group_records choose L groups 0 bs) ≡ 36 * groups
  length-metas = length-records choose L groups 0 bs w.group.some (group-count-below w.group.some (length bs))

  length-store : length (store_bytes choose L bs) ≡ 8 + 36 * groups + length (addrs choose L groups bs)
  length-store = length-store_bytes choose L bs w.group.some

  length-index : length f ≡ length (directory_bytes ks) + length (store_bytes choose L bs) + 8
  length-index = ap length w.bytes ∙ simp (length-append, length-digits_of) (omega arith)

  parts : Joined f (directory_bytes ks) (group_records choose L groups 0 bs) (addrs choose L groups bs)
  unfolding store_bytes
  parts =
      let D = directory_bytes ks in
      let small : length D < 2 ^ (8 * 8) = omega (arith, length-directory_bytes ks, length-key_bytes-le ks w.short, bounded.few) in
      let few : 36 * groups < 2 ^ (8 * 8) = omega (arith, group-count-le w.group.some (length bs), w.few) in
      rw (w.bytes, append_assoc, append_assoc)
      (joined D (le_bytes 8 (36 * groups)) (group_records choose L groups 0 bs) (addrs choose L groups bs) (le_bytes 8 (length D))
      (length-digits_of 8 8 (36 * groups)) (length-digits_of 8 8 (length D))
      (of_digits-digits_of-lt 8 8 (36 * groups) few ∙ sym length-metas) (of_digits-digits_of-lt 8 8 (length D) small))

  records-len : group_records_len f ≡ 36 * groups
  records-len = parts.records-len ∙ length-metas

  store-len : store_len f ≡ length (store_bytes choose L bs)
  store-len = parts.store-len ∙ omega (arith, length-metas, length-store)

  pub written-count : count_in f ≡ length bs
  written-count = ap count_of parts.directory ∙ count-whole ks bounded ∙ w.same

  -- ---- its rows

  no_row : FileOk L f
  no_row = record {
    footer = footer-good f (record {
      some = omega (arith, parts.directory-len, length-directory_bytes ks);
      inside = omega (arith, parts.directory-len, length-index, length-store);
    });
    directory = rw parts.directory (directory-opens ks bounded (omega (arith, w.same, w.two)) w.rises);
    records = records-good L f (record {
      exact = rw written-count records-len;
      inside = omega (arith, records-len, store-len, length-store);
    });
    store = rw (parts.records, parts.addrs, written-count)
        (store_keeps L _ _ (length bs) w.group.some (omega (arith, w.two)) (read_back stored).ok);
  }

  pub written-file : file_no L f ≡ 0
  written-file = file-none L f no_row

  -- ---- its blocks and separators

  pub written-block : (i : ℕ) → i < length bs → block_in L f i ≡ block_of bs i
  unfolding block_in
  written-block i h = rw (parts.records, parts.addrs) ((read_back stored).blocks i h)

  pub written-separator : (i : ℕ) → i < length bs → separator_in f i ≡ get_or ks i []
  unfolding separator_in
  written-separator i h = rw (parts.directory, count-whole ks bounded) (key-whole ks bounded i (omega (arith, w.same)))

  last-first : last_first_ordinal L f ≡ last_first bs
  unfolding last_first_ordinal
  last-first =
      ap (λ (n : ℕ). (block_in L f (n - 1)).first_ordinal) written-count
      ∙ ap (λ (b : BlockAddr). b.first_ordinal) (written-block (length bs - 1) (omega (arith, w.two)))

  -- the opened record: n, the places of the directory, the group records and the address bytes, the number of terms and the version
  pub written-record : (version terms : ℕ) → opened_of version terms f ≡ record {
    n = length bs;
    directory = 0;
    directory_len = length (directory_bytes ks);
    metas = length (directory_bytes ks) + 8;
    metas_len = 36 * groups;
    addrs = length (directory_bytes ks) + 8 + 36 * groups;
    addrs_len = length (addrs choose L groups bs);
    terms = terms;
    version = version;
  }
  unfolding opened_of
  written-record version terms =
      let left : length (store_bytes choose L bs) - (8 + 36 * groups) ≡ length (addrs choose L groups bs) = omega (arith, length-store) in
      rw (written-count, store-len, records-len, parts.directory-len, left)

  -- a number of terms that isn't above the last first ordinal gets 28
  pub written-refused : (version terms : ℕ) → version_no version ≡ 0 → terms ≤ last_first bs → open_def L version terms f ≡ Err TermsBad
  written-refused version terms good h = refused-below L version terms f good written-file (omega (arith, last-first))

  -- ---- what is read with any other number of terms

  module _ (version terms : ℕ) (good : version_no version ≡ 0) (above : last_first bs < terms) where
    opens : open_def L version terms f ≡ Ok (opened_of version terms f)
    opens = opens-above L version terms f good written-file (omega (arith, last-first))

    pub written-facts : OpenFacts L f (opened_of version terms f)
    written-facts = opens-facts-by L f (opened_of version terms f) w.group (opens-own L version terms f (opened_of version terms f) opens)

    count : (opened_of version terms f).n ≡ length bs
    count = written-facts.count ∙ written-count

    place : (i : ℕ) → i < length bs
        → place_by L (opened_of version terms f) f i ≡ Some (4 + 8 * length bs + lengths_before ks i, length (get_or ks i []))
    place i h =
        let g : i < length ks = omega (arith, w.same) in
        place-known L f (opened_of version terms f) written-facts i (omega (arith, count))
        ∙ rw (written-count, parts.directory, offset-whole ks bounded i g, length_whole ks bounded i g, lengths-before ks i (omega arith))

    no_place : (i : ℕ) → length bs ≤ i → place_by L (opened_of version terms f) f i ≡ None
    no_place i h = place-unknown L (opened_of version terms f) f i (omega (arith, count))

    pub index_read : IndexRead L (length bs) version terms bs ks f
    index_read = record {
      opens = opens;
      count = count;
      block = written-block;
      separator = written-separator;
      place = place;
      no_place = no_place;
    }
