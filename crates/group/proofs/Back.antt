-- What was written is read back: bytes that begin with a group's give its blocks, so that equal bytes mean equal blocks.
use Prim.Native.Nat.{ℕ, zero, suc, ◌+◌, ◌-◌, ◌*◌, ◌/◌, ◌%◌, ◌^◌, ◌≤◌, ◌<◌, suc-le-suc}
use mathlib.Core.Path.{◌≡◌, sym, ap, ◌∙◌}
use mathlib.Core.Bool.{false}
use mathlib.Core.List.{List, ◌∷◌}
use native.Mathlib.Nat.{le_of_suc-le-suc}
use native.Mathlib.Omega.{arith}
use borrow.Author.Tests.{le-ltb}
use lib.Dec.{ltb}
use lib.ListN.{length, take, get_or}
use lib.Seq.{ext_get_or, take-length}
use Rattle.serialize.specs.Digits.{le_val, le_bytes, DigitsBelow}
use Rattle.serialize.proofs.Digits.{digits_of-below}
use Rattle.bitpacker.specs.Bits.{bytes_of}
use Rattle.bitpacker.specs.Fields.{group_val, range_bit, ordinal_bit, group_bits}
use Rattle.bitpacker.proofs.Fields.{group-read-back}
use Rattle.slope.specs.Slope.{stored_of}
use Rattle.slope.proofs.Widths.{stored_back}
use Rattle.group.specs.Blocks.{block_of}
use Rattle.group.specs.Legal.{Legal}
use Rattle.group.specs.Write.{range_values, ordinal_values, fields, group_number, addr_bytes}
use Rattle.group.specs.Read.{value_read, range_read, ordinal_read, block_read}
use Rattle.group.specs.Facts.{Takes, Fitting}
use Rattle.group.specs.declared.BlockAddr.{BlockAddr}
use Rattle.group.specs.declared.BlockAddrBlockMetadata.{BlockAddrBlockMetadata}
use Rattle.group.proofs.Blocks.{ends-rise, ordinals-rise}
use Rattle.group.proofs.Written.{length-range_values, length-ordinal_values, length_fields, fields_at, takes-below, range-end-at}
use Rattle.group.proofs.Written.{ordinal-at, length-addr_bytes}

-- what is stored of v reads as the first value + v
pub value-back : (first s w i v : ℕ) → s * i ≤ v + 2 ^ (w - 1) → value_read first (stored_of s w i v) s i w ≡ first + v
unfolding value_read
value-back first s w i v h =
    let e = stored_back s w i v h in
    let t : ltb (first + stored_of s w i v + s * i) (2 ^ (w - 1)) ≡ false =
    le-ltb (first + stored_of s w i v + s * i) (2 ^ (w - 1)) (omega arith) in
    rw t (omega arith)

-- the same of a field of a list of values
field_back : (first s w : ℕ) (vs : List ℕ) → Takes s w vs → (j : ℕ) → j < length vs
    → value_read first (get_or (fields s w 1 vs) j 0) s (suc j) w ≡ first + get_or vs j 0
field_back first s w vs t j h = rw (fields_at s w vs j h) (value-back first s w (suc j) (get_or vs j 0) (t.shifted j h))

module _ (m : BlockAddrBlockMetadata) (b : BlockAddr) (bs : List BlockAddr) (fit : Fitting m b bs)
    (legal : Legal (block_of (b ∷ bs)) (suc (length bs)))
    (l : List ℕ) (bytes : DigitsBelow 8 l) (front : take (length (addr_bytes m b bs)) l ≡ addr_bytes m b bs) where
  -- the fields that a reader finds
  found : (j : ℕ)
      → (j < suc (length bs) → le_val l / 2 ^ range_bit m.range_start_nbits m.first_ordinal_nbits j % 2 ^ m.range_start_nbits
      ≡ get_or (fields m.range_start_slope m.range_start_nbits 1 (range_values b.start b bs)) j 0)
      × (j < length bs → le_val l / 2 ^ ordinal_bit m.range_start_nbits m.first_ordinal_nbits j % 2 ^ m.first_ordinal_nbits
      ≡ get_or (fields m.first_ordinal_slope m.first_ordinal_nbits 1 (ordinal_values b.first_ordinal bs)) j 0)
  unfolding addr_bytes group_number
  found j =
      let r = m.range_start_nbits in
      let o = m.first_ordinal_nbits in
      let rs = fields m.range_start_slope r 1 (range_values b.start b bs) in
      let os = fields m.first_ordinal_slope o 1 (ordinal_values b.first_ordinal bs) in
      let n : length os ≡ length bs =
      length_fields m.first_ordinal_slope o 1 (ordinal_values b.first_ordinal bs) ∙ length-ordinal_values b.first_ordinal bs in
      let e : take (bytes_of (group_bits r o (length os))) l ≡ le_bytes (bytes_of (group_bits r o (length os))) (group_val r o rs os) =
      rw n (rw (length-addr_bytes m b bs) at front) in
      let back =
      group-read-back r o rs os (takes-below m.range_start_slope r (range_values b.start b bs) fit.ranges)
      (takes-below m.first_ordinal_slope o (ordinal_values b.first_ordinal bs) fit.ordinals) l j bytes e in
      (λ h. back.0 (omega arith), λ h. back.1 (omega arith))

  -- the start behind block j is its end, also behind the last block
  pub end_back : (j : ℕ) → j ≤ length bs → range_read m (le_val l) (suc j) ≡ (block_of (b ∷ bs) j).end
  unfolding range_read
  end_back j h =
      rw ((found j).0 (suc-le-suc h))
      (field_back m.range_start m.range_start_slope m.range_start_nbits (range_values b.start b bs) fit.ranges j
      (rw (length-range_values b.start b bs) (suc-le-suc h))
      ∙ omega (arith, range-end-at b bs legal b.start j (suc-le-suc h), ends-rise legal j (suc-le-suc h), fit.start))

  pub start_back : (i : ℕ) → i ≤ length bs → range_read m (le_val l) i ≡ (block_of (b ∷ bs) i).start
  unfolding range_read
  start_back zero h = fit.start
  start_back (suc j) h = end_back j (omega arith) ∙ sym (legal.follows j (suc-le-suc h)).touches

  pub ordinal-back : (i : ℕ) → i ≤ length bs → ordinal_read m (le_val l) i ≡ (block_of (b ∷ bs) i).first_ordinal
  unfolding ordinal_read
  ordinal-back zero h = fit.ordinal
  ordinal-back (suc j) h =
      rw ((found j).1 h)
      (field_back m.first_ordinal m.first_ordinal_slope m.first_ordinal_nbits (ordinal_values b.first_ordinal bs) fit.ordinals j
      (rw (length-ordinal_values b.first_ordinal bs) h)
      ∙ omega (arith, ordinal-at b.first_ordinal bs j h, ordinals-rise legal (suc j) (suc-le-suc h), fit.ordinal))

  pub block_back : (i : ℕ) → i ≤ length bs → block_read m (le_val l) i ≡ block_of (b ∷ bs) i
  unfolding block_read
  block_back i h = rw (start_back i h, end_back i h, ordinal-back i h)

-- equal bytes mean equal blocks
pub blocks-inj : (m : BlockAddrBlockMetadata) (b b' : BlockAddr) (bs bs' : List BlockAddr) → Fitting m b bs → Fitting m b' bs'
    → Legal (block_of (b ∷ bs)) (suc (length bs)) → Legal (block_of (b' ∷ bs')) (suc (length bs'))
    → addr_bytes m b bs ≡ addr_bytes m b' bs' → b ∷ bs ≡ b' ∷ bs'
blocks-inj m b b' bs bs' fit fit' legal legal' e =
    let l = addr_bytes m b bs in
    let n : length bs ≡ length bs' = sym fit.blocks ∙ fit'.blocks in
    let front : take (length l) l ≡ l = take-length l in
    let bytes : DigitsBelow 8 l =
    unfold addr_bytes in
    digits_of-below 8 (bytes_of (group_bits m.range_start_nbits m.first_ordinal_nbits (length bs))) (group_number m b bs) in
    ext_get_or (record { start = 0; end = 0; first_ordinal = 0 }) (b ∷ bs) (b' ∷ bs') (ap suc n)
    (λ i h. sym (block_back m b bs fit legal l bytes front i (le_of_suc-le-suc h))
    ∙ block_back m b' bs' fit' legal' l bytes (rw (← e) front) i (omega arith))
