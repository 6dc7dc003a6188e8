-- How long a store is at most: 14 bytes a block, beside the group records and their length.
use Prim.Native.Nat.{ℕ, zero, suc, ◌+◌, ◌*◌, ◌^◌, ◌≤◌, ◌<◌}
use mathlib.Core.List.{List, [], ◌∷◌}
use native.Mathlib.Nat.{mul-le-mul}
use native.Mathlib.Omega.{arith}
use lib.ListN.{length, take, drop, length-append, length-take, length-drop}
use Rattle.group.specs.Blocks.{block_of}
use Rattle.group.specs.Legal.{Legal}
use Rattle.group.specs.Write.{meta_of}
use Rattle.group.specs.declared.BlockAddr.{BlockAddr}
use Rattle.group.proofs.Written.{fits, length-addr_bytes}
use Rattle.store.specs.Store.{group_count, group_addrs, addrs, store_bytes}
use Rattle.store.specs.Facts.{GroupLenOk}
use Rattle.store.proofs.Groups.{legal-take, legal-drop}
use Rattle.store.proofs.Stored.{length-store_bytes}

module _ (choose : List ℕ → ℕ) (slopes : (vs : List ℕ) → choose vs < 2 ^ 32) where
  -- two fields of at most 56 bits a block, but for one ordinal
  pub group-room : (bs : List BlockAddr) → Legal (block_of bs) (length bs) → length bs ≤ 256
      → length (group_addrs choose bs) ≤ 14 * length bs
  unfolding group_addrs
  group-room [] legal few = omega arith
  group-room (b ∷ bs) legal few =
      let m = meta_of choose 0 b bs in
      let fit = fits b bs legal choose 0 slopes (omega arith) in
      let r = fit.ranges.high in
      let o = fit.ordinals.high in
      let most : (m.range_start_nbits + m.first_ordinal_nbits) * length bs ≤ 112 * length bs =
      mul-le-mul {n₂ = 112} {m₂ = length bs} (omega arith) (omega arith) in
      rw (length-addr_bytes m b bs) (omega arith)

  pub addrs-room : (L k : ℕ) (bs : List BlockAddr) → L ≤ 256 → Legal (block_of bs) (length bs) → length (addrs choose L k bs) ≤ 14 * length bs
  unfolding addrs
  addrs-room L zero bs few legal = omega arith
  addrs-room L (suc k) bs few legal =
      omega (
        arith,
        length-append (group_addrs choose (take L bs)) (addrs choose L k (drop L bs)),
        group-room (take L bs) (legal-take bs legal L) (omega (arith, length-take L bs)),
        addrs-room L k (drop L bs) few (legal-drop bs legal L),
        length-take L bs,
        length-drop L bs,
      )

  pub store-room : (L : ℕ) (bs : List BlockAddr) → GroupLenOk L → Legal (block_of bs) (length bs)
      → length (store_bytes choose L bs) ≤ 8 + 36 * group_count L (length bs) + 14 * length bs
  store-room L bs ok legal =
      omega (arith, length-store_bytes choose L bs ok.some, addrs-room L (group_count L (length bs)) bs ok.few legal)
