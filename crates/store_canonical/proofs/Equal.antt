-- The derived test of two group records: true exactly where they are equal.
use borrow.Author.Tests.{eqb-true, eq-eqb}
use mathlib.Core.Path.{◌≡◌, refl}
use mathlib.Core.Bool.{Bool, true, false, ◌&&◌, true≢false}
use lib.Dec.{eqb}
use Rattle.std.proofs.lemmas.Bool.{and_parts}
use Rattle.group.specs.declared.BlockAddrBlockMetadata.{BlockAddrBlockMetadata}
use Rattle.group.proofs.Metadata.{same-meta}

module _ (a b : BlockAddrBlockMetadata) where
  abbrev pub equal : Bool
  equal =
      eqb a.offset b.offset
      && (eqb a.range_start b.range_start
      && (eqb a.first_ordinal b.first_ordinal
      && (eqb a.range_start_slope b.range_start_slope
      && (eqb a.first_ordinal_slope b.first_ordinal_slope
      && (eqb a.first_ordinal_nbits b.first_ordinal_nbits
      && (eqb a.range_start_nbits b.range_start_nbits
      && eqb a.block_len b.block_len))))))

  pub equal-same : equal ≡ true → a ≡ b
  equal-same e =
      let t₀ = and_parts (eqb a.offset b.offset) _ e in
      let t₁ = and_parts (eqb a.range_start b.range_start) _ t₀.1 in
      let t₂ = and_parts (eqb a.first_ordinal b.first_ordinal) _ t₁.1 in
      let t₃ = and_parts (eqb a.range_start_slope b.range_start_slope) _ t₂.1 in
      let t₄ = and_parts (eqb a.first_ordinal_slope b.first_ordinal_slope) _ t₃.1 in
      let t₅ = and_parts (eqb a.first_ordinal_nbits b.first_ordinal_nbits) _ t₄.1 in
      let t₆ = and_parts (eqb a.range_start_nbits b.range_start_nbits) _ t₅.1 in
      same-meta (eqb-true _ _ t₀.0) (eqb-true _ _ t₁.0) (eqb-true _ _ t₂.0) (eqb-true _ _ t₃.0) (eqb-true _ _ t₄.0) (eqb-true _ _ t₅.0)
      (eqb-true _ _ t₆.0) (eqb-true _ _ t₆.1)

equal-self : (a : BlockAddrBlockMetadata) → equal a a ≡ true
equal-self a =
    rw (
      eq-eqb a.offset a.offset refl,
      eq-eqb a.range_start a.range_start refl,
      eq-eqb a.first_ordinal a.first_ordinal refl,
      eq-eqb a.range_start_slope a.range_start_slope refl,
      eq-eqb a.first_ordinal_slope a.first_ordinal_slope refl,
      eq-eqb a.first_ordinal_nbits a.first_ordinal_nbits refl,
      eq-eqb a.range_start_nbits a.range_start_nbits refl,
      eq-eqb a.block_len a.block_len refl,
    )

pub same-equal : (a b : BlockAddrBlockMetadata) → a ≡ b → equal a b ≡ false → ⊥
same-equal a b e t = true≢false (rw (← e, equal-self a) at t)
