-- Laws of a group record's bytes: what was written is read back, and what is read is what stands there.
use mathlib.Core.Path.{◌≡◌, refl, sym, ap, ◌∙◌}
use mathlib.Core.List.{List, ◌++◌}
use Prim.Native.Nat.{ℕ, ◌+◌, ◌*◌, ◌^◌, ◌≤◌, ◌<◌}
use native.Mathlib.Nat.{add-zero}
use native.Mathlib.Omega.{arith}
use lib.ListN.{length, take, drop}
use lib.Seq.{take_all, take-add, drop-drop}
use Rattle.serialize.specs.Digits.{digits_of, le_bytes, DigitsBelow, number_at}
use Rattle.serialize.proofs.Numbers.{part-of-front, number-back, number_lt, number-bytes}
use Rattle.group.specs.Meta.{meta_bytes, metadata_at}
use Rattle.group.specs.declared.BlockAddrBlockMetadata.{BlockAddrBlockMetadata}

-- records with equal numbers are equal
pub same-meta : {a a' b b' c c' d d' e e' f f' g g' h h' : ℕ} → a ≡ a' → b ≡ b' → c ≡ c' → d ≡ d' → e ≡ e' → f ≡ f' → g ≡ g' → h ≡ h'
    → ◌≡◌ {A = BlockAddrBlockMetadata}
    (record {
      offset = a;
      range_start = b;
      first_ordinal = c;
      range_start_slope = d;
      first_ordinal_slope = e;
      first_ordinal_nbits = f;
      range_start_nbits = g;
      block_len = h;
    })
    (record {
      offset = a';
      range_start = b';
      first_ordinal = c';
      range_start_slope = d';
      first_ordinal_slope = e';
      first_ordinal_nbits = f';
      range_start_nbits = g';
      block_len = h';
    })
same-meta a b c d e f g h = cc

-- every number fits its bytes, as the machine's types say
pub record MetaFits (m : BlockAddrBlockMetadata) : Type 0 where
  pub offset : m.offset < 2 ^ 64
  pub range-start : m.range_start < 2 ^ 64
  pub first-ordinal : m.first_ordinal < 2 ^ 64
  pub range-start-slope : m.range_start_slope < 2 ^ 32
  pub first-ordinal-slope : m.first_ordinal_slope < 2 ^ 32
  pub first-ordinal-nbits : m.first_ordinal_nbits < 2 ^ 8
  pub range-start-nbits : m.range_start_nbits < 2 ^ 8
  pub block-len : m.block_len < 2 ^ 16

pub length-meta_bytes : (m : BlockAddrBlockMetadata) → length (meta_bytes m) ≡ 36
unfolding meta_bytes digits_of
length-meta_bytes m = refl

pub meta-back : (m : BlockAddrBlockMetadata) (s : List ℕ) (at : ℕ) → MetaFits m → take 36 (drop at s) ≡ meta_bytes m → metadata_at s at ≡ m
unfolding meta_bytes metadata_at digits_of
meta-back m s at k e =
    let field : (p w v : ℕ) → p + w ≤ 36 → v < 2 ^ (8 * w) → take w (drop p (meta_bytes m)) ≡ le_bytes w v → number_at s (at + p) w ≡ v =
    λ p w v h l q. rw (drop-drop p at s) at
    (number-back (drop at s) p w v l (sym (part-of-front (drop at s) 36 p w h) ∙ ap (λ (x : List ℕ). take w (drop p x)) e ∙ q)) in
    same-meta
    (rw (add-zero at) at (field 0 8 m.offset (omega arith) k.offset refl))
    (field 8 8 m.range_start (omega arith) k.range-start refl)
    (field 16 8 m.first_ordinal (omega arith) k.first-ordinal refl)
    (field 24 4 m.range_start_slope (omega arith) k.range-start-slope refl)
    (field 28 4 m.first_ordinal_slope (omega arith) k.first-ordinal-slope refl)
    (field 32 1 m.first_ordinal_nbits (omega arith) k.first-ordinal-nbits refl)
    (field 33 1 m.range_start_nbits (omega arith) k.range-start-nbits refl)
    (field 34 2 m.block_len (omega arith) k.block-len refl)

module _ (s : List ℕ) (at : ℕ) (below : DigitsBelow 8 s) where
  -- a number behind n bytes that stand there
  more : {b : List ℕ} (n w : ℕ) → at + n + w ≤ length s → b ≡ take n (drop at s)
      → b ++ le_bytes w (number_at s (at + n) w) ≡ take (n + w) (drop at s)
  more n w h e = rw (e, number-bytes s (at + n) w h below, take-add n w (drop at s), drop-drop n at s)

  pub meta-bytes : at + 36 ≤ length s → meta_bytes (metadata_at s at) ≡ take 36 (drop at s)
  unfolding meta_bytes metadata_at
  meta-bytes h =
      more 34 2 (omega arith)
      (more 33 1 (omega arith)
      (more 32 1 (omega arith)
      (more 28 4 (omega arith)
      (more 24 4 (omega arith)
      (more 16 8 (omega arith)
      (more 8 8 (omega arith) (number-bytes s at 8 (omega arith) below)))))))

  pub metadata_at-fits : MetaFits (metadata_at s at)
  unfolding metadata_at
  metadata_at-fits = record {
    offset = number_lt s at 8 below;
    range-start = number_lt s (at + 8) 8 below;
    first-ordinal = number_lt s (at + 16) 8 below;
    range-start-slope = number_lt s (at + 24) 4 below;
    first-ordinal-slope = number_lt s (at + 28) 4 below;
    first-ordinal-nbits = number_lt s (at + 32) 1 below;
    range-start-nbits = number_lt s (at + 33) 1 below;
    block-len = number_lt s (at + 34) 2 below;
  }

-- different records have different bytes
pub meta-inj : (m m' : BlockAddrBlockMetadata) → MetaFits m → MetaFits m' → meta_bytes m ≡ meta_bytes m' → m ≡ m'
meta-inj m m' k k' e =
    let all : take 36 (meta_bytes m) ≡ meta_bytes m = take_all 36 (meta_bytes m) (omega (arith, length-meta_bytes m)) in
    sym (meta-back m (meta_bytes m) 0 k all) ∙ meta-back m' (meta_bytes m) 0 k' (all ∙ e)
