-- Eight stores, each where the one before it ends, are one.
use Rattle.std.proofs.Common.{◌≡◌, ℕ, ◌+◌, ◌^◌, ◌<◌, List, ◌++◌, length, ap, ◌∙◌, length-append, refl, arith}
use native.Mathlib.Nat.{mod-eq_of_lt}
use lib.ListN.{set}
use Rattle.std.proofs.lemmas.List.Edits.{sets}
use Rattle.serialize.specs.Digits.{digits_of, le_bytes}
use Rattle.serialize.proofs.Digits.{length-digits_of}
use Rattle.serialize.proofs.Stores.{sets-append}
use Rattle.group.specs.Meta.{meta_bytes}
use Rattle.group.proofs.BlockAddrBlockMetadata.serialize.Goals as goal

-- e is d with w, of n bytes, stored from `at` on
record Wrote (d : List ℕ) (at : ℕ) (w e : List ℕ) (n : ℕ) : Type 0 where
  same : e ≡ sets d at w
  long : length w ≡ n

first : {d e : List ℕ} (at w v : ℕ) → e ≡ sets d at (le_bytes w v) → Wrote d at (le_bytes w v) e w
first at w v e = record { same = e; long = length-digits_of 8 w v }

-- a store behind those before it
next : {d p e f : List ℕ} {at n : ℕ} → Wrote d at p e n → (w v : ℕ) → f ≡ sets e (at + n) (le_bytes w v)
    → Wrote d at (p ++ le_bytes w v) f (n + w)
next {d} {p} {e} {f} {at} k w v q = record {
  same = q ∙ rw (k.same, ← k.long) (sets-append d p (le_bytes w v) at);
  long = simp (length-append, length-digits_of) (ap (λ n. n + w) k.long);
}

-- a byte is its own number
byte : (l : List ℕ) (at v : ℕ) → v < 2 ^ 8 → set l at v ≡ sets l at (le_bytes 1 v)
unfolding digits_of
byte l at v h = rw (mod-eq_of_lt {n = v} {m = 2 ^ 8} h) refl

pub returns : goal.returns
unfolding meta_bytes
returns c =
    let at = c.args.at in
    let m = c.args.self.now in
    let e₁ = first at 8 m.offset c.serialize_u64.ensures in
    let e₂ = next e₁ 8 m.range_start c.serialize_u64-2.ensures in
    let e₃ = next e₂ 8 m.first_ordinal c.serialize_u64-3.ensures in
    let e₄ = next e₃ 4 m.range_start_slope c.serialize_u32.ensures in
    let e₅ = next e₄ 4 m.first_ordinal_slope c.serialize_u32-2.ensures in
    let e₆ = next e₅ 1 m.first_ordinal_nbits (byte _ (at + 32) m.first_ordinal_nbits (omega arith)) in
    let e₇ = next e₆ 1 m.range_start_nbits (byte _ (at + 33) m.range_start_nbits (omega arith)) in
    (next e₇ 2 m.block_len c.serialize_u16.ensures).same
