-- One of two words by a mask, and the order of two keys as a number: 0 for below, 1 for not below.
use mathlib.Core.Path.{◌≡◌, refl, sym, ap, ◌∙◌}
use mathlib.Core.Bool.{Bool, true, false, cond}
use mathlib.Core.List.{List}
use Prim.Native.Nat.{ℕ, zero, suc, ◌+◌, ◌-◌, ◌*◌, ◌/◌, ◌^◌, ◌≤◌, ◌<◌}
use native.Mathlib.Nat.{mod-eq_of_lt}
use native.Mathlib.Omega.{arith}
use lib.Dec.{eqb, ltb}
use lib.ListN.{length, get_or}
use lib.Bits.{bit_and, bit_xor, and_mask, and_zero_r, xor_self, xor_zero_l, xor_zero_r, xor_assoc}
use Rattle.std.proofs.lemmas.Nat.{xor_lt}
use borrow.Author.Tests.{lt-ltb, le-ltb, ltb-true, ltb-false}
use borrow.Table.Steps.{cases}
use Rattle.keys.specs.Order.{less, common_prefix_len}
use Rattle.keys.proofs.Order.{less-end-right, less-end-left, less-at}

-- ---- masks

-- what differs between two words, put over the first, gives the second
turned : (a b : ℕ) → bit_xor a (bit_xor a b) ≡ b
turned a b = sym (xor_assoc a a b) ∙ ap (λ (x : ℕ). bit_xor x b) (xor_self a) ∙ xor_zero_l b

pub picked : (which a b : ℕ) → which ≤ 1 → a < 2 ^ 64 → b < 2 ^ 64
    → bit_xor a (bit_and (bit_xor a b) (which * 18446744073709551615)) ≡ cond (eqb which 0) a b
picked zero a b w h g = ap (bit_xor a) (and_zero_r (bit_xor a b)) ∙ xor_zero_r a
picked (suc zero) a b w h g = ap (bit_xor a) (and_mask (bit_xor a b) 64 ∙ mod-eq_of_lt (xor_lt 64 a b h g)) ∙ turned a b
picked (suc (suc which)) a b w h g = absurd (let z : ⊥ = omega arith in z)

-- ---- the order

-- a key's byte at a place and one more, 0 after its end
abbrev byte_from1 : List ℕ → ℕ → ℕ
byte_from1 key place = cond (ltb place (length key)) (get_or key place 0 + 1) 0

-- of two numbers up to 256 the first isn't below the second
not-below-number : (a b : ℕ) → a ≤ 256 → b ≤ 256 → (a + 512 - b) / 512 ≡ cond (ltb a b) 0 1
not-below-number a b h g =
    cases (ltb a b)
    (λ t. rw t (let l = ltb-true a b t in omega arith))
    (λ f. rw f (let l = ltb-false a b f in omega arith))

-- after the common prefix these numbers are in the keys' order
ordered : (at key : List ℕ) → ltb (byte_from1 at (common_prefix_len at key)) (byte_from1 key (common_prefix_len at key)) ≡ less at key
ordered at key =
    let s = common_prefix_len at key in
    cases (ltb s (length key))
    (λ in-key.
    cases (ltb s (length at))
    (λ in-at.
    rw (in-key, in-at)
    (same-order (get_or at s 0) (get_or key s 0) ∙ sym (less-at at key (ltb-true s (length at) in-at) (ltb-true s (length key) in-key))))
    (λ past-at.
    rw (in-key, past-at)
    (lt-ltb 0 (get_or key s 0 + 1) (omega arith) ∙ sym (less-end-left at key (ltb-false s (length at) past-at) (ltb-true s (length key)
    in-key)))))
    (λ past-key.
    rw past-key (le-ltb (byte_from1 at s) 0 (omega arith) ∙ sym (less-end-right at key (ltb-false s (length key) past-key))))
  where
    same-order : (x y : ℕ) → ltb (x + 1) (y + 1) ≡ ltb x y
    same-order x y =
        cases (ltb x y)
        (λ t. lt-ltb (x + 1) (y + 1) (let l = ltb-true x y t in omega arith) ∙ sym t)
        (λ f. le-ltb (x + 1) (y + 1) (let l = ltb-false x y f in omega arith) ∙ sym f)

pub not-below-is : (at key : List ℕ) (a b shared : ℕ) → a ≡ byte_from1 at shared → b ≡ byte_from1 key shared → a ≤ 256 → b ≤ 256
    → shared ≡ common_prefix_len at key → (a + 512 - b) / 512 ≡ cond (less at key) 0 1
not-below-is at key a b shared e g h l s =
    not-below-number a b h l ∙ rw (e, g, s, ordered at key)

-- 0 exactly where the key is below
pub below-is-0 : (t : Bool) (k : ℕ) → k ≡ cond t 0 1 → t ≡ eqb k 0
below-is-0 true k e = rw e refl
below-is-0 false k e = rw e refl
