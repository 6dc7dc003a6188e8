-- The bits of a word under `+`, `-`, `|`, `&`, `!` and shifts.
use mathlib.Core.Path.{◌≡◌, refl, sym, ap, ◌∙◌}
use mathlib.Core.Logic.{◌≢◌, ⊎_elim}
use Prim.Native.Nat.{ℕ, zero, suc, ◌+◌, ◌-◌, ◌*◌, ◌/◌, ◌%◌, ◌^◌, ◌≤◌, ◌<◌, min, max}
use native.Mathlib.Nat.{pow-suc, zero-add, lt_of_not-le, mod-lt}
use native.Mathlib.Numerals.{add-one, one-add}
use native.Mathlib.Omega.{arith}
use lib.Pow.{pow_pos, shr-shr, shl-shr, shl_exact, field, mod-mod-pow}
use lib.Bits.{bit_and, bit_or, and_step, or_step, and_mask, and_le_r, and_self, or_zero_r}
use lib.Count.{count_trailing_zeros, under}
use Rattle.std.proofs.lemmas.Bool.{cases_eq}
use Rattle.automaton.specs.Bits.{bit}

pub bit-lt : (w s : ℕ) → bit w s < 2
unfolding bit
bit-lt w zero = omega arith
bit-lt w (suc s) = bit-lt (w / 2) s

pub bit-off : (w s : ℕ) → (bit w s ≡ 1 → ⊥) → bit w s ≡ 0
bit-off w s n = omega (arith, bit-lt w s, n)

pub bit-zero : (s : ℕ) → bit 0 s ≡ 0
unfolding bit
bit-zero zero = refl
bit-zero (suc s) = bit-zero s

-- no bit at or above k
pub bit-top : (k w s : ℕ) → w < 2 ^ k → k ≤ s → bit w s ≡ 0
unfolding bit
bit-top zero w zero h l = omega arith
bit-top zero w (suc s) h l = ap (λ (x : ℕ). bit x s) z ∙ bit-zero s
  where
    z : w / 2 ≡ 0
    z = omega arith
bit-top (suc k) w zero h l = omega arith
bit-top (suc k) w (suc s) h l = bit-top k (w / 2) s (let e = pow-suc 2 k in omega (arith, e)) (omega arith)

pub bit_below : (k w s : ℕ) → w < 2 ^ k → bit w s ≡ 1 → s < k
bit_below k w s h e = lt_of_not-le (λ l. let z = bit-top k w s h l in omega (arith, z))

-- ---- shifts
pub bit-shr : (w s : ℕ) → w / 2 ^ s % 2 ≡ bit w s
unfolding bit
bit-shr w zero = ap (λ (x : ℕ). x % 2) (omega arith)
bit-shr w (suc s) = ap (λ (x : ℕ). x % 2) (sym (shr-shr w 1 s ∙ ap (λ (k : ℕ). w / 2 ^ k) (one-add s))) ∙ bit-shr (w / 2) s

-- `(w >> s) & 1`
pub bit_test : (w s : ℕ) → bit_and (w / 2 ^ s) 1 ≡ bit w s
bit_test w s = and_mask (w / 2 ^ s) 1 ∙ bit-shr w s

-- `x << s` of one bit
pub shl-bit : (x s : ℕ) → x < 2 → s < 64 → (x * 2 ^ s) % 2 ^ 64 ≡ x * 2 ^ s
shl-bit x s h l = shl_exact 1 s 64 h (omega arith)

-- ---- w + 2 ^ s, where bit s of w is 0
half-add : (w s : ℕ) → (w + 2 ^ suc s) / 2 ≡ w / 2 + 2 ^ s
half-add w s = rw pow-suc (omega arith)

pub bit-set : (w s : ℕ) → bit w s ≡ 0 → bit (w + 2 ^ s) s ≡ 1
unfolding bit
bit-set w zero e = omega arith
bit-set w (suc s) e = rw half-add (bit-set (w / 2) s e)

pub bit-set-other : (w s t : ℕ) → bit w s ≡ 0 → t ≢ s → bit (w + 2 ^ s) t ≡ bit w t
unfolding bit
bit-set-other w zero zero e n = absurd (n refl)
bit-set-other w zero (suc t) e n = ap (λ (x : ℕ). bit x t) (omega arith)
bit-set-other w (suc s) zero e n = rw pow-suc (omega arith)
bit-set-other w (suc s) (suc t) e n = rw half-add (bit-set-other (w / 2) s t e (λ q. n (ap suc q)))

pub bit-pow : (s : ℕ) → bit (2 ^ s) s ≡ 1
bit-pow s = ap (λ (x : ℕ). bit x s) (sym (zero-add (2 ^ s))) ∙ bit-set 0 s (bit-zero s)

pub bit-pow-other : (s t : ℕ) → t ≢ s → bit (2 ^ s) t ≡ 0
bit-pow-other s t n = ap (λ (x : ℕ). bit x t) (sym (zero-add (2 ^ s))) ∙ bit-set-other 0 s t (bit-zero s) n ∙ bit-zero t

-- ---- w - 2 ^ s, where bit s of w is 1
pub bit-has : (w s : ℕ) → bit w s ≡ 1 → 2 ^ s ≤ w
unfolding bit
bit-has w zero e = omega arith
bit-has w (suc s) e = let p = pow-suc 2 s in let i = bit-has (w / 2) s e in omega (arith, p, i)

half-sub : (w s : ℕ) → (w - 2 ^ suc s) / 2 ≡ w / 2 - 2 ^ s
half-sub w s = rw pow-suc (omega arith)

pub bit-clear-other : (w s t : ℕ) → bit w s ≡ 1 → t ≢ s → bit (w - 2 ^ s) t ≡ bit w t
unfolding bit
bit-clear-other w zero zero e n = absurd (n refl)
bit-clear-other w zero (suc t) e n = ap (λ (x : ℕ). bit x t) (omega arith)
bit-clear-other w (suc s) zero e n = let p = bit-has w (suc s) e in let q = pow-suc 2 s in omega (arith, p, q)
bit-clear-other w (suc s) (suc t) e n = rw half-sub (bit-clear-other (w / 2) s t e (λ q. n (ap suc q)))

pub bit-clear : (w s : ℕ) → bit w s ≡ 1 → bit (w - 2 ^ s) s ≡ 0
unfolding bit
bit-clear w zero e = omega arith
bit-clear w (suc s) e = rw half-sub (bit-clear (w / 2) s e)

-- what is left was there
pub bit-cleared : (w s t : ℕ) → bit w s ≡ 1 → bit (w - 2 ^ s) t ≡ 1 → bit w t ≡ 1
bit-cleared w s t e l = ⊎_elim (λ q. ap (bit w) q ∙ e) (λ n. sym (bit-clear-other w s t e n) ∙ l) (cases_eq t s)

-- ---- the lowest set bit
pub bit-trailing : (k w : ℕ) → 0 < w → w < 2 ^ k → bit w (count_trailing_zeros k w) ≡ 1
unfolding bit count_trailing_zeros
bit-trailing zero w p h = omega arith
bit-trailing (suc k) w p h = go (w % 2) refl (λ q. bit-trailing k (w / 2) q (let e = pow-suc 2 k in omega (arith, e)))
  where
    go : (r : ℕ) → w % 2 ≡ r → (0 < w / 2 → bit (w / 2) (count_trailing_zeros k (w / 2)) ≡ 1)
        → bit w (under r (count_trailing_zeros k (w / 2))) ≡ 1
    go zero e i = i (omega arith)
    go (suc r) e i = omega arith

-- no bit below it
pub bit-under : (k w s : ℕ) → s < count_trailing_zeros k w → bit w s ≡ 0
unfolding bit count_trailing_zeros
bit-under zero w s h = absurd (omega arith)
bit-under (suc k) w s h = go (w % 2) refl s h (λ j. bit-under k (w / 2) j)
  where
    go : (r : ℕ) → w % 2 ≡ r → (j : ℕ) → j < under r (count_trailing_zeros k (w / 2))
        → ((i : ℕ) → i < count_trailing_zeros k (w / 2) → bit (w / 2) i ≡ 0) → bit w j ≡ 0
    go zero e zero h f = e
    go zero e (suc j) h f = f j (omega arith)
    go (suc r) e j h f = absurd (omega arith)

-- `w & (w - 1)` clears the lowest
pub and-pred : (k w : ℕ) → 0 < w → w < 2 ^ k → bit_and w (w - 1) ≡ w - 2 ^ count_trailing_zeros k w
unfolding count_trailing_zeros
and-pred zero w p h = omega arith
and-pred (suc k) w p h = and_step w (w - 1) ∙ go (w % 2) refl (λ q. and-pred k (w / 2) q (let e = pow-suc 2 k in omega (arith, e)))
  where
    go : (r : ℕ) → w % 2 ≡ r → (0 < w / 2 → bit_and (w / 2) (w / 2 - 1) ≡ w / 2 - 2 ^ count_trailing_zeros k (w / 2))
        → bit_and (w / 2) ((w - 1) / 2) * 2 + min (w % 2) ((w - 1) % 2) ≡ w - 2 ^ under r (count_trailing_zeros k (w / 2))
    go zero e i =
        let q : (w - 1) / 2 ≡ w / 2 - 1 = omega arith in
        let f : bit_and (w / 2) ((w - 1) / 2) ≡ w / 2 - 2 ^ count_trailing_zeros k (w / 2) = ap (bit_and (w / 2)) q ∙ i (omega arith) in
        let g = pow-suc 2 (count_trailing_zeros k (w / 2)) in
        omega (arith, f, g)
    go (suc r) e i =
        let q : (w - 1) / 2 ≡ w / 2 = omega arith in
        let f : bit_and (w / 2) ((w - 1) / 2) ≡ w / 2 = ap (bit_and (w / 2)) q ∙ and_self (w / 2) in
        omega (arith, f)

-- ---- `|`, `&` and `!`
cut : (q r : ℕ) → r < 2 → (q * 2 + r) / 2 ≡ q
cut q r h = omega arith

pub bit-or : (a b s : ℕ) → bit (bit_or a b) s ≡ max (bit a s) (bit b s)
unfolding bit
bit-or a b zero = ap (λ (x : ℕ). x % 2) (or_step a b) ∙ omega arith
bit-or a b (suc s) =
    ap (λ (x : ℕ). bit (x / 2) s) (or_step a b)
    ∙ ap (λ (x : ℕ). bit x s) (cut (bit_or (a / 2) (b / 2)) (max (a % 2) (b % 2)) (omega arith)) ∙ bit-or (a / 2) (b / 2) s

pub bit-and : (a b s : ℕ) → bit (bit_and a b) s ≡ min (bit a s) (bit b s)
unfolding bit
bit-and a b zero = ap (λ (x : ℕ). x % 2) (and_step a b) ∙ omega arith
bit-and a b (suc s) =
    ap (λ (x : ℕ). bit (x / 2) s) (and_step a b)
    ∙ ap (λ (x : ℕ). bit x s) (cut (bit_and (a / 2) (b / 2)) (min (a % 2) (b % 2)) (omega arith)) ∙ bit-and (a / 2) (b / 2) s

pub or-keeps : (a b s : ℕ) → bit a s ≡ 1 → bit (bit_or a b) s ≡ 1
or-keeps a b s e = bit-or a b s ∙ omega (arith, bit-lt b s)

-- `a & b != 0`: a bit of both
pub and-some : (k a b : ℕ) → b < 2 ^ k → bit_and a b ≢ 0 → (s : ℕ) × (bit a s ≡ 1) × (bit b s ≡ 1)
and-some k a b h n =
    let s = count_trailing_zeros k (bit_and a b) in
    let e = bit-trailing k (bit_and a b) (omega (arith, n)) (omega (arith, and_le_r a b)) in
    let m = bit-and a b s in
    (s, omega (arith, bit-lt a s), omega (arith, bit-lt b s))

pub bit_not : (k w s : ℕ) → w < 2 ^ k → s < k → bit (2 ^ k - 1 - w) s ≡ 1 - bit w s
unfolding bit
bit_not zero w s h l = omega arith
bit_not (suc k) w zero h l = let p = pow-suc 2 k in omega (arith, p)
bit_not (suc k) w (suc s) h l =
    let p = pow-suc 2 k in
    let e : (2 ^ suc k - 1 - w) / 2 ≡ 2 ^ k - 1 - w / 2 = omega (arith, p) in
    ap (λ (x : ℕ). bit x s) e ∙ bit_not k (w / 2) s (omega (arith, p)) (omega arith)

-- `w | (1 << s)` adds 2 ^ s where the bit is 0
pub or_set : (w s : ℕ) → bit w s ≡ 0 → bit_or w (2 ^ s) ≡ w + 2 ^ s
unfolding bit
or_set w zero e =
    let f : bit_or (w / 2) 0 ≡ w / 2 = or_zero_r (w / 2) in
    or_step w 1 ∙ omega (arith, f)
or_set w (suc s) e =
    let p = pow-suc 2 s in
    let h : 2 ^ suc s / 2 ≡ 2 ^ s = omega (arith, p) in
    let f : bit_or (w / 2) (2 ^ suc s / 2) ≡ w / 2 + 2 ^ s = ap (bit_or (w / 2)) h ∙ or_set (w / 2) s e in
    or_step w (2 ^ suc s) ∙ omega (arith, f, p)

-- a word with no bit set
pub bits-zero : (k w : ℕ) → w < 2 ^ k → ((s : ℕ) → bit w s ≡ 0) → w ≡ 0
unfolding bit
bits-zero zero w h f = omega arith
bits-zero (suc k) w h f =
    let i = bits-zero k (w / 2) (let e = pow-suc 2 k in omega (arith, e)) (λ s. f (suc s)) in
    let z = f 0 in
    omega (arith, i, z)

-- ---- the bits below m
pub bit-mod : (k w s : ℕ) → s < k → bit (w % 2 ^ k) s ≡ bit w s
unfolding bit
bit-mod zero w s l = absurd (omega arith)
bit-mod (suc k) w zero l = ap (λ (n : ℕ). w % 2 ^ n % 2) (sym (add-one k)) ∙ mod-mod-pow w k 1
bit-mod (suc k) w (suc s) l =
    ap (λ (n : ℕ). bit (w % 2 ^ n / 2) s) (sym (add-one k)) ∙ ap (λ (x : ℕ). bit x s) (field w k 1) ∙ bit-mod k (w / 2) s (omega arith)

-- `(w << (64 - m)) >> (64 - m)`
pub shifted_back : (w m : ℕ) → m ≤ 64 → (w * 2 ^ (64 - m)) % 2 ^ 64 / 2 ^ (64 - m) ≡ w % 2 ^ m
shifted_back w m h =
    let k = 64 - m in
    let e : 64 ≡ m + k = omega arith in
    ap (λ (n : ℕ). (w * 2 ^ k) % 2 ^ n / 2 ^ k) e ∙ field (w * 2 ^ k) m k ∙ ap (λ (x : ℕ). x % 2 ^ m) (shl-shr w k)

-- `(!w << (64 - m)) >> (64 - m)`: the bits below m that w has not
abbrev pub Others : (m w r : ℕ) → Type 0
Others m w r = (r < 2 ^ m) × ((s : ℕ) → s < m → bit r s ≡ 1 - bit w s)

pub others : (m w : ℕ) → m ≤ 64 → w < 2 ^ 64 → Others m w (((2 ^ 64 - 1 - w) * 2 ^ (64 - m)) % 2 ^ 64 / 2 ^ (64 - m))
others m w h l =
    rw shifted_back
    (mod-lt (2 ^ 64 - 1 - w) (pow_pos m), λ s g. bit-mod m (2 ^ 64 - 1 - w) s g ∙ bit_not 64 w s l (omega arith))
