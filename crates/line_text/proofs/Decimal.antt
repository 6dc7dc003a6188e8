-- Digits: those that are written are the definition's, and how many a number has; the hex digits of one byte more.
use mathlib.Core.Path.{◌≡◌, refl, sym, ap, ◌∙◌}
use mathlib.Core.List.{List, [], ◌∷◌, ◌++◌, append-nil}
use Prim.Native.Nat.{ℕ, zero, suc, ◌+◌, ◌*◌, ◌/◌, ◌%◌, ◌^◌, ◌≤◌, ◌<◌}
use native.Mathlib.Nat.{mod-eq_of_lt, pow-suc}
use native.Mathlib.Numerals.{add-one, unary_clauses}
use native.Mathlib.Omega.{arith}
use borrow.Author.Tests.{lt-ltb, le-ltb}
use lib.Dec.{ltb}
use lib.ListN.{length, take, get_or}
use Rattle.std.specs.Fmt as Fmt
use Rattle.std.proofs.lemmas.Fmt.{PrependsLastDigit, decimal_from_prepends, length-decimal-le}
use borrow.Table.Steps.{cases}
use Rattle.line_text.specs.Lines.{decimal_before, decimal, hex_digit, hex}

-- ---- decimal

-- a number below 10^k has at most k digits
pub length-decimal : (k fuel n : ℕ) (rest : List ℕ) → n < 10 ^ suc k → length (decimal_before fuel n rest) ≤ suc k + length rest
unfolding decimal_before
length-decimal k zero n rest h = omega arith
length-decimal zero (suc fuel) n rest h = rw (lt-ltb n 10 h) (omega arith)
length-decimal (suc k) (suc fuel) n rest h =
    cases (ltb n 10)
    (λ e. rw e (omega arith))
    (λ e. rw e (let q : n < 10 ^ suc k * 10 = rw pow-suc at h in
    omega (arith, length-decimal k fuel (n / 10) ((48 + n % 10) ∷ rest) (omega arith))))

-- no more digits than the fuel lets it have
pub length-fuel : (fuel n : ℕ) (rest : List ℕ) → length (decimal_before fuel n rest) ≤ suc fuel + length rest
unfolding decimal_before
length-fuel zero n rest = omega arith
length-fuel (suc fuel) n rest =
    cases (ltb n 10) (λ e. rw e (omega arith)) (λ e. rw e (omega (arith, length-fuel fuel (n / 10) ((48 + n % 10) ∷ rest))))

-- digits in front of what follows, at most `room` of them
before : ℕ → ℕ → List ℕ → List ℕ
unfolding decimal_before
before zero n rest = rest
before (suc room) n rest = decimal_before room n rest

one-digit : (room n : ℕ) (rest : List ℕ) → n < 10 → before (suc room) n rest ≡ (48 + n) ∷ rest
unfolding before decimal_before
one-digit zero n rest h = rw (mod-eq_of_lt h)
one-digit (suc room) n rest h = rw (lt-ltb n 10 h)

more-digits : (room n : ℕ) (rest : List ℕ) → 10 ≤ n → before (suc room) n rest ≡ before room (n / 10) ((48 + n % 10) ∷ rest)
unfolding before decimal_before
more-digits zero n rest h = refl
more-digits (suc room) n rest h = rw (le-ltb n 10 h)

-- what `{}` writes of a number of 64 bits
pub decimal_shown : (n : ℕ) → n < 2 ^ 64 → Fmt.decimal n ≡ decimal n
unfolding before
decimal_shown n h =
    let digits : PrependsLastDigit before = record { one = one-digit; more = more-digits } in
    sym (decimal_from_prepends before digits 20 n [] h (length-decimal-le 20 n (omega arith) (omega arith) h) ∙ append-nil (Fmt.decimal n))

-- ---- hex

-- one byte more
pub hex-more : (bytes : List ℕ) (i : ℕ) → i < length bytes
    → hex (take i bytes) ++ (hex_digit (get_or bytes i 0 / 16) ∷ hex_digit (get_or bytes i 0 % 16) ∷ []) ≡ hex (take (i + 1) bytes)
unfolding hex
hex-more [] i h = absurd (omega arith)
hex-more (b ∷ bytes) zero h = refl
hex-more (b ∷ bytes) (suc i) h =
    simp unary_clauses
    (ap (λ (ds : List ℕ). hex_digit (b / 16) ∷ hex_digit (b % 16) ∷ ds) (rw (add-one i) at (hex-more bytes i (omega arith))))

pub length-hex : (bytes : List ℕ) → length (hex bytes) ≡ 2 * length bytes
unfolding hex
length-hex [] = refl
length-hex (b ∷ bytes) = omega (arith, length-hex bytes)
