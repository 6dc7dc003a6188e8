-- Byte strings that lead to acceptance: none left, or a byte and a string from the next state.
use mathlib.Core.Path.{◌≡◌, refl}
use mathlib.Core.List.{List, [], ◌∷◌, ◌++◌}
use mathlib.Core.Bool.{Bool}
use mathlib.Core.Logic.{◌⊎◌, inl, inr}
use Prim.Native.Nat.{ℕ, zero, suc, ◌+◌, ◌≤◌, ◌<◌}
use native.Mathlib.Numerals.{add-one}
use native.Mathlib.Omega.{arith}
use lib.ListN.{length, take, get_or}
use lib.Seq.{take-suc}
use Rattle.automaton.specs.Bits.{bit, Exactly}
use Rattle.automaton.specs.Table.{WellFormed, states, flag, next}
use Rattle.automaton.specs.Words.{Bytes, run, Hits, Accepts, CanMatch, Reach}
use Rattle.automaton.specs.Live.{LiveByte}
use Rattle.automaton.proofs.Exact.{exactly-map}

pub run-append : (t : List ℕ) (s : ℕ) (p q : List ℕ) → run t s (p ++ q) ≡ run t (run t s p) q
unfolding run
run-append t s [] q = refl
run-append t s (x ∷ p) q = run-append t (next t s x) p q

-- one byte more of a key
pub run_more : (t : List ℕ) (s : ℕ) (key : List ℕ) (i : ℕ) → i < length key
    → run t s (take (i + 1) key) ≡ next t (run t s (take i key)) (get_or key i 0)
unfolding run
run_more t s key i h = rw (add-one, take-suc key i 0) (run-append t s (take i key) (get_or key i 0 ∷ []))

pub run-states : {t : List ℕ} → WellFormed t → (s : ℕ) (w : List ℕ) → s < states t → Bytes w → run t s w < states t
unfolding run
run-states wf s [] h bs = h
run-states {t} wf s (b ∷ w) h bs = run-states wf (next t s b) w (wf.closed s b h bs.0) bs.1

pub hits-nil : {t : List ℕ} {s : ℕ} → flag t s ≡ 1 → Hits t s []
unfolding run
hits-nil e = record { bytes = tt; ends = e }

pub hits-cons : {t : List ℕ} {w : List ℕ} (s b : ℕ) → b < 256 → Hits t (next t s b) w → Hits t s (b ∷ w)
unfolding run
hits-cons s b h i = record { bytes = (h, i.bytes); ends = i.ends }

pub hits-tail : {t : List ℕ} {w : List ℕ} (s b : ℕ) → Hits t s (b ∷ w) → (b < 256) × Hits t (next t s b) w
unfolding run
hits-tail s b i = (i.bytes.0, record { bytes = i.bytes.1; ends = i.ends })

pub hits-append : {t : List ℕ} {w : List ℕ} (s : ℕ) (p : List ℕ) → Bytes p → Hits t (run t s p) w → Hits t s (p ++ w)
unfolding run
hits-append s [] h i = i
hits-append {t} s (b ∷ p) h i = hits-cons s b h.0 (hits-append (next t s b) p h.1 i)

pub bytes_of : (l : List ℕ) → ((i : ℕ) → get_or l i 0 < 256) → Bytes l
bytes_of [] f = tt
bytes_of (x ∷ l) f = (f 0, bytes_of l (λ i. f (suc i)))

pub bytes_take : (n : ℕ) (l : List ℕ) → Bytes l → Bytes (take n l)
bytes_take zero l h = tt
bytes_take (suc n) [] h = tt
bytes_take (suc n) (x ∷ l) h = (h.0, bytes_take n l h.1)

-- ---- some string of which P holds
pub word-nil : {t : List ℕ} {s : ℕ} (P : List ℕ → Type 0) → flag t s ≡ 1 → P [] → Accepts t s P
word-nil P e p = record { string = []; hits = hits-nil e; good = p }

pub word-cons : {t : List ℕ} (s b : ℕ) (P Q : List ℕ → Type 0) → b < 256 → ((w : List ℕ) → Q w → P (b ∷ w)) → Accepts t (next t s b) Q
    → Accepts t s P
word-cons s b P Q h f m = record { string = b ∷ m.string; hits = hits-cons s b h m.hits; good = f m.string m.good }

pub word-map : {t : List ℕ} {s : ℕ} (P Q : List ℕ → Type 0) → ((w : List ℕ) → P w → Q w) → Accepts t s P → Accepts t s Q
word-map P Q f m = record { string = m.string; hits = m.hits; good = f m.string m.good }

pub word-any : {t : List ℕ} {s : ℕ} (P : List ℕ → Type 0) → Accepts t s P → CanMatch t s
word-any P m = record { string = m.string; hits = m.hits; good = tt }

pub word-cases : {t : List ℕ} {s : ℕ} (P : List ℕ → Type 0) (C : Type 0) → (flag t s ≡ 1 → P [] → C)
    → ((b : ℕ) (w : List ℕ) → b < 256 → Hits t (next t s b) w → P (b ∷ w) → C) → Accepts t s P → C
unfolding run
word-cases {t} {s} P C f g m = go m.string m.hits m.good
  where
    go : (w : List ℕ) → Hits t s w → P w → C
    go [] h p = f h.ends p
    go (b ∷ w) h p = let (l, i) = hits-tail s b h in g b w l i p

-- a byte of a range, and any string after it
pub byte_word : {t : List ℕ} {s lo hi : ℕ} (P : List ℕ → Type 0) → hi ≤ 256 → ((b : ℕ) (w : List ℕ) → lo ≤ b → b < hi → P (b ∷ w))
    → LiveByte t s lo hi → Accepts t s P
byte_word {s = s} P l f y = word-cons s y.byte P (λ w. Unit {0}) (omega (arith, y.high)) (λ w u. f y.byte w y.low y.high) y.rest

-- ---- can match
pub can-match-hits : {t : List ℕ} {s : ℕ} {w : List ℕ} → Hits t s w → CanMatch t s
can-match-hits {w = w} h = record { string = w; hits = h; good = tt }

pub can-match-here : {t : List ℕ} {s : ℕ} → flag t s ≡ 1 → CanMatch t s
can-match-here e = can-match-hits (hits-nil e)

pub can-match-step : {t : List ℕ} (s b : ℕ) → b < 256 → CanMatch t (next t s b) → CanMatch t s
can-match-step s b h m = can-match-hits (hits-cons s b h m.hits)

pub can-match-cases : {t : List ℕ} (s : ℕ) → CanMatch t s → (flag t s ≡ 1) ⊎ ((b : ℕ) × (b < 256) × CanMatch t (next t s b))
can-match-cases {t} s m =
    word-cases (λ w. Unit {0}) ((flag t s ≡ 1) ⊎ ((b : ℕ) × (b < 256) × CanMatch t (next t s b)))
    (λ e p. inl e)
    (λ b w h i p. inr (b, h, can-match-hits i))
    m

-- what `can_match` tells, by the word of `reach`
pub can-match-exactly : {t : List ℕ} {word : ℕ} → Reach t word → (s : ℕ) → s < states t → (r : Bool) → Exactly r (bit word s ≡ 1)
    → Exactly r (CanMatch t s)
can-match-exactly k s h r = exactly-map r (k.up s h) (k.down s h)
