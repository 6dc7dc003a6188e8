-- What the lowest and the highest byte that leads on from a state tell of the strings behind a key's first byte.
use mathlib.Core.Path.{◌≡◌, refl}
use mathlib.Core.List.{List, [], ◌∷◌}
use mathlib.Core.Bool.{Bool, true, false}
use mathlib.Core.Logic.{◌⊎◌, inl, ⊎_elim, ◌↔◌}
use Prim.Native.Nat.{ℕ, ◌+◌, ◌≤◌, ◌<◌, zero-le}
use native.Mathlib.Omega.{arith}
use lib.Dec.{ltb}
use lib.ListN.{length, drop, get_or}
use borrow.Author.Tests.{ltb-true, lt-ltb}
use Rattle.std.proofs.lemmas.List.{drop_more}
use Rattle.automaton.specs.Bits.{Exactly}
use Rattle.automaton.specs.Table.{flag, next, states}
use Rattle.automaton.specs.Words.{CanMatch}
use Rattle.automaton.specs.Live.{LiveByte, FirstLive, EndLive}
use Rattle.automaton_live.specs.declared.Prepared.{Prepared}
use Rattle.automaton_live.specs.Prepared.{IsPrepared}
use Rattle.automaton.proofs.Exact.{when_true, exactly-map}
use Rattle.automaton.proofs.Strings.{word-any}
use Rattle.pruning.specs.Interval.{MatchAbove, MatchBetween}
use Rattle.pruning.proofs.Intervals.{Parted, past, between-heads, after-cons, upto-split, upto-cons}

-- the test is true where P holds
is-so : {P : Type 0} (r : Bool) → Exactly r P → P → r ≡ true
is-so true x p = refl
is-so false x p = absurd (x p)

module _ {t : List ℕ} {s : ℕ} where
  -- the byte k, where something behind it leads on
  byte_at : (k lo hi : ℕ) → lo ≤ k → k < hi → CanMatch t (next t s k) → LiveByte t s lo hi
  byte_at k lo hi l h m = record { byte = k; low = l; high = h; rest = m }

upto-can : (t : List ℕ) (s : ℕ) (b : List ℕ) → (flag t s ≡ 1) ⊎ MatchBetween t s [] b → CanMatch t s
upto-can t s b m = word-any _ ((upto-split t s b).1 m)

-- ---- by the highest
module _ (t : List ℕ) (s : ℕ) (end : ℕ) (e : EndLive t s end) where
  pub end-above : (lo : ℕ) → LiveByte t s lo 256 → lo < end
  end-above lo y = ltb-true lo end (is-so (ltb lo end) (e lo) y)

  pub end-byte : (lo : ℕ) → lo < end → LiveByte t s lo 256
  end-byte lo h = when_true (e lo) (lt-ltb lo end h)

  -- above a key whose first byte isn't the highest
  pub after-decided : (k : ℕ) (ks : List ℕ) → k < 256 → (end ≡ k + 1 → ⊥) → Exactly (ltb (k + 1) end) (MatchAbove t s (k ∷ ks))
  after-decided k ks h n =
      let i = after-cons t s k ks h in
      exactly-map (ltb (k + 1) end)
      (λ y. i.1 (inl y))
      (λ m. ⊎_elim (λ y. y)
      (λ w. let g = end-above k (byte_at k k 256 (omega arith) h (word-any _ w)) in end-byte (k + 1) (omega (arith, n))) (i.0 m))
      (e (k + 1))

  -- and one whose first byte is
  pub after_next : (k : ℕ) (ks : List ℕ) → k < 256 → end ≡ k + 1 → MatchAbove t s (k ∷ ks) ↔ MatchAbove t (next t s k) ks
  after_next k ks h q = past (after-cons t s k ks h) (λ y. let g = end-above (k + 1) y in omega arith)

-- ---- by the lowest
module _ (t : List ℕ) (s : ℕ) (first : ℕ) (f : FirstLive t s first) where
  pub first_below : (hi : ℕ) → hi ≤ 256 → LiveByte t s 0 hi → first < hi
  first_below hi h y = ltb-true first hi (is-so (ltb first hi) (f hi h) y)

  pub first_byte : (hi : ℕ) → hi ≤ 256 → first < hi → LiveByte t s 0 hi
  first_byte hi h g = when_true (f hi h) (lt-ltb first hi g)

  -- not above a key whose first byte isn't the lowest
  pub upto-decided : (k : ℕ) (ks : List ℕ) → k < 256 → (first ≡ k → ⊥) → Exactly (ltb first k) (MatchBetween t s [] (k ∷ ks))
  upto-decided k ks h n =
      let i = upto-cons t s k ks h in
      exactly-map (ltb first k)
      (λ y. i.1 (inl y))
      (λ m. ⊎_elim (λ y. y)
      (λ w. let g = first_below (k + 1) (omega arith)
      (byte_at k 0 (k + 1) zero-le (omega arith) (upto-can t (next t s k) ks w)) in first_byte k (omega arith) (omega (arith, n)))
      (i.0 m))
      (f k (omega arith))

  -- and one whose first byte is
  pub upto_next : (k : ℕ) (ks : List ℕ) → k < 256 → first ≡ k
      → MatchBetween t s [] (k ∷ ks) ↔ ((flag t (next t s k) ≡ 1) ⊎ MatchBetween t (next t s k) [] ks)
  upto_next k ks h q = past (upto-cons t s k ks h) (λ y. let g = first_below k (omega arith) y in omega arith)

-- ---- between two keys: none where all bytes that lead on are below the start's or above the end's
module _ (t : List ℕ) (s x y : ℕ) (a b : List ℕ) (l : x < y) (h : y < 256) where
  parted-byte : Parted t s x y a b → LiveByte t s x (y + 1)
  parted-byte =
      ⊎_elim
      (λ m. byte_at x x (y + 1) (omega arith) (omega arith) (word-any _ m))
      (⊎_elim
      (λ m. record { byte = m.byte; low = omega (arith, m.low); high = omega (arith, m.high); rest = m.rest })
      (λ m. byte_at y x (y + 1) (omega arith) (omega arith) (upto-can t (next t s y) b m)))

  pub parted-low : (end : ℕ) → EndLive t s end → end ≤ x → Parted t s x y a b → ⊥
  parted-low end e g p =
      let m = parted-byte p in
      let k = end-above t s end e x (record { byte = m.byte; low = m.low; high = omega (arith, m.high); rest = m.rest }) in
      omega arith

  pub parted-high : (first : ℕ) → FirstLive t s first → y < first → Parted t s x y a b → ⊥
  parted-high first f g p =
      let m = parted-byte p in
      let k = first_below t s first f (y + 1) (omega arith) (record { byte = m.byte; low = zero-le; high = m.high; rest = m.rest }) in
      omega arith

-- ---- between two keys whose first bytes differ
module _ (a b : List ℕ) {t : List ℕ} {s : ℕ} {p : Prepared}
    (asked : IsPrepared t p × (s < states t) × (0 < length a) × (0 < length b) × (get_or a 0 0 < get_or b 0 0))
    (h : get_or b 0 0 < 256) where
  pub heads-parted : MatchBetween t s a b ↔ Parted t s (get_or a 0 0) (get_or b 0 0) (drop 1 a) (drop 1 b)
  heads-parted = between-heads t s a b asked.2 asked.3 asked.4 h

  pub none-low : (end : ℕ) → EndLive t s end → end ≤ get_or a 0 0 → MatchBetween t s a b → ⊥
  none-low end e g m = parted-low t s (get_or a 0 0) (get_or b 0 0) (drop 1 a) (drop 1 b) asked.4 h end e g (heads-parted.0 m)

  pub none-high : (first : ℕ) → FirstLive t s first → get_or b 0 0 < first → MatchBetween t s a b → ⊥
  none-high first f g m = parted-high t s (get_or a 0 0) (get_or b 0 0) (drop 1 a) (drop 1 b) asked.4 h first f g (heads-parted.0 m)

-- ---- a key from its byte i on
module _ (key : List ℕ) (i : ℕ) (h : i < length key) (g : get_or key i 0 < 256) where
  pub after-decided-at : (t : List ℕ) (s end : ℕ) → EndLive t s end → (end ≡ get_or key i 0 + 1 → ⊥)
      → Exactly (ltb (get_or key i 0 + 1) end) (MatchAbove t s (drop i key))
  after-decided-at t s end e n = rw (drop_more key i 0 h) (after-decided t s end e (get_or key i 0) (drop (i + 1) key) g n)

  pub after-next-at : (t : List ℕ) (s end : ℕ) → EndLive t s end → end ≡ get_or key i 0 + 1
      → MatchAbove t s (drop i key) ↔ MatchAbove t (next t s (get_or key i 0)) (drop (i + 1) key)
  after-next-at t s end e q = rw (drop_more key i 0 h) (after_next t s end e (get_or key i 0) (drop (i + 1) key) g q)

  pub upto-decided-at : (t : List ℕ) (s first : ℕ) → FirstLive t s first → (first ≡ get_or key i 0 → ⊥)
      → Exactly (ltb first (get_or key i 0)) (MatchBetween t s [] (drop i key))
  upto-decided-at t s first f n = rw (drop_more key i 0 h) (upto-decided t s first f (get_or key i 0) (drop (i + 1) key) g n)

  pub upto-next-at : (t : List ℕ) (s first : ℕ) → FirstLive t s first → first ≡ get_or key i 0
      → MatchBetween t s [] (drop i key) ↔ ((flag t (next t s (get_or key i 0))
      ≡ 1) ⊎ MatchBetween t (next t s (get_or key i 0)) [] (drop (i + 1) key))
  upto-next-at t s first f q = rw (drop_more key i 0 h) (upto_next t s first f (get_or key i 0) (drop (i + 1) key) g q)
