-- Eight bytes as one word: equal words have equal bytes, so that what is known of the bytes of one is known of the other's.
use mathlib.Core.Path.{◌≡◌, refl, sym, ap, ◌∙◌, subst}
use mathlib.Core.List.{List, [], ◌∷◌}
use mathlib.Core.Logic.{⊎_elim}
use Prim.Native.Nat.{ℕ, zero, suc, ◌+◌, ◌-◌, ◌*◌, ◌/◌, ◌%◌, ◌^◌, ◌≤◌, ◌<◌}
use native.Mathlib.Nat.{mul-suc}
use native.Mathlib.Omega.{arith}
use lib.Dec.{eqb}
use lib.Bits.{bit_or, bit_xor, or_zero_l, xor_self, or_add_and, xor_add_and, and_le_l, and_le_r}
use lib.ListN.{length, get_or, take, drop, length-take, length-drop}
use lib.Seq.{get_or-drop, take-take}
use Rattle.std.specs.Int.{from_le_bytes, w64}
use Rattle.std.specs.Simd.{first_chunks}
use Rattle.std.proofs.lemmas.List.{get_or-take, drop-drop, drop-take}
use Rattle.std.proofs.lemmas.Bool.{cases_eq, cases_lt}
use Rattle.serialize.specs.Digits.{of_digits, le_val, number_at, DigitsBelow}
use Rattle.serialize.proofs.Digits.{of_digits-take, of_digits-digit, below-drop, sub-field}
use Rattle.automaton.specs.Bits.{bit, Exactly}
use Rattle.automaton.proofs.Exact.{exactly-eqb, exactly-map}
use Rattle.automaton.proofs.Word.{bit-lt, bit-or}
use Rattle.automaton.proofs.Built.{Holds}

-- byte j of a word
abbrev pub byte_of : ℕ → ℕ → ℕ
byte_of w j = w / 2 ^ (8 * j) % 2 ^ 8

-- the eight bytes from `at` on
abbrev pub eight_at : List ℕ → ℕ → ℕ
eight_at t at = le_val (take 8 (drop at t))

pub byte_at : (t : List ℕ) → DigitsBelow 8 t → (at j : ℕ) → j < 8 → byte_of (eight_at t at) j ≡ get_or t (at + j) 0
byte_at t small at j h =
    let b = below-drop 8 at t small in
    ap (λ (x : ℕ). byte_of x j) (of_digits-take 8 8 (drop at t) b)
    ∙ sub-field (le_val (drop at t)) (8 * j) 8 (8 * 8) (omega arith)
    ∙ of_digits-digit 8 (drop at t) j b
    ∙ get_or-drop at t j 0

-- ---- a part of a part of the bytes
pub part-in : (t : List ℕ) (n m w v : ℕ) → m + v ≤ w → take v (drop m (take w (drop n t))) ≡ take v (drop (n + m) t)
part-in t n m w v h =
    ap (λ (x : ℕ). take v (drop m (take x (drop n t)))) (let q : w ≡ m + (w - m) = omega arith in q)
    ∙ ap (take v) (drop-take m (w - m) (drop n t))
    ∙ take-take v (w - m) (drop m (drop n t)) (omega arith)
    ∙ ap (take v) (drop-drop m n t)

-- part k of those of n bytes each, as a list of chunks has it
pub chunk : (n m k : ℕ) (t : List ℕ) → k < m → get_or (first_chunks n m t) k [] ≡ take n (drop (n * k) t)
chunk n zero k t h = absurd (let z : ⊥ = omega arith in z)
chunk n (suc m) zero t h = let z : n * 0 ≡ 0 = omega arith in rw z refl
chunk n (suc m) (suc k) t h =
    let next : n * suc k ≡ n + n * k = omega (arith, mul-suc n k) in
    chunk n m k (drop n t) (omega arith) ∙ rw next (ap (take n) (drop-drop (n * k) n t))

-- where the whole list is cut into such parts
pub chunk-of : (n k : ℕ) (t : List ℕ) (parts : List (List ℕ)) → parts ≡ first_chunks n (length t / n) t → k < length t / n
    → get_or parts k [] ≡ take n (drop (n * k) t)
chunk-of n k t parts is h = rw is (chunk n (length t / n) k t h)

pub length-part : (t p : List ℕ) (n w : ℕ) → p ≡ take w (drop n t) → n + w ≤ length t → length p ≡ w
length-part t p n w is h = rw is (simp (length-take, length-drop) (omega arith))

-- a byte of a part
pub part-byte : (t p : List ℕ) (n w k : ℕ) → p ≡ take w (drop n t) → k < w → get_or p k 0 ≡ get_or t (n + k) 0
part-byte t p n w k is h = rw is (get_or-take w (drop n t) k 0 h ∙ get_or-drop n t k 0)

-- `u64::from_le_bytes`
word-of : (a b c d e f g h : ℕ) → from_le_bytes w64 (a ∷ b ∷ c ∷ d ∷ e ∷ f ∷ g ∷ h ∷ []) ≡ le_val (a ∷ b ∷ c ∷ d ∷ e ∷ f ∷ g ∷ h ∷ [])
unfolding of_digits
word-of a b c d e f g h = omega arith

word-is : (bytes : List ℕ) → length bytes ≡ 8 → from_le_bytes w64 bytes ≡ number_at bytes 0 8
word-is (a ∷ b ∷ c ∷ d ∷ e ∷ f ∷ g ∷ h ∷ []) l = word-of a b c d e f g h
word-is _ l = absurd (omega arith)

-- the word of a part of eight bytes
pub part-word : (t p : List ℕ) (n : ℕ) → p ≡ take 8 (drop n t) → n + 8 ≤ length t → from_le_bytes w64 p ≡ eight_at t n
part-word t p n is h = word-is p (length-part t p n 8 is h) ∙ rw is (ap le_val (take-take 8 8 (drop n t) (omega arith)))

byte-is : (t : List ℕ) → DigitsBelow 8 t → (eight m j : ℕ) → eight ≡ eight_at t m → j < 8 → byte_of eight j ≡ get_or t (m + j) 0
byte-is t small eight m j is l = ap (λ (x : ℕ). byte_of x j) is ∙ byte_at t small m j l

-- the bits of w are bytes of the 256, the first n of them and those of `last` among them
pub record Held (t : List ℕ) (n last w : ℕ) : Type 0 where
  pub has : (k : ℕ) → k < n → bit w (get_or t k 0) ≡ 1
  pub only : (s : ℕ) → bit w s ≡ 1 → (k : ℕ) × (k < 256) × (get_or t k 0 ≡ s)
  pub in-last : (j : ℕ) → j < 8 → bit w (byte_of last j) ≡ 1

-- what holds of n numbers, and of the m after them
more : (P : ℕ → Type 0) (n m : ℕ) → ((k : ℕ) → k < n → P k) → ((k : ℕ) → k < m → P (n + k)) → (k : ℕ) → k < n + m → P k
more P n m f g k l = ⊎_elim (f k) (λ h. let q : n + (k - n) ≡ k = omega arith in subst P q (g (k - n) (omega arith))) (cases_lt k n)

module _ {t : List ℕ} (small : DigitsBelow 8 t) where
  -- the first eight
  pub held_first : {last w : ℕ} → last ≡ eight_at t 0 → Holds (λ k. get_or t (0 + k) 0) 8 w → Held t 0 last w
  held_first {last} {w} e h = record {
    has = λ k l. absurd (omega arith);
    only = λ s g. let (k, l, q) = h.only s g in (0 + k, omega arith, q);
    in-last = λ j l. subst (λ (x : ℕ). bit w x ≡ 1) (sym (byte-is t small last 0 j e l)) (h.has j l);
  }

  module _ {n last w : ℕ} (i : Held t n last w) where
    -- eight that equal the last ones
    same_in : (m : ℕ) → eight_at t m ≡ last → (j : ℕ) → j < 8 → bit w (get_or t (m + j) 0) ≡ 1
    same_in m same j l = subst (λ (x : ℕ). bit w x ≡ 1) (byte-is t small last m j (sym same) l) (i.in-last j l)

    -- they are passed over
    pub held-skip : (eight last' w' : ℕ) → eight ≡ eight_at t n → eight ≡ last → last' ≡ last → w' ≡ w → Held t (n + 8) last' w'
    held-skip eight last' w' is same e₁ e₂ = rw (e₁, e₂) (record {
      has = more (λ k. bit w (get_or t k 0) ≡ 1) n 8 i.has (same_in n (sym is ∙ same));
      only = i.only;
      in-last = i.in-last;
    })

    -- 64 bytes of them at once
    pub held-repeats : ((k : ℕ) → k < 8 → eight_at t (n + 8 * k) ≡ last) → Held t (n + 64) last w
    held-repeats same = record { has = more (λ k. bit w (get_or t k 0) ≡ 1) n 64 i.has go; only = i.only; in-last = i.in-last }
      where
        go : (k : ℕ) → k < 64 → bit w (get_or t (n + k) 0) ≡ 1
        go k l =
            let q : n + 8 * (k / 8) + k % 8 ≡ n + k = omega arith in
            subst (λ (x : ℕ). bit w (get_or t x 0) ≡ 1) q (same_in (n + 8 * (k / 8)) (same (k / 8) (omega arith)) (k % 8) (omega arith))

    -- the bits of others are added
    pub held-add : (eight v last' w' : ℕ) → n + 8 ≤ 256 → eight ≡ eight_at t n → Holds (λ k. get_or t (n + k) 0) 8 v
        → last' ≡ eight → w' ≡ bit_or w v → Held t (n + 8) last' w'
    held-add eight v last' w' room is h e₁ e₂ = rw (e₁, e₂) (record {
      has = more (λ k. bit (bit_or w v) (get_or t k 0) ≡ 1) n 8 (λ k l. bit-or w v (get_or t k 0)
          ∙ omega (arith, i.has k l, bit-lt v (get_or t k 0))) new;
      only = λ s e. ⊎_elim
          (i.only s)
          (λ d.
          let b : bit v s ≡ 1 = omega (arith, bit-or w v s, bit-lt w s, bit-lt v s) in
          let (k, l, g) = h.only s b in
          (n + k, omega arith, g))
          (cases_eq (bit w s) 1);
      in-last = λ j l. subst (λ (x : ℕ). bit (bit_or w v) x ≡ 1) (sym (byte-is t small eight n j is l)) (new j l);
    })
      where
        new : (k : ℕ) → k < 8 → bit (bit_or w v) (get_or t (n + k) 0) ≡ 1
        new k l = bit-or w v (get_or t (n + k) 0) ∙ omega (arith, h.has k l, bit-lt w (get_or t (n + k) 0))

-- ---- d has the bits in which one of f 0 to f (n - 1) differs from `last`: it is 0 exactly when none does
pub record Differ (f : ℕ → ℕ) (last n d : ℕ) : Type 0 where
  pub up : d ≡ 0 → (k : ℕ) → k < n → f k ≡ last
  pub down : ((k : ℕ) → k < n → f k ≡ last) → d ≡ 0

-- `d | (f n ^ last)`
pub differ-more : {f : ℕ → ℕ} {last n d : ℕ} → Differ f last n d → (x : ℕ) → x ≡ f n → Differ f last (n + 1) (bit_or d (bit_xor x last))
differ-more {f} {last} {n} {d} i x is = record { up = up; down = λ h. down (i.down (λ k l. h k (omega arith))) (is ∙ h n (omega arith)) }
  where
    down : d ≡ 0 → x ≡ last → bit_or d (bit_xor x last) ≡ 0
    down z e = rw (z, e) (or_zero_l (bit_xor last last) ∙ xor_self last)

    up : bit_or d (bit_xor x last) ≡ 0 → (k : ℕ) → k < n + 1 → f k ≡ last
    up z k l =
        let y = bit_xor x last in
        let zd : d ≡ 0 = omega (arith, or_add_and d y, and_le_r d y) in
        let zy : y ≡ 0 = omega (arith, or_add_and d y, and_le_l d y) in
        let s : x ≡ last = omega (arith, xor_add_and x last, and_le_l x last, and_le_r x last) in
        ⊎_elim (λ q. ap f q ∙ sym is ∙ s) (λ q. i.up zd k (omega arith)) (cases_eq k n)

pub differ-exactly : {f : ℕ → ℕ} {last n d : ℕ} → Differ f last n d → Exactly (eqb d 0) ((k : ℕ) → k < n → f k ≡ last)
differ-exactly {d = d} i = exactly-map (eqb d 0) i.up i.down (exactly-eqb d 0)

-- ---- eight bytes whose bits are clear in the word of reach
abbrev pub Blank : (reach eight : ℕ) → Type 0
Blank reach eight = (j : ℕ) → j < 8 → bit reach (byte_of eight j) ≡ 0

module _ (t : List ℕ) (small : DigitsBelow 8 t) (reach at eight : ℕ) (is : eight ≡ eight_at t at) where
  byte-bit : (j : ℕ) → j < 8 → bit reach (byte_of eight j) ≡ bit reach (get_or t (at + j) 0)
  byte-bit j l = ap (bit reach) (ap (λ (x : ℕ). byte_of x j) is ∙ byte_at t small at j l)

  pub blank-new : ((j : ℕ) → j < 8 → bit reach (get_or t (at + j) 0) ≡ 0) → Blank reach eight
  blank-new f j l = byte-bit j l ∙ f j l

  pub blank-used : Blank reach eight → (j : ℕ) → j < 8 → bit reach (get_or t (at + j) 0) ≡ 0
  blank-used f j l = sym (byte-bit j l) ∙ f j l
