-- Laws of a run of stores, the kit's `sets`: stores one after the other, into a part, and what a reader finds there.
use mathlib.Core.Path.{◌≡◌, refl, sym, ap, ◌∙◌}
use mathlib.Core.List.{List, [], ◌∷◌, ◌++◌, append_assoc, append-nil}
use Prim.Native.Nat.{ℕ, suc, ◌+◌, ◌-◌, ◌*◌, ◌^◌, ◌≤◌, ◌<◌}
use native.Mathlib.Nat.{add-zero, zero-add, add-suc, suc-add}
use native.Mathlib.Omega.{arith}
use lib.ListN.{length, take, drop, set, length-set, length-take, length-drop, take-append-drop, drop_of_length-le, get_or}
use lib.Seq.{sets, sets-eq, take-length, take_at, drop_at, length-take-le, take_all, drop-set-add, take-set-le, drop-set-lt}
use lib.Seq.{get_or-take, get_or-drop}
use borrow.Rule.Slice.PartMut.{put_mid}
use Rattle.std.proofs.lemmas.List.{set-append_left}
use Rattle.serialize.specs.Digits.{le_val, le_bytes}
use Rattle.serialize.proofs.Digits.{length-digits_of, of_digits-digits_of-lt}

-- stores one after the other are one run
pub sets-append : (d a b : List ℕ) (i : ℕ) → sets (sets d i a) (i + length a) b ≡ sets d i (a ++ b)
sets-append d [] b i = rw (add-zero i) refl
sets-append d (x ∷ a) b i = rw (add-suc i (length a), ← (suc-add i (length a))) (sets-append (set d i x) a b (suc i))

pub sets-outside-take : (d w : List ℕ) (at n : ℕ) → n ≤ at → take n (sets d at w) ≡ take n d
sets-outside-take d [] at n h = refl
sets-outside-take d (x ∷ w) at n h = sets-outside-take (set d at x) w (suc at) n (omega arith) ∙ take-set-le n d at x h

-- what was written is what a reader finds
pub sets-part : (d w : List ℕ) (at : ℕ) → at + length w ≤ length d → take (length w) (drop at (sets d at w)) ≡ w
sets-part d w at h =
    rw (
      sets-eq w d at h,
      append_assoc (take at d) w (drop (at + length w) d),
      drop_at (take at d) (w ++ drop (at + length w) d) at (length-take-le at d (omega arith)),
    )
    (take_at w (drop (at + length w) d) (length w) refl)

-- what stands behind stays
pub sets-outside-drop : (d w : List ℕ) (at n : ℕ) → at + length w ≤ n → drop n (sets d at w) ≡ drop n d
sets-outside-drop d [] at n h = refl
sets-outside-drop d (x ∷ w) at n h = sets-outside-drop (set d at x) w (suc at) n (omega arith) ∙ drop-set-lt n d at x (omega arith)

pub get_or-sets : (d w : List ℕ) (at j : ℕ) → at + length w ≤ length d → j < length w → get_or (sets d at w) (at + j) 0 ≡ get_or w j 0
get_or-sets d w at j h l = let part = sets-part d w at h in grind (arith, get_or-drop, get_or-take, part)

-- stores behind a front, seen from what lies behind it
sets_behind : (d w : List ℕ) (a at : ℕ) → take a d ++ sets (drop a d) at w ≡ sets d (a + at) w
sets_behind d [] a at = take-append-drop a d
sets_behind d (x ∷ w) a at =
    rw (← (drop-set-add a d at x), ← (take-set-le a d (a + at) x (omega arith)), ← (add-suc a at))
    (sets_behind (set d (a + at) x) w a (suc at))

-- a callee that was lent `&mut out[a..]` and stored there: the whole
pub sets-in-part : (d w : List ℕ) (a at : ℕ)
    → put_mid a (length d - a) d (sets (take (length d - a) (drop a d)) at w) ≡ sets d (a + at) w
sets-in-part d w a at =
    let all : length (drop a d) ≤ length d - a = omega (arith, length-drop a d) in
    rw (take_all (length d - a) (drop a d) all, drop_of_length-le (drop a d) all, append-nil (sets (drop a d) at w)) (sets_behind d w a at)

-- stores into the first of two runs
sets-first : (xs ys w : List ℕ) (i : ℕ) → i + length w ≤ length xs → sets (xs ++ ys) i w ≡ sets xs i w ++ ys
sets-first xs ys [] i h = refl
sets-first xs ys (x ∷ w) i h =
    let within : i < length xs = omega arith in
    let rest : suc i + length w ≤ length (set xs i x) = simp length-set (omega arith) in
    rw set-append_left (sets-first (set xs i x) ys w (suc i) rest)

-- a callee that was lent the k bytes `&mut out[a..a + k]` and stored at their front: the whole
pub sets_within : (d w : List ℕ) (a k : ℕ) → a + k ≤ length d → length w ≤ k
    → put_mid a k d (sets (take k (drop a d)) 0 w) ≡ sets d a w
sets_within d w a k h l =
    let room : 0 + length w ≤ length (take k (drop a d)) = simp (length-take, length-drop) (omega arith) in
    rw (← (sets-first (take k (drop a d)) (drop k (drop a d)) w 0 room), take-append-drop k (drop a d))
    (sets_behind d w a 0 ∙ rw (add-zero a) refl)

-- what `copy` leaves is a run of stores at the front
pub copied : (d w : List ℕ) → length w ≤ length d → take (length w) w ++ drop (length w) d ≡ sets d 0 w
copied d w h = sym (sets-eq w d 0 (omega arith) ∙ rw (zero-add (length w), take-length w))

-- a copy into the front of the part behind `a` is stores from `a` on
pub copied-in-part : (d w y : List ℕ) (a : ℕ) → a + length w ≤ length d
    → y ≡ take (length w) w ++ drop (length w) (take (length d - a) (drop a d)) → put_mid a (length d - a) d y ≡ sets d a w
copied-in-part d w y a h e =
    let fits : length w ≤ length (take (length d - a) (drop a d)) = simp (length-take, length-drop) (omega arith) in
    rw (e, copied (take (length d - a) (drop a d)) w fits) (sets-in-part d w a 0 ∙ rw (add-zero a))

-- a number written and read back
pub written_read : (d : List ℕ) (at w v : ℕ) → at + w ≤ length d → v < 2 ^ (8 * w)
    → le_val (take w (drop at (sets d at (le_bytes w v)))) ≡ v
written_read d at w v h k =
    let e : take (length (le_bytes w v)) (drop at (sets d at (le_bytes w v))) ≡ le_bytes w v =
    sets-part d (le_bytes w v) at (rw (length-digits_of 8 w v) h) in
    ap le_val (rw (length-digits_of 8 w v) at e) ∙ of_digits-digits_of-lt 8 w v k
