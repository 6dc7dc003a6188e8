-- The eight that `fill` writes are eight stores one after the other.
use Rattle.std.proofs.Common.{◌≡◌, ℕ, ◌+◌, ◌-◌, ◌≤◌, ◌∙◌, sym, arith, drop, take, List, length, length-take, length-drop, replicate}
use lib.Seq.{sets, sets-eq}
use Rattle.std.proofs.lemmas.List.{append_assoc, drop-drop}
use borrow.Rule.Slice.PartMut.{put_mid}
use Rattle.listing_follow.proofs.fill_eight.Goals as goal

written : (l y : List ℕ) (at k n v : ℕ) → at + 9 ≤ length l → k ≡ 8 → n ≡ 8 → y ≡ replicate n v
    → put_mid (at + 1) k l y ≡ sets l (at + 1) (replicate 8 v)
written l y at k n v h p q e =
    rw (
      p,
      e,
      q,
      ← (append_assoc (take (at + 1) l) (replicate 8 v) (drop 8 (drop (at + 1) l))),
      drop-drop 8 (at + 1) l,
    ) (sym (sets-eq (replicate 8 v) l (at + 1) (omega arith)))

pub returns : goal.returns
returns c =
    let a = c.args in
    let s = a.states.now in
    let e : a.at + 9 - (a.at + 1) ≡ 8 = omega arith in
    let n = length-take (a.at + 9 - (a.at + 1)) (drop (a.at + 1) s) in
    let m = length-drop (a.at + 1) s in
    written s c.fill.new.self a.at _ _ a.state (omega arith) e (n ∙ omega (arith, m)) (c.fill.ensures.after (λ y i. i))
