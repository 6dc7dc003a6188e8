-- A read goes behind what was read before, which stays.
use Rattle.std.proofs.Common.{◌≡◌, ℕ, ◌+◌, ◌-◌, ◌≤◌, List, ◌++◌, rules, length, take, drop, sym, ap, ◌∙◌, subst}
use Rattle.std.proofs.Common.{le_refl, drop_at, length-take-le}
use Rattle.std.proofs.lemmas.Slice.{take-put_mid_below}
use Rattle.std.specs.Io.KnownBytes.{Consumes}
use Rattle.std.proofs.KnownBytes.{Consumes-trans}
use borrow.Rule.Slice.PartMut.{put_mid, post_of}
use lib.Seq.{take-add, take-append-le}
use Rattle.vectors.proofs.driver.fill.Goals as goal

-- the front, grown by n bytes of the part that was put behind it
take_further : (a k n : ℕ) (xs ys : List ℕ) → a ≤ length xs → n ≤ length ys → take a xs ++ take n ys ≡ take (a + n) (put_mid a k xs ys)
take_further a k n xs ys within fits =
    let put = put_mid a k xs ys in
    let after = post_of a k xs in
    let part : take n (drop a put) ≡ take n ys
    = ap (take n) (drop_at (take a xs) (ys ++ after) a (length-take-le a xs within)) ∙ take-append-le n ys after fits in
    let front : take a put ≡ take a xs = take-put_mid_below a k xs ys a (le_refl a) within in
    sym (take-add a n put ∙ ap (λ l. l ++ take n (drop a put)) front ∙ ap (λ l. take a xs ++ l) part)

pub loop-done-preserved : goal.loop-done-preserved
loop-done-preserved g c =
    let from = c.loop-done.done in
    let room = length c.loop-done.area - from in
    let read = c.in_ok-n.ensures in
    let joined = take_further from room c.in_ok-n.n c.loop-done.area c.read.new.buf c.loop-done.invariant.0 read.bound.0 in
    (search rules, search rules, subst (Consumes _ _) joined (Consumes-trans _ _ _ _ _ c.loop-done.invariant.2 read.bytes.0))
