-- `shorten_last` meets its contract: the last separator lies within the key area.
use Rattle.std.proofs.Common.{ℕ, ◌≤◌, ◌≡◌, ◌≢◌, refl, ap, ◌∙◌, List, length, set, drop, arith, length-take, ◌+◌, take}
use borrow.Author.Tests.{eq-eqb, ne_eqb}
use native.Mathlib.Nat.{add-sub_cancel_left}
use lib.Seq.{sets}
use borrow.Rule.Slice.PartMut.{put_mid}
use Rattle.serialize.proofs.Stores.{sets_within}
use Rattle.keys.specs.Order.{common_prefix_len}
use Rattle.keys.specs.Shorten.{shorten}
use Rattle.keys.proofs.Shorten.{shorten-length}
use Rattle.builder.specs.Calls.{short_blocks, short_keys}
use Rattle.builder.proofs.Views.{last-place, key-some}
use Rattle.builder_add.proofs.shorten.shorten_last.Goals as goal

pub returns-in_default : goal.returns-in_default
unfolding short_blocks short_keys
returns-in_default c = λ next e.
    let none : c.args.builder.n ≡ 0 = omega (arith, c.in_default.ensures) in rw (eq-eqb _ _ none) (refl, refl)

-- a shortened key, lent as its part of the key area
shortened : (K key next : List ℕ) (o l : ℕ) → o + l ≤ length K
    → key ≡ sets (take l (drop o K)) 0 (shorten (take l (drop o K)) next)
    → put_mid o l K key ≡ sets K o (shorten (take l (drop o K)) next)
shortened K key next o l h e =
    rw e
    (sets_within K (shorten (take l (drop o K)) next) o l h
    (omega (arith, shorten-length (take l (drop o K)) next, length-take l (drop o K))))

pub returns : goal.returns
unfolding short_blocks short_keys
returns c = λ next e.
    let a = c.args in
    let last = c.in-Some.ensures in
    let some : a.builder.n ≢ 0 = λ z. let l = last.0 in omega arith in
    let key = key-some a.builder.n a.blocks.now a.keys.now some in
    let within = (last-place a.builder.n a.blocks.now a.keys.now c.requires.0 some).within in
    let counted = e ∙ ap (λ (k : List ℕ). common_prefix_len k next) key in
    let call =
    rw (c.place_at-place.ensures, last.1, add-sub_cancel_left) at
    (c.shorter_str_behind-shortened.ensures next (rw (c.place_at-place.ensures, last.1, add-sub_cancel_left) counted)) in
    rw (ne_eqb _ _ some, c.place_at-place.ensures, last.1, add-sub_cancel_left)
    (ap (set a.blocks.now _) call.0, shortened a.keys.now _ next _ _ within call.1)
