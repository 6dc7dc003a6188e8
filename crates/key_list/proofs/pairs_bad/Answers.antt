-- A pair that breaks a rule makes the list bad; one that keeps them leaves those up to it good, and hands its offset on.
use Rattle.std.proofs.Common.{◌≡◌, refl, ◌⊎◌, ⊎_elim, ℕ, ◌+◌, ◌≤◌, ◌<◌, true, false, ltb, length, get_or, sym, ◌∙◌, rules, tests, arith}
use Rattle.key_list.specs.KeyList.{key_list_count, key_list_offset, key_list_len, offset_before, key_pairs_bad, key_pair_bad}
use Rattle.layout.proofs.Fronts.{one-more}
use Rattle.layout.proofs.Turns.{none-told}
use Rattle.key_list.proofs.Pairs.{offset-is, len-is, pairs-fronts, before-first, before-next, offset-falls, key-beyond, one-bad}
use Rattle.key_list.proofs.Turns.{tried}
use Rattle.key_list.proofs.pairs_bad.Goals as goal

pub returns : goal.returns
returns c =
    let pairs = c.args.pairs.now in
    let room = c.args.room in
    let rows = c.as_chunks.result.0.now in
    let count : length rows ≡ key_list_count pairs = omega (arith, c.as_chunks.ensures.front_len) in
    let offset = λ (i : ℕ) (h : i < length rows). offset-is pairs rows c.as_chunks.ensures.front i (omega (arith, h, count)) in
    let len = λ (i : ℕ) (h : i < length rows). len-is pairs rows c.as_chunks.ensures.front i (omega (arith, h, count)) in
    let told = tried _ _ _ rows (λ (i before : ℕ). (key_pairs_bad pairs room i ≡ false) × (before ≡ offset_before pairs i))
    (λ i x before after q below e good called.
    let turn : (q ≡ _) × (before ≤ get_or x.now 0 0) × (ltb room (get_or x.now 0 0 + get_or x.now 1 0) ≡ false)
    × (after ≡ get_or x.now 0 0) = search (rules, tests) in
    let o : get_or x.now 0 0 ≡ key_list_offset pairs i = rw e (offset i below) in
    let l : get_or x.now 1 0 ≡ key_list_len pairs i = rw e (len i below) in
    let stays : offset_before pairs i ≤ key_list_offset pairs i = omega (arith, o, good.1, turn.1) in
    let fits : ltb room (key_list_offset pairs i + key_list_len pairs i) ≡ false = rw (← o, ← l) turn.2 in (
      turn.0,
      (one-more (pairs-fronts pairs room) i good.0 (key-beyond pairs room i stays ∙ fits), turn.3 ∙ o ∙ sym (before-next pairs i)),
    ))
    _ _ 0 c.try_fold.result c.try_fold.ensures.ran c.iter.ensures.rest ((pairs-fronts pairs room).none, sym (before-first pairs))
    (true ≡ key_pairs_bad pairs room (length rows))
    (λ i x before q below e good called.
    let hit : (get_or x.now 0 0 < before) ⊎ ((before ≤ get_or x.now 0 0)
    × (ltb room (get_or x.now 0 0 + get_or x.now 1 0) ≡ true)) = search (rules, tests) in
    let o : get_or x.now 0 0 ≡ key_list_offset pairs i = rw e (offset i below) in
    let l : get_or x.now 1 0 ≡ key_list_len pairs i = rw e (len i below) in
    let bad : key_pair_bad pairs room i ≡ true = ⊎_elim
    (λ h. offset-falls pairs room i (omega (arith, o, h, good.1)))
    (λ h. key-beyond pairs room i (omega (arith, o, h.0, good.1)) ∙ rw (← o, ← l) h.1) hit in
    sym (one-bad pairs room (length rows) i below bad)) in
    none-told _ _ c.is_none.result c.try_fold.result c.is_none.ensures told ∙ rw count refl
