-- The key in the middle decides which half is left.
use Rattle.std.proofs.Common.{◌≡◌, ◌+◌, ◌-◌, ◌/◌, eqb, refl, sym, arith}
use Rattle.keys.specs.Order.{common_prefix_len}
use Rattle.directory.specs.Read.{key_of, Sorted}
use Rattle.directory.proofs.Search.{counted, tested}
use Rattle.batch_search.proofs.Turns.{skip-shared, turned}
use Rattle.batch_search.proofs.Picked.{below-is-0}
use Rattle.batch_search.proofs.lanes.Lane.turn.Goals as goal

pub returns : goal.returns
returns c =
    let a = c.args in
    let d = a.directory.bytes.now in
    let n = a.directory.n in
    let shared = c.shared_len-shared.result in
    -- where keys rise, what the code counts is what the key in the middle shares
    let is : Sorted d n → shared ≡ common_prefix_len (key_of d n (a.self.left + (a.len - a.len / 2) - 1)) a.key.now
    = λ sorted. counted a.key.now c.key-at.ensures c.min-skip.result shared
    (omega (arith, skip-shared _ _ _ _ _ _ _ c.requires.2 c.requires.0 sorted, c.min-skip.ensures)) c.shared_len-shared.ensures in
    rw (c.pick.ensures, c.pick-2.ensures, c.pick-3.ensures)
    (turned d n a.key.now a.len a.self.left a.self.low a.self.high c.requires.2 c.requires.0 shared is (eqb c.not_below-right.result 0)
    (λ sorted. tested a.key.now c.key-at.ensures shared (is sorted) (λ s. sym (below-is-0 _ _ (c.not_below-right.ensures.1 s))) refl))
