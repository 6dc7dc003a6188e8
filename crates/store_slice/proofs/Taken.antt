-- One group's bits come behind those of the groups before.
use Prim.Native.Nat.{ℕ, ◌+◌, ◌*◌}
use mathlib.Core.Path.{◌≡◌, refl, sym, ap, ◌∙◌}
use mathlib.Core.List.{List, [], ◌++◌, append-nil}
use lib.ListN.{length, take, drop, length-append}
use Rattle.slope.specs.Slope.{best_slope}
use Rattle.group.specs.declared.BlockAddr.{BlockAddr}
use Rattle.store.specs.Store.{group_addrs, addrs}
use Rattle.store.proofs.Stored.{addrs-add}

pub bits-add : (L g : ℕ) (bs : List BlockAddr)
    → length (addrs best_slope L g bs) + length (group_addrs best_slope (take L (drop (L * g) bs))) ≡ length (addrs best_slope L (g + 1) bs)
unfolding addrs
bits-add L g bs =
    let one = group_addrs best_slope (take L (drop (L * g) bs)) in
    sym (ap length (addrs-add best_slope L g 1 bs) ∙ length-append (addrs best_slope L g bs) (one ++ []) ∙ rw (append-nil one) refl)
