-- A block whose numbers break row 3 is none.
use Rattle.std.proofs.Common.{◌≡◌, ℕ, ◌/◌, List, Bool, true, false, not, true≢false, sym, ◌∙◌, refl}
use Rattle.std.specs.Bool.{then_some}
use Rattle.group.specs.declared.BlockAddr.{BlockAddr}
use Rattle.group.specs.Rows.{are_numbers_bad}
use Rattle.store.specs.Read.{meta_bad, block_or, store_get}
use Rattle.store_read.proofs.BlockAddrStore.get.Goals as goal

found : (L : ℕ) (recs addr : List ℕ) (n i : ℕ) (b : BlockAddr) → b ≡ block_or L recs addr n i
    → (broken : Bool) → are_numbers_bad b ≡ broken → (bad : Bool) → meta_bad L recs addr n (i / L) ≡ bad
    → then_some (not broken) b ≡ store_get L recs addr n i
unfolding block_or store_get are_numbers_bad
found L recs addr n i b is true e true m = simp m
found L recs addr n i b is false e true m = let z : ◌≡◌ {A = Bool} true false = rw (rw m at is) at e in absurd (true≢false z)
found L recs addr n i b is true e false m = simp (m, rw (rw m at is) at e)
found L recs addr n i b is false e false m = simp (m, sym (rw m at is), e)

pub returns : goal.returns
returns c =
    c.then_some.ensures
    ∙ found _ _ _ _ _ _ c.block-block.ensures _ (sym c.numbers_bad.ensures) _ refl
