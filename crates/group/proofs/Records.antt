-- A block that is put behind those that an area of three numbers a block holds stands behind them.
use mathlib.Core.Path.{◌≡◌, refl, sym, ◌∙◌, ap}
use mathlib.Core.List.{List}
use mathlib.Core.Logic.{⊎_elim}
use Prim.Native.Nat.{ℕ, ◌+◌, ◌-◌, ◌*◌, ◌≤◌, ◌<◌}
use native.Mathlib.Nat.{zero-add, eq-zero-or-pos}
use native.Mathlib.Omega.{arith}
use lib.ListN.{length, get_or, set, take, drop, length-set, length-take, length-drop}
use lib.Seq.{get_or-set_same, get_or-set_other, get_or-take, get_or-drop, ext_get_or}
use Rattle.group.specs.declared.BlockAddr.{BlockAddr}
use Rattle.group.specs.Blocks.{no_block, block_of, block_at, blocks_at, with_block}
use Rattle.group.proofs.Blocks.{length-blocks_at, blocks_at-at}

module _ (b : BlockAddr) (h : ℕ) (xs : List ℕ) where
  -- what stands before it stays
  before : (i : ℕ) → i < 3 * h → get_or (with_block xs (3 * h) b) i 0 ≡ get_or xs i 0
  before i l =
      get_or-set_other (set (set xs (3 * h) b.start) (3 * h + 1) b.end) (3 * h + 2) i b.first_ordinal 0 (λ e. omega arith)
      ∙ get_or-set_other (set xs (3 * h) b.start) (3 * h + 1) i b.end 0 (λ e. omega arith)
      ∙ get_or-set_other xs (3 * h) i b.start 0 (λ e. omega arith)

  put-before : (j : ℕ) → j < h → block_at (with_block xs (3 * h) b) 3 j ≡ block_at xs 3 j
  put-before j l = rw (before (3 * j) (omega arith), before (3 * j + 1) (omega arith), before (3 * j + 2) (omega arith)) refl

  module _ (room : 3 * h + 3 ≤ length xs) where
    abbrev one : List ℕ
    one = set xs (3 * h) b.start

    abbrev two : List ℕ
    two = set one (3 * h + 1) b.end

    start-here : get_or (with_block xs (3 * h) b) (3 * h) 0 ≡ b.start
    start-here =
        get_or-set_other two (3 * h + 2) (3 * h) b.first_ordinal 0 (λ e. omega arith)
        ∙ get_or-set_other one (3 * h + 1) (3 * h) b.end 0 (λ e. omega arith)
        ∙ get_or-set_same xs (3 * h) b.start 0 (omega arith)

    end-here : get_or (with_block xs (3 * h) b) (3 * h + 1) 0 ≡ b.end
    end-here =
        get_or-set_other two (3 * h + 2) (3 * h + 1) b.first_ordinal 0 (λ e. omega arith)
        ∙ get_or-set_same one (3 * h + 1) b.end 0 (omega (arith, length-set xs (3 * h) b.start))

    ordinal-here : get_or (with_block xs (3 * h) b) (3 * h + 2) 0 ≡ b.first_ordinal
    ordinal-here =
        get_or-set_same two (3 * h + 2) b.first_ordinal 0 (omega (arith, length-set xs (3 * h) b.start, length-set one (3 * h + 1) b.end))

    put-here : block_at (with_block xs (3 * h) b) 3 h ≡ b
    put-here = rw (start-here, end-here, ordinal-here) refl

-- the area held h blocks of the list from block k on, and holds one more
module _ (xs : List ℕ) (bs : List BlockAddr) (k h : ℕ) (room : 3 * h + 3 ≤ length xs) (more : k + h < length bs)
    (holds : blocks_at xs 3 0 h ≡ take h (drop k bs)) where
  held_at : (j : ℕ) → j < h → block_at xs 3 j ≡ block_of bs (k + j)
  held_at j l =
      ap (block_at xs 3) (sym (zero-add j)) ∙ sym (blocks_at-at xs 3 0 h j l) ∙ ap (λ (l : List BlockAddr). block_of l j) holds
      ∙ get_or-take h (drop k bs) j no_block l ∙ get_or-drop k bs j no_block

  one_at : (b : BlockAddr) → b ≡ block_of bs (k + h) → (j : ℕ) → j < h + 1 → block_at (with_block xs (3 * h) b) 3 j ≡ block_of bs (k + j)
  one_at b is j l =
      ⊎_elim (λ none.
      let e : j ≡ h = omega arith in
      rw e (put-here b h xs room ∙ is)) (λ some. put-before b h xs j (omega arith) ∙ held_at j (omega arith)) (eq-zero-or-pos (h - j))

  pub held_more : (b : BlockAddr) → b ≡ block_of bs (k + h) → blocks_at (with_block xs (3 * h) b) 3 0 (h + 1) ≡ take (h + 1) (drop k bs)
  held_more b is =
      let size = length-blocks_at (with_block xs (3 * h) b) 3 0 (h + 1) in
      ext_get_or no_block (blocks_at (with_block xs (3 * h) b) 3 0 (h + 1)) (take (h + 1) (drop k bs))
      (omega (arith, size, length-take (h + 1) (drop k bs), length-drop k bs))
      (λ j l.
      let l' : j < h + 1 = omega (arith, size) in
      blocks_at-at (with_block xs (3 * h) b) 3 0 (h + 1) j l' ∙ ap (block_at (with_block xs (3 * h) b) 3) (zero-add j) ∙ one_at b is j l'
      ∙ sym (get_or-take (h + 1) (drop k bs) j no_block l' ∙ get_or-drop k bs j no_block))
