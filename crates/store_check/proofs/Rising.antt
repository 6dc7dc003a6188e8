-- Starts and ordinals that rise to a last block in range make every block of a group legal.
use mathlib.Core.Path.{◌≡◌, refl, sym, ap, ◌∙◌}
use mathlib.Core.Bool.{true, false, true≢false}
use mathlib.Core.Logic.{⊎_elim}
use Prim.Native.Nat.{ℕ, zero, suc, ◌+◌, ◌-◌, ◌≤◌, ◌<◌}
use native.Mathlib.Nat.{eq-or-lt_of_le}
use native.Mathlib.Numerals.{add-one}
use native.Mathlib.Omega.{arith}
use Rattle.group.specs.declared.BlockAddrBlockMetadata.{BlockAddrBlockMetadata}
use Rattle.group.specs.Legal.{NumbersOk, Legal}
use Rattle.group.specs.Rows.{are_numbers_bad}
use Rattle.group.specs.Read.{range_read, ordinal_read, block_read}
use Rattle.group.proofs.Legal.{numbers-ok, numbers-good}
use Rattle.store.specs.Check.{blocks_bad}
use Rattle.std.specs.Prelude.{Some, None}
use Rattle.std.proofs.lemmas.Bool.{true_from_ne_false}
use Rattle.store.proofs.Rows.{blocks-kept, blocks-keep}
use Rattle.store.proofs.Passed.{last_of}

module _ (m : BlockAddrBlockMetadata) (N : ℕ) where
  -- block j's start and ordinal against the next one's
  pub record Rises (j : ℕ) : Type 0 where
    pub start : range_read m N j ≤ range_read m N (suc j)
    pub ordinal : ordinal_read m N j < ordinal_read m N (suc j)

  abbrev pub Rising : ℕ → Type 0
  Rising i = (j : ℕ) → j < i → Rises j

  -- one block more
  pub rising-more : (i : ℕ) → 1 ≤ i → Rising (i - 1) → range_read m N (i - 1) ≤ range_read m N i
      → ordinal_read m N (i - 1) < ordinal_read m N i → Rising (i + 1 - 1)
  rising-more i some up start ordinal j h =
      ⊎_elim
      (λ (e : suc j ≡ i).
      let same : i - 1 ≡ j = omega arith in
      record { start = rw e (rw same at start); ordinal = rw e (rw same at ordinal) })
      (λ (l : suc j < i). up j (omega arith))
      (eq-or-lt_of_le (let within : suc j ≤ i = omega arith in within))

  module _ (last : ℕ) (up : Rising last) (ok : NumbersOk (block_read m N last)) where
    -- block j, k before the last
    numbers_up : (k j : ℕ) → j + k ≡ last → NumbersOk (block_read m N j)
    unfolding block_read
    numbers_up zero j e = let same : last ≡ j = omega arith in rw same at ok
    numbers_up (suc k) j e =
        let next = numbers_up k (suc j) (omega arith) in
        record {
          ordered = (up j (omega arith)).start;
          end-small = omega (arith, next.ordered, next.end-small);
          ordinal-small = omega (arith, (up j (omega arith)).ordinal, next.ordinal-small);
        }

    all-legal : Legal (block_read m N) (last + 1)
    unfolding block_read
    all-legal = record {
      numbers = λ j h. numbers_up (last - j) j (omega arith);
      follows = λ j h. record { touches = refl; rises = (up j (omega arith)).ordinal };
    }

  -- the answers
  module _ (last : ℕ) where
    broken : (Legal (block_read m N) (last + 1) → ⊥) → None ≡ last_of (block_read m N) last
    broken h = rw (true_from_ne_false (blocks_bad (block_read m N) (last + 1)) (λ e. h (blocks-kept (block_read m N) (last + 1) e)))

    -- by the start and the ordinal of the block before i
    module _ (i start ordinal : ℕ) (some : 1 ≤ i) (s : start ≡ range_read m N (i - 1)) (o : ordinal ≡ ordinal_read m N (i - 1)) where
      before : suc (i - 1) ≡ i
      before = omega arith

      pub start_falls : (next : ℕ) → i ≤ last → next ≡ range_read m N i → next < start → None ≡ last_of (block_read m N) last
      unfolding block_read
      start_falls next h e l = broken
          (λ legal. omega (arith, (legal.numbers (i - 1) (omega arith)).ordered, ap (range_read m N) before))

      pub ordinal-stays : (next : ℕ) → i ≤ last → next ≡ ordinal_read m N i → next ≤ ordinal → None ≡ last_of (block_read m N) last
      unfolding block_read
      ordinal-stays next h e l = broken
          (λ legal. omega (arith, (legal.follows (i - 1) (omega arith)).rises, ap (ordinal_read m N) before))

      module _ (end : ℕ) (whole : i ≡ last + 1) (e : end ≡ range_read m N (last + 1)) where
        before-last : i - 1 ≡ last
        before-last = omega arith

        last-is : record { start = start; end = end; first_ordinal = ordinal } ≡ block_read m N last
        unfolding block_read
        last-is = rw (s, o, e, before-last, add-one last) refl

        pub last-broken : are_numbers_bad (record { start = start; end = end; first_ordinal = ordinal }) ≡ true →
            None ≡ last_of (block_read m N) last
        last-broken b = broken (λ legal. true≢false (sym b ∙ ap are_numbers_bad last-is ∙ numbers-good (block_read m N last)
            (legal.numbers last (omega arith))))

        pub last-kept : Rising (i - 1) → are_numbers_bad (record { start = start; end = end; first_ordinal = ordinal }) ≡ false
            → Some (record { start = start; end = end; first_ordinal = ordinal }) ≡ last_of (block_read m N) last
        last-kept up b =
            let ok = numbers-ok (block_read m N last) (sym (ap are_numbers_bad last-is) ∙ b) in
            rw (blocks-keep (block_read m N) (last + 1) (all-legal last (rw before-last at up) ok), last-is)
