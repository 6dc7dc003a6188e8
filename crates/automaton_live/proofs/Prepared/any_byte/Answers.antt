-- `any` says of each byte whether its bit is set, and so whether it leads on.
use Rattle.std.proofs.Common.{◌≡◌, ℕ, ◌+◌, ◌-◌, ◌<◌, ◌≤◌, Bool, true, false, refl}
use Rattle.std.proofs.Common.{MatchBool, get_or, length, rules, tests, arith, List, ap, sym, ◌∙◌}
use Rattle.std.specs.List.{HoldsAt, AllWithin, range_with_len}
use Rattle.std.proofs.lemmas.Iterator.{cases_from_any, YieldsList-from_range}
use Rattle.std.proofs.lemmas.List.FromFn.{length-range_with_len, get_or-range_with_len}
use Rattle.automaton.specs.Bits.{bit, Exactly}
use Rattle.automaton.specs.Table.{states, next, WellFormed}
use Rattle.automaton.specs.Words.{Reach}
use Rattle.automaton.specs.Live.{LiveByte}
use Rattle.automaton_live.proofs.Prepared.any_byte.Goals as goal

-- the bit of the byte b's next state in the row is set
abbrev IsSet : List ℕ → (reach b : ℕ) → Type 0
IsSet row reach b = bit reach (get_or row b 0) ≡ 1

-- the answer for the bytes from lo on and below hi, by their bits
module _ {t : List ℕ} {reach : ℕ} (wf : WellFormed t) (i : Reach t reach) (s : ℕ) (h : s < states t) (lo hi : ℕ) (l : hi ≤ 256)
    (row : List ℕ) (e : (b : ℕ) → b < 256 → get_or row b 0 ≡ next t s b) where
  bit-at : (k : ℕ) → k < hi - lo → bit reach (get_or row (get_or (range_with_len lo (hi - lo)) k 0) 0) ≡ bit reach (next t s (lo + k))
  bit-at k g = rw (get_or-range_with_len lo (hi - lo) k 0 g) (ap (bit reach) (e (lo + k) (omega arith)))

  of_bits : (r : Bool)
      → (let bytes = range_with_len lo (hi - lo) in
      MatchBool r ((k : ℕ) × (k < length bytes) × HoldsAt (IsSet row reach) bytes k)
      (AllWithin (λ b. IsSet row reach b → ⊥) bytes 0 (length bytes)))
      → Exactly r (LiveByte t s lo hi)
  of_bits true (k, g, f) =
      let g' : k < hi - lo = rw (length-range_with_len lo (hi - lo)) at g in
      record {
        byte = lo + k;
        low = omega arith;
        high = omega arith;
        rest = i.up (next t s (lo + k)) (wf.closed s (lo + k) h (omega arith)) (sym (bit-at k g') ∙ f 0);
      }
  of_bits false m = λ y.
      let k = y.byte - lo in
      let g : k < hi - lo = omega (arith, y.low, y.high) in
      let q : lo + k ≡ y.byte = omega (arith, y.low) in
      m k 0 (omega arith) (rw (length-range_with_len lo (hi - lo)) g)
      (bit-at k g ∙ ap (λ (x : ℕ). bit reach (next t s x)) q ∙ i.down (next t s y.byte)
      (wf.closed s y.byte h (omega (arith, y.high))) y.rest)

pub returns : goal.returns
returns c =
    let a = c.args in
    let p = a.self.now in
    let Set = IsSet c.row-row.result.now p.reach in
    of_bits p.table.well_formed c.requires.0 a.state c.requires.1
    a.lo a.hi c.requires.2 c.row-row.result.now c.row-row.ensures.by_index c.any.result
    (cases_from_any _ _ _ Set (λ b. Set b → ⊥) c.any.ensures.ran (YieldsList-from_range a.lo a.hi (a.hi - a.lo) refl refl)
    (λ x q k. search (rules, tests)) (λ x q k. search (rules, tests)))
