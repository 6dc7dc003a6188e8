-- The calls of a list, made one by one: what is left behind each, and its five numbers in front of the others'.
use Prim.Native.Nat.{ℕ, suc, ◌+◌, ◌-◌, ◌*◌, ◌≤◌, ◌<◌}
use mathlib.Core.Path.{◌≡◌, refl, sym, ap, ◌∙◌}
use mathlib.Core.Bool.{false}
use mathlib.Core.List.{List, ◌++◌}
use native.Mathlib.Nat.{sub-zero}
use native.Mathlib.Omega.{arith}
use lib.ListN.{length}
use lib.Seq.{sets, length-sets}
use Rattle.serialize.proofs.Stores.{sets-append}
use Rattle.builder.specs.declared.SSTableIndexBuilder.{SSTableIndexBuilder}
use Rattle.builder.specs.Calls.{Called as CallLeft, builder_of}
use Rattle.machine.specs.Runs.{call_def, run_numbers, run_end}
use Rattle.replay_format.specs.Format.{call_len, call_at, items, behind, calls, call_count, calls_from, questions_from, list_bad}
use Rattle.replay_cells.specs.Cells.{cells}
use Rattle.replay.specs.Made.{call_cells, fresh_of}
use Rattle.replay.specs.Steps.{state_of}
use Rattle.replay_format.proofs.Items.{behind_next, behind_there, list_ok}

-- five numbers written, then the rest
pub cells-turn : (out out' w rest : List ℕ) (i : ℕ) → length w ≡ 5 → out' ≡ sets out (5 * i) w
    → sets out (5 * i) (w ++ rest) ≡ sets out' (5 * (i + 1)) rest
cells-turn out out' w rest i five e =
    let next : 5 * (i + 1) ≡ 5 * i + length w = omega arith in
    rw (e, next) (sym (sets-append out w rest (5 * i)))

-- behind i of the calls: those left, made on what the last one left, leave and answer what all of them do
pub record Left (s B K out : List ℕ) (count i at : ℕ) (b : SSTableIndexBuilder) (B' K' out' : List ℕ) : Type 0 where
  pub within : i ≤ count
  pub blocks : length B' ≡ length B
  pub keys : length K' ≡ length K
  pub answers : length out' ≡ length out
  pub place : behind (call_len s) at (count - i) ≡ questions_from s
  pub end : run_end (items (call_len s) (call_at s) at (count - i)) (state_of b B' K') ≡ run_end (calls s) (fresh_of B K)
  pub numbers : sets out' (5 * i) (call_cells (run_numbers (items (call_len s) (call_at s) at (count - i)) (state_of b B' K')))
      ≡ sets out 0 (call_cells (run_numbers (calls s) (fresh_of B K)))

pub left_start : {s B K out : List ℕ} {count from : ℕ} → from ≡ calls_from s → count ≡ call_count s
    → Left s B K out count 0 from (builder_of 0) B K out
unfolding calls
left_start {s} {B} {K} {out} {count} {from} f e = record {
  within = omega arith;
  blocks = refl;
  keys = refl;
  answers = refl;
  place = rw (sub-zero count, e, f);
  end = rw (sub-zero count, e, f);
  numbers = rw (sub-zero count, e, f);
}

module _ {s B K out : List ℕ} {count i at : ℕ} {b : SSTableIndexBuilder} {B' K' out' : List ℕ}
    (l : Left s B K out count i at b B' K' out') where
  -- a call is there
  pub next_there : list_bad s ≡ false → i < count → 0 < call_len s at
  next_there good h = behind_there (call_len s) at (count - i) (omega arith) (λ z. (list_ok s good).calls_there (sym l.place ∙ z))

  -- and is made
  pub left_turn : i < count → {b' : SSTableIndexBuilder} {B'' K'' out'' : List ℕ} {k n : ℕ}
      → record { no = k; state = state_of b' B'' K'' } ≡ call_def (call_at s at) (state_of b B' K')
      → n ≡ call_len s at → 0 < n
      → out'' ≡ sets out' (5 * i) (cells k 0 0 0 0)
      → length B'' ≡ length B' → length K'' ≡ length K'
      → Left s B K out count (i + 1) (at + n) b' B'' K'' out''
  unfolding items run_end run_numbers call_cells
  left_turn h {b'} {B''} {K''} {out''} {k} {n} made len there written same-blocks same-keys =
      let left : count - i ≡ suc (count - (i + 1)) = omega arith in
      let behind-turn = behind_next (call_len s) at (count - i) (omega arith) (omega arith) in
      let fewer : count - i - 1 ≡ count - (i + 1) = omega arith in
      let moved : state_of b' B'' K'' ≡ (call_def (call_at s at) (state_of b B' K')).state = ap (λ (c : CallLeft). c.state) made in
      record {
        within = omega arith;
        blocks = same-blocks ∙ l.blocks;
        keys = same-keys ∙ l.keys;
        answers = rw written (length-sets out' (5 * i) (cells k 0 0 0 0)) ∙ l.answers;
        place = rw len (rw fewer at (sym behind-turn)) ∙ l.place;
        end = rw (moved, len) (rw left at l.end);
        numbers =
            sym (cells-turn out' out'' (cells k 0 0 0 0)
            (call_cells (run_numbers (items (call_len s) (call_at s) (at + n) (count - (i + 1))) (state_of b' B'' K''))) i refl written)
            ∙ rw (moved, len, ap (λ (c : CallLeft). c.no) made) (rw left at l.numbers);
      }

  -- none is left
  pub left_none : count ≤ i → (state_of b B' K' ≡ run_end (calls s) (fresh_of B K))
      × (out' ≡ sets out 0 (call_cells (run_numbers (calls s) (fresh_of B K))))
  unfolding items run_end run_numbers call_cells
  left_none h =
      let none : count - i ≡ 0 = omega arith in
      (rw none at l.end, rw none at l.numbers)
