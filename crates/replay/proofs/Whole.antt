-- The parts of a replayed list together: its numbers, and its answers one behind the other.
use Prim.Native.Nat.{ℕ, zero, suc, ◌+◌, ◌*◌, ◌≤◌}
use mathlib.Core.Path.{◌≡◌, refl, sym, ap, ◌∙◌}
use mathlib.Core.List.{List, [], ◌∷◌, ◌++◌}
use mathlib.Core.Bool.{false}
use native.Mathlib.Omega.{arith}
use lib.ListN.{length, take}
use lib.Seq.{sets}
use Rattle.serialize.proofs.Stores.{sets-append}
use Rattle.builder.specs.Calls.{State}
use Rattle.builder.specs.Finish.{Finish, finish_in}
use Rattle.machine.specs.Plain.{Call}
use Rattle.machine.specs.Runs.{run_numbers, run_end}
use Rattle.replay_format.specs.Format.{call_len, call_at, question_len, question_at, behind, items, calls, questions}
use Rattle.replay_format.specs.Format.{call_count, question_count, calls_from, questions_from, list_terms, list_version, head_bad, list_bad}
use Rattle.replay.specs.Made.{call_cells, finish_cells, opening_cells, finish_settings, fresh_of, entries_of, finish_of_list}
use Rattle.replay.specs.Made.{open_number, check_number}
use Rattle.replay.specs.Steps.{state_of}
use Rattle.replay.specs.Replay.{replay_no, Replayed}
use Rattle.replay.specs.Asked.{CheckedAs, OpeningAnswered}
use Rattle.builder.specs.declared.SSTableIndexBuilder.{SSTableIndexBuilder}
use Rattle.replay_format.proofs.Items.{list_ok}
use Rattle.std.proofs.lemmas.Bool.Decides.{nat_tests}
use Rattle.replay.proofs.Turns.{cells-turn}
use Rattle.replay.proofs.Entries.{numbers-plain, list-finish}
use Rattle.replay.proofs.Opening.{list-opened, list-fits}

-- ---- the room

pub replay_ok : (s : List ℕ) (room : ℕ) → replay_no s room ≡ 0 → 5 * (call_count s + 2 + question_count s) ≤ room
unfolding replay_no
replay_ok s room e = grind (arith, nat_tests, e)

-- ---- the answers

length-call_cells : (ks : List ℕ) → length (call_cells ks) ≡ 5 * length ks
unfolding call_cells
length-call_cells [] = refl
length-call_cells (k ∷ ks) = omega (arith, length-call_cells ks)

length_run : (cs : List Call) (a : State) → length (run_numbers cs a) ≡ length cs
unfolding run_numbers
length_run [] a = refl
length_run (c ∷ cs) a = ap suc (length_run cs _)

length-items : {X : Type 0} (len : ℕ → ℕ) (item : ℕ → X) (at k : ℕ) → length (items len item at k) ≡ k
unfolding items
length-items len item at zero = refl
length-items len item at (suc k) = ap suc (length-items len item (at + len at) k)

call-answers : (s : List ℕ) (a : State) → length (call_cells (run_numbers (calls s) a)) ≡ 5 * call_count s
unfolding calls
call-answers s a =
    omega (
      arith,
      length-call_cells (run_numbers (calls s) a),
      length_run (calls s) a,
      length-items (call_len s) (call_at s) (calls_from s) (call_count s),
    )

list-questions : (s : List ℕ) (from : ℕ) → from ≡ questions_from s
    → items (question_len s) (question_at s) from (question_count s) ≡ questions s
unfolding questions
list-questions s from e = rw e

-- the questions are there
pub questions_there : (s : List ℕ) (from : ℕ) → from ≡ questions_from s → head_bad s ≡ false → list_bad s ≡ false
    → behind (question_len s) from (question_count s) ≡ 0 → ⊥
unfolding head_bad
questions_there s from e head whole z =
    let none : length s ≡ 0 = sym (list_ok s whole).ends ∙ rw e at z in
    let some : 12 ≤ length s = grind (arith, nat_tests, head) in
    omega arith

module _ (s B K out B' K' : List ℕ) (b : SSTableIndexBuilder) (m : state_of b B' K' ≡ run_end (calls s) (fresh_of B K)) where
  -- the finish on what the calls left
  abbrev left : Finish
  left = finish_in (list_version s) b B' K' out

  made-finish : left ≡ finish_of_list s B K out
  made-finish = ap (λ (a : State). finish_in (list_version s) a.builder a.blocks a.keys out) m ∙ list-finish s B K out

  module _ (total : ℕ) (out' : List ℕ) (t : total ≡ left.total) (o : out' ≡ left.out) where
    pub total-fits : length out' ≡ length out → total ≤ length out'
    total-fits e = rw (e, t, made-finish) (list-fits s B K out)

    pub opened-list : CheckedAs (open_number (list_version s) (list_terms s) (entries_of s B K) (finish_of_list s B K out))
        (check_number (list_version s) (finish_of_list s B K out)) (finish_settings s) (list_version s) (list_terms s) (entries_of s B K)
        (take total out')
    opened-list = rw (t, o, made-finish) (list-opened s B K out)

  pub replayed : (answers : List ℕ) (count : ℕ) → count ≡ call_count s → (answers₁ answers₂ answers₃ out' : List ℕ)
      → answers₁ ≡ sets answers 0 (call_cells (run_numbers (calls s) (fresh_of B K)))
      → out' ≡ left.out
      → answers₂ ≡ sets answers₁ (5 * count) (finish_cells left)
      → (from : ℕ) → from ≡ questions_from s
      → OpeningAnswered (open_number (list_version s) (list_terms s) (entries_of s B K) (finish_of_list s B K out))
      (check_number (list_version s) (finish_of_list s B K out)) (finish_settings s) (list_terms s) (entries_of s B K)
      (items (question_len s) (question_at s) from (question_count s)) (count + 1) answers₂ answers₃
      → Replayed s B K out answers B' K' out' answers₃
  replayed answers count c answers₁ answers₂ answers₃ out' called written finished from next opened =
      let f = finish_of_list s B K out in
      let rest : List ℕ = opening_cells (list_version s) (list_terms s) (entries_of s B K) f ++ opened.asked in
      let after : List ℕ = finish_cells f ++ rest in
      let all : List ℕ = call_cells (run_numbers (calls s) (fresh_of B K)) in
      let place : 5 * count ≡ 0 + length all = omega (arith, call-answers s (fresh_of B K)) in
      record {
        blocks = ap (λ (a : State). a.blocks) m;
        keys = ap (λ (a : State). a.keys) m;
        output = written ∙ ap (λ (x : Finish). x.out) made-finish;
        asked = opened.asked;
        answered = rw (list-questions s from next) at opened.answered;
        written = opened.written
            ∙ sym (cells-turn answers₁ answers₂ (finish_cells f) rest count refl
            (finished ∙ ap (λ (x : Finish). sets answers₁ (5 * count) (finish_cells x)) made-finish))
            ∙ ap (λ (o : List ℕ). sets o (5 * count) after) called
            ∙ ap (λ (j : ℕ). sets (sets answers 0 all) j after) place
            ∙ sets-append answers all after 0
            ∙ ap (λ (ks : List ℕ). sets answers 0 (call_cells ks ++ after)) (numbers-plain s B K out);
      }
