-- The questions of a list, asked one by one: each answer in front of the others'.
use Prim.Native.Nat.{ℕ, suc, ◌+◌, ◌-◌, ◌*◌, ◌≤◌, ◌<◌}
use mathlib.Core.Path.{◌≡◌, refl, sym, ◌∙◌}
use mathlib.Core.List.{List, [], ◌∷◌, ◌++◌}
use native.Mathlib.Nat.{sub-zero, add-zero}
use native.Mathlib.Omega.{arith}
use lib.ListN.{length}
use lib.Seq.{sets, length-sets}
use Rattle.builder.specs.Index.{Settings}
use Rattle.machine.specs.Plain.{Entry}
use Rattle.std.specs.Prelude.{Result, Ok, Err}
use Rattle.layout.specs.declared.refusals.Refusal.{Refusal}
use Rattle.layout.specs.Refusals.{no_of}
use Rattle.index.specs.declared.SSTableIndexV3.{SSTableIndexV3}
use Rattle.replay_format.specs.Format.{Question, question_len, question_at, items, behind}
use Rattle.replay_cells.specs.Cells.{cells}
use Rattle.replay.specs.Replay.{AnswerIn, no_more, one_more}
use Rattle.replay.specs.Asked.{OpenedAs, QuestionsAnswered, OpeningAnswered}
use Rattle.replay_format.proofs.Items.{behind_next, behind_there}
use Rattle.replay.proofs.Turns.{cells-turn}

-- one answer, then the rest
pub asks-more : (k : ℕ) (S : Settings) (terms : ℕ) (es : List Entry) (q : Question) (qs : List Question) (i : ℕ)
    (w answers answers' final : List ℕ)
    → AnswerIn k S terms es q w → length w ≡ 5 → answers' ≡ sets answers (5 * i) w
    → QuestionsAnswered k S terms es qs (i + 1) answers' final → QuestionsAnswered k S terms es (q ∷ qs) i answers final
asks-more k S terms es q qs i w answers answers' final a five e rest = record {
  asked = w ++ rest.asked;
  answered = one_more a rest.answered;
  written = rest.written ∙ sym (cells-turn answers answers' w rest.asked i five e);
}

-- behind i of the questions: whoever answers those left has answered all
pub record Asking (s f : List ℕ) (from count : ℕ) (loaded : Result SSTableIndexV3 Refusal) (first : ℕ) (answers : List ℕ)
    (at i : ℕ) (answers' : List ℕ) : Type 0 where
  pub within : i ≤ count
  pub long : length answers' ≡ length answers
  pub place : behind (question_len s) at (count - i) ≡ behind (question_len s) from count
  pub rest : (k : ℕ) (S : Settings) (terms : ℕ) (es : List Entry) → OpenedAs k S terms es f loaded → (final : List ℕ)
      → QuestionsAnswered k S terms es (items (question_len s) (question_at s) at (count - i)) (first + i) answers' final
      → QuestionsAnswered k S terms es (items (question_len s) (question_at s) from count) first answers final

module _ {s f : List ℕ} {from count : ℕ} {loaded : Result SSTableIndexV3 Refusal} {first : ℕ} {answers : List ℕ} where
  pub asking_start : Asking s f from count loaded first answers from 0 answers
  asking_start = record {
    within = omega arith;
    long = refl;
    place = rw (sub-zero count);
    rest = λ k S terms es g final a. rw (sub-zero count, add-zero first) at a;
  }

  module _ {at i : ℕ} {answers' : List ℕ} (l : Asking s f from count loaded first answers at i answers') where
    -- a question is there
    pub question_left : (behind (question_len s) from count ≡ 0 → ⊥) → i < count → 0 < question_len s at
    question_left f h = behind_there (question_len s) at (count - i) (omega arith) (λ z. f (sym l.place ∙ z))

    -- and is answered
    pub asking_turn : i < count → {w answers'' : List ℕ} {m : ℕ} → m ≡ question_len s at → 0 < m → length w ≡ 5
        → ((k : ℕ) (S : Settings) (terms : ℕ) (es : List Entry) → OpenedAs k S terms es f loaded
        → AnswerIn k S terms es (question_at s at) w)
        → answers'' ≡ sets answers' (5 * (first + i)) w
        → Asking s f from count loaded first answers (at + m) (i + 1) answers''
    unfolding items
    asking_turn h {w} {answers''} {m} len there five a e =
        let left : count - i ≡ suc (count - (i + 1)) = omega arith in
        let fewer : count - i - 1 ≡ count - (i + 1) = omega arith in
        let next : first + (i + 1) ≡ first + i + 1 = omega arith in
        record {
          within = omega arith;
          long = rw e (length-sets answers' (5 * (first + i)) w) ∙ l.long;
          place =
              rw len (rw fewer at (sym (behind_next (question_len s) at (count - i) (omega arith) (omega arith)))) ∙ l.place;
          rest = λ k S terms es g final z.
              l.rest k S terms es g final
              (rw left
              (asks-more k S terms es (question_at s at) _ (first + i) w answers' answers'' final (a k S terms es g) five e
              (rw (len, next) at z)));
        }

    -- none is left
    pub asking_none : count ≤ i → (k : ℕ) (S : Settings) (terms : ℕ) (es : List Entry) → OpenedAs k S terms es f loaded
        → QuestionsAnswered k S terms es (items (question_len s) (question_at s) from count) first answers answers'
    unfolding items
    asking_none h k S terms es g =
        let none_left : count - i ≡ 0 = omega arith in
        l.rest k S terms es g answers' (rw none_left (record { asked = []; answered = no_more; written = refl }))

-- ---- the opening in front of them

pub given-number : (k : ℕ) (S : Settings) (terms : ℕ) (es : List Entry) (f : List ℕ) (loaded : Result SSTableIndexV3 Refusal)
    → OpenedAs k S terms es f loaded → no_of loaded ≡ k
given-number k S terms es f (Ok opened) g = sym g.0
given-number k S terms es f (Err refusal) g = sym g.0

pub opened-asks : (k c : ℕ) (S : Settings) (terms : ℕ) (es : List Entry) (qs : List Question) (i j l : ℕ)
    (answers answers' answers'' : List ℕ)
    → j ≡ k → l ≡ c
    → answers' ≡ sets answers (5 * i) (cells j l 0 0 0) → QuestionsAnswered k S terms es qs (i + 1) answers' answers''
    → OpeningAnswered k c S terms es qs i answers answers''
opened-asks k c S terms es qs i j l answers answers' answers'' n m e a = record {
  asked = a.asked;
  answered = a.answered;
  written = a.written ∙ sym (cells-turn answers answers' (cells k c 0 0 0) a.asked i refl (rw (n, m) at e));
}
