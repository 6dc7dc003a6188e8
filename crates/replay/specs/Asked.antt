-- What the code's answers rest on: an opened index of entries, or a refused opening.
use Rattle.std.specs.Prelude.{ℕ, ◌*◌, ◌≤◌, ◌<◌, ◌≡◌, List, ◌++◌, length, Result, Ok, Err}
use Rattle.std.proofs.lemmas.List.Edits.{sets}
use Rattle.layout.specs.Layout.{max_blocks}
use Rattle.layout.specs.declared.refusals.Refusal.{Refusal}
use Rattle.layout.specs.Refusals.{number_of}
use Rattle.builder.specs.Index.{Settings}
use Rattle.machine.specs.Plain.{Entry, plain_index}
use Rattle.index.specs.declared.SSTableIndexV3.{SSTableIndexV3}
use Rattle.index.specs.Opening.{load_def}
use Rattle.canonical.specs.Canonical.{check_no}
use Rattle.demands.specs.Demand3.{Finds}
use Rattle.replay_format.specs.Format.{Question}
use Rattle.replay_cells.specs.Cells.{cells}
use Rattle.replay.specs.Replay.{Answered}

-- f is the entries' index, opened with a number of terms: the blocks are found there
pub record Indexed (S : Settings) (terms : ℕ) (es : List Entry) (f : List ℕ) (opened : SSTableIndexV3) : Type 0 where
  pub bytes : f ≡ plain_index S es
  pub few : length es ≤ max_blocks
  pub finds : Finds es f terms opened

-- an opening of f with number k
abbrev pub OpenedAs : ℕ → Settings → ℕ → List Entry → List ℕ → Result SSTableIndexV3 Refusal → Type 0
OpenedAs k S terms es f (Ok opened) = (k ≡ 0) × Indexed S terms es f opened
OpenedAs k S terms es f (Err refusal) = (k ≡ number_of refusal) × (0 < k)

-- f, opened with a version and a number of terms and checked: c is the number of the check of document 02's wish 3
pub record CheckedAs (k c : ℕ) (S : Settings) (version terms : ℕ) (es : List Entry) (f : List ℕ) : Type 0 where
  pub opening : OpenedAs k S terms es f (load_def version terms f)
  pub checked : check_no version f ≡ c

-- questions answered from answer i on
pub record QuestionsAnswered (k : ℕ) (S : Settings) (terms : ℕ) (es : List Entry) (qs : List Question) (i : ℕ)
    (answers answers' : List ℕ) : Type 0 where
  pub asked : List ℕ
  pub answered : Answered k S terms es qs asked
  pub written : answers' ≡ sets answers (5 * i) asked

-- an opening's number and the check's as answer i, and the questions after it
pub record OpeningAnswered (k c : ℕ) (S : Settings) (terms : ℕ) (es : List Entry) (qs : List Question) (i : ℕ)
    (answers answers' : List ℕ) : Type 0 where
  pub asked : List ℕ
  pub answered : Answered k S terms es qs asked
  pub written : answers' ≡ sets answers (5 * i) (cells k c 0 0 0 ++ asked)
