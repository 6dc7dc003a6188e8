-- The opening's number and the check's, and behind them the questions' answers.
use Rattle.std.proofs.Common.{◌∙◌}
use Rattle.replay_format.specs.Format.{list_terms}
use Rattle.replay.specs.Asked.{OpenedAs}
use Rattle.replay.proofs.Asking.{given-number, opened-asks}
use Rattle.replay.proofs.questions.open_list.Goals as goal

pub returns : goal.returns
returns c = λ k d S es x.
    let a = c.args in
    let terms = list_terms a.head.now.list.now in
    let opened : OpenedAs k S terms es a.«data».now c.load-loaded.result
    = rw (c.load-loaded.ensures, c.version.ensures, c.terms.ensures) x.opening in
    opened-asks k d S terms es _ a.first _ _ a.answers.now _ _
    (c.from-opening.ensures ∙ c.number.ensures ∙ given-number k S terms es a.«data».now c.load-loaded.result opened)
    (c.from-check.ensures ∙ c.number-2.ensures ∙ rw c.version-2.ensures at c.check_canonical.ensures ∙ x.checked) c.write.ensures.written
    (c.ask_questions.ensures k S terms es opened)
