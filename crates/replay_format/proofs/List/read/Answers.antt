-- Behind calls that are all there stands a place above 0, and a question that is missing leaves the bytes no list.
use Rattle.std.proofs.Common.{◌≡◌, arith, rules}
use Rattle.replay_format.specs.Format.{call_len, question_len, behind, list_bad}
use Rattle.replay_format.proofs.List.read.Goals as goal

pub behind_items-requires-2-clause-positive : goal.behind_items-requires-2-clause-positive
behind_items-requires-2-clause-positive c =
    let called = c.in_ok-questions_at.ensures (call_len c.args.list.now) (λ at r h p. search rules) in
    omega (arith, called.0, called.1)

pub returns-in_err-end : goal.returns-in_err-end
unfolding list_bad
returns-in_err-end c =
    let none : behind (question_len c.args.list.now) c.in_ok-questions_at.questions_at c.question_count.result ≡ 0
    = c.in_err-end.ensures (question_len c.args.list.now) (λ at r h p. search rules) in
    let called = c.in_ok-questions_at.ensures (call_len c.args.list.now) (λ at r h p. search rules) in
    grind (arith, none, called)
