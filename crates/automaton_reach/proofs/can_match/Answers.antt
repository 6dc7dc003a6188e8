-- In the table whose word it is the bit is set exactly for the states that can match.
use Rattle.automaton.proofs.Strings.{can-match-exactly}
use Rattle.automaton_reach.proofs.can_match.Goals as goal

pub returns-clause-by_index : goal.returns-clause-by_index
returns-clause-by_index c = λ t k h. can-match-exactly k c.args.state h c.is_set.result c.is_set.ensures
