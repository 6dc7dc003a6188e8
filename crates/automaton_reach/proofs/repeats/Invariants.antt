-- The loop keeps: `differ` is 0 exactly when the words passed equal `last`.
use Rattle.std.proofs.Common.{◌*◌}
use Rattle.automaton.proofs.Eights.{eight_at, Differ}
use Rattle.automaton_reach.proofs.repeats.Given as goal

abbrev pub invariant-loop-eight : goal.invariant-loop-eight
invariant-loop-eight l = Differ (λ j. eight_at l.fn.bytes (8 * j)) l.last l.eight-index l.differ
