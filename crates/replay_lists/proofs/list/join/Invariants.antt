-- The list isn't too long when a turn begins.
use Rattle.std.proofs.Common.{◌<◌, vec_len}
use Rattle.replay_lists.proofs.list.join.Given as goal

abbrev pub invariant-loop-k : goal.invariant-loop-k
invariant-loop-k l = vec_len l.list < 32768

abbrev pub invariant-loop : goal.invariant-loop
invariant-loop l = vec_len l.list < 32768
