-- Demand 3 of a list's calls and version: the numbers, the finish after them, and the bytes that it gives to be opened.
use Prim.Native.Nat.{ℕ}
use mathlib.Core.Path.{◌≡◌, refl}
use mathlib.Core.List.{List, []}
use Rattle.machine.specs.Plain.{plain_numbers}
use Rattle.machine.specs.Runs.{rooms_of, run_numbers, finished_in}
use Rattle.demands.specs.Demand3.{Demand3}
use Rattle.demands.proofs.Demand3.{demand-3}
use Rattle.replay_format.specs.Format.{calls, list_version}
use Rattle.replay.specs.Made.{fresh_of, finish_of_list}

module _ (s B K out : List ℕ) where
  -- demand 3 of the list's calls from a fresh builder
  pub list-demand : Demand3 (list_version s) (calls s) (fresh_of B K) out
  list-demand = demand-3 (list_version s) (calls s) (fresh_of B K) out refl

  -- each call's number is the plain machine's
  pub numbers-plain : run_numbers (calls s) (fresh_of B K) ≡ plain_numbers (rooms_of (fresh_of B K)) (calls s) []
  numbers-plain = list-demand.answers

  -- the finish is the entries'
  pub list-finish : finished_in (list_version s) (calls s) (fresh_of B K) out ≡ finish_of_list s B K out
  list-finish = list-demand.finishes
