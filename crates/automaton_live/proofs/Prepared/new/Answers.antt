-- Nothing is worked out yet but the word of the states that can match.
use Rattle.std.proofs.Common.{refl}
use Rattle.automaton_live.proofs.Places.{firsts-unknown, ends-unknown}
use Rattle.automaton_live.proofs.Prepared.new.Goals as goal

pub returns : goal.returns
returns c =
    let ok = c.args.table.well_formed in
    record { same = refl; found = c.reach.ensures.reach; lowest = firsts-unknown ok; highest = ends-unknown ok }
