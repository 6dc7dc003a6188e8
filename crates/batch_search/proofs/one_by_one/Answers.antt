-- Where keys rise no search meets a key outside, and what one finds is its key's entry.
use Rattle.std.proofs.Common.{◌≡◌, ◌<◌, ap, sym, ◌∙◌, length, arith, true≢false}
use Rattle.std.proofs.Math.ListN.{length-set}
use Rattle.directory.specs.Read.{Sorted, FoundAs}
use Rattle.batch_search.specs.Entries.{found_entry}
use Rattle.batch_search.proofs.Entries.{EntryOk, found_in, found-exact}
use Rattle.layout.proofs.Places.{each_next}
use Rattle.batch_search.proofs.one_by_one.Goals as goal
use Rattle.batch_search.proofs.one_by_one.Goals.{in-Ok, in-Err}

pub returns-in-Err-Unfit-clause-entries : goal.returns-in-Err-Unfit-clause-entries
unfolding FoundAs
returns-in-Err-Unfit-clause-entries c =
    let unsorted : Sorted c.args.directory.bytes.now c.args.directory.n → ⊥
    = λ sorted. let met = (rw c.in-Err-Unfit.field-0-is at c.in-Err-Unfit.ensures).found_as sorted in omega (arith, met.0) in
    record {
      long = c.loop-i.invariant.long;
      allowed = λ e. absurd (true≢false (sym e));
      ends = λ sorted. absurd (unsorted sorted);
      exact = λ sorted i h. absurd (unsorted sorted);
    }

pub loop-i-preserved : goal.loop-i-preserved
loop-i-preserved c =
    let a = c.args in
    let search = c.locate_with_key.result in
    let entry : c.match-locate_with_key.found ≡ found_entry search = elim c.match-locate_with_key.branch [
      | in-Ok w ↦ w.found-is ∙ sym (ap found_entry w.in-Ok.is)
      | in-Err w ↦ w.found-is ∙ sym (ap found_entry w.in-Err.is)
    ] in
    let found = rw c.nth-key.ensures at c.locate_with_key.ensures in
    let small : c.loop-i.i < length c.loop-i.found = omega (arith, c.loop-i.invariant.long, c.args.list.now.ok.few) in
    record {
      long = length-set c.loop-i.found c.loop-i.i c.match-locate_with_key.found ∙ c.loop-i.invariant.long;
      each = each_next (EntryOk a.directory.bytes.now a.directory.n a.list.now.pairs.now a.list.now.keys.now) c.loop-i.found c.loop-i.i
          c.match-locate_with_key.found small c.loop-i.invariant.each
          (rw entry (
            found_in a.directory.n search c.locate_with_key.ensures.found_in,
            λ sorted.
                found-exact _ _ _ search (found.found_as sorted),
          ));
    }
