-- One byte more with each turn, and at the end the whole prefix.
use Rattle.std.proofs.Common.{ℕ, refl, sym, ap, ◌∙◌, get_or, arith}
use lib.Seq.{take_all}
use Rattle.automaton.specs.Table.{next}
use Rattle.automaton.specs.Words.{run}
use Rattle.automaton.proofs.Strings.{run_more}
use Rattle.pruning.proofs.block_match_automaton.accept_prefix.Goals as goal

pub loop-byte-init : goal.loop-byte-init
unfolding run
loop-byte-init c = (refl, omega (arith, c.args.table.well_formed.some))

pub loop-byte-preserved : goal.loop-byte-preserved
loop-byte-preserved c =
    let t = c.args.table.bytes.now in
    let p = c.args.prefix.now in
    let l = c.loop-byte in (
      c.accept-state.ensures.0 ∙ ap (λ (x : ℕ). next t x (get_or p l.byte-index 0)) l.invariant.0
          ∙ sym (run_more t 0 p l.byte-index (omega arith)),
      c.accept-state.ensures.1,
    )

pub returns : goal.returns
returns c =
    let p = c.args.prefix.now in
    let l = c.loop-byte in
    (l.invariant.0 ∙ ap (run c.args.table.bytes.now 0) (take_all l.byte-index p (omega arith)), l.invariant.1)
