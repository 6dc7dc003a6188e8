-- Finish after a list of calls: 1 and 8 are never hit, and what it answers and leaves is the plain machine's finish.
use Prim.Native.Nat.{ℕ, ◌<◌}
use mathlib.Core.Path.{◌≡◌, sym, ap, ◌∙◌}
use mathlib.Core.List.{List, []}
use native.Mathlib.Nat.{zero-add}
use native.Mathlib.Omega.{arith}
use Rattle.std.proofs.lemmas.Bool.Decides.{nat_tests}
use lib.ListN.{length}
use lib.Seq.{ext_get_or}
use Rattle.group.specs.Blocks.{no_block, block_at, blocks_at}
use Rattle.group.proofs.Blocks.{length-blocks_at, blocks_at-at}
use Rattle.directory.specs.Keys.{key_at}
use Rattle.directory.proofs.Keys.{length-keys_at, keys_at-at}
use Rattle.builder.specs.View.{stride}
use Rattle.builder.specs.Area.{key_field}
use Rattle.builder.specs.Calls.{builder_of, State}
use Rattle.builder.specs.Index.{Settings}
use Rattle.builder.specs.Finish.{list_no, area_keys, area_directory, area_index, finish_no, step_of_finish, finish_def}
use Rattle.layout.proofs.Fronts.{all-kept}
use Rattle.builder.proofs.Row8.{rules-fronts}
use Rattle.builder.proofs.Touching.{places-good}
use Rattle.machine.specs.Plain.{Entry, Call, plain_end, blocks_of, separators_of, plain_index, plain_directory}
use Rattle.machine.specs.Finished.{plain_finish}
use Rattle.machine.specs.Runs.{FreshState, rooms_of, run_end, finished_after}
use Rattle.machine.proofs.Entries.{Rep, rep-view}
use Rattle.machine.proofs.NeverHit.{never-one}
use Rattle.machine.proofs.Rules.{EntriesOk, run-rules}
use Rattle.machine.proofs.Indexed.{
  length-oldest,
  held-block,
  held-key,
  keys-touch,
  records-fit,
  blocks-keep,
}

module _ (es : List Entry) (s : State) (r : Rep es s) where
  -- the areas' blocks and keys are the entries'
  pub rep-blocks : blocks_at s.blocks stride 0 s.builder.n ≡ blocks_of es
  rep-blocks =
      ext_get_or no_block _ _
      (length-blocks_at s.blocks stride 0 s.builder.n ∙ r.count ∙ sym (length-oldest (λ (e : Entry). e.block) es))
      (λ i h.
      let l : i < s.builder.n = omega (arith, length-blocks_at s.blocks stride 0 s.builder.n) in
      blocks_at-at s.blocks stride 0 s.builder.n i l
      ∙ ap (block_at s.blocks stride) (zero-add i) ∙ held-block s.blocks s.keys es r.holds i (omega (arith, r.count)))

  pub rep-keys : area_keys s.builder s.blocks s.keys ≡ separators_of es
  rep-keys =
      ext_get_or [] _ _
      (length-keys_at s.blocks stride key_field s.keys 0 s.builder.n
      ∙ r.count ∙ sym (length-oldest (λ (e : Entry). e.key) es))
      (λ i h.
      let l : i < s.builder.n = omega (arith, length-keys_at s.blocks stride key_field s.keys 0 s.builder.n) in
      keys_at-at s.blocks stride key_field s.keys 0 s.builder.n i l
      ∙ ap (key_at s.blocks stride key_field s.keys) (zero-add i)
      ∙ held-key s.blocks s.keys es r.holds i (omega (arith, r.count)))

  rep-index : (S : Settings) → area_index S s.builder s.blocks s.keys ≡ plain_index S es
  unfolding area_index plain_index
  rep-index S = rw (rep-blocks, rep-keys, r.count)

  rep-directory : area_directory s.builder s.blocks s.keys ≡ plain_directory es
  unfolding area_directory plain_directory
  rep-directory = rw (rep-keys, r.count)

  rep-builder : s.builder ≡ builder_of (length es)
  rep-builder = ap builder_of r.count

  module _ (ok : EntriesOk es) where
    -- 1 and 8 are never hit
    pub rep-list : list_no s.builder s.blocks s.keys ≡ 0
    unfolding list_no
    rep-list =
        rw (
          rep-view es s r,
          never-one es s r,
          places-good s.blocks s.keys s.builder.n
              (λ i h. keys-touch es s r i (omega (arith, r.count)))
              (λ i h. records-fit es s r i (omega (arith, r.count))),
          all-kept (rules-fronts s.blocks s.keys) s.builder.n (λ i h. rw (blocks-keep es s r ok i (omega (arith, r.count)))),
        )

    pub rep-finish : (S : Settings) (out : List ℕ) → finish_def S s.builder s.blocks s.keys out ≡ plain_finish S es out
    unfolding finish_def finish_no step_of_finish plain_finish
    rep-finish S out =
        grind (arith, nat_tests, rep-list, rep-index S, rep-directory, rep-builder)

-- a list of calls from a fresh builder, then a finish with any settings
pub finish-plain : (S : Settings) (cs : List Call) (s : State) → FreshState s → (out : List ℕ)
    → finished_after S cs s out ≡ plain_finish S (plain_end (rooms_of s) cs []) out
finish-plain S cs s e out =
    let both = run-rules cs s e in
    rep-finish (plain_end (rooms_of s) cs []) (run_end cs s) both.0.rep both.1 S out
