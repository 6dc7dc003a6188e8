-- The blocks and separators of an opened index are small enough for a line of 2,109 bytes.
use mathlib.Core.Path.{◌≡◌}
use mathlib.Core.List.{List}
use Prim.Native.Nat.{ℕ, ◌*◌, ◌+◌, ◌≤◌, ◌<◌}
use native.Mathlib.Omega.{arith}
use lib.ListN.{length, drop, length-take}
use Rattle.group.specs.Legal.{NumbersOk}
use Rattle.directory.specs.Read.{key_offset, key_length}
use Rattle.index.specs.declared.SSTableIndexV3.{SSTableIndexV3}
use Rattle.index.specs.Parts.{directory_part, count_in, block_in, separator_in}
use Rattle.index.specs.Opening.{group_of, Opens}
use Rattle.index.specs.Answers.{part_at}
use Rattle.index.specs.Lookups.{place_def}
use Rattle.index.proofs.OpenFacts.{OpenFacts, opens-facts}
use Rattle.index.proofs.LookupLaws.{opened-legal, place-separator}
use Rattle.line_text.specs.Lines.{line_of, line_len}
use Rattle.line_text.proofs.Written.{line-short}

module _ (f : List ℕ) (opened : SSTableIndexV3) (o : Opens f opened) (id : ℕ) (h : id < opened.n) where
  facts : OpenFacts (group_of opened) f opened
  facts = opens-facts f opened o

  pub id-small : id < 65536
  id-small = omega (arith, facts.count, facts.few)

  pub block-small : NumbersOk (block_in (group_of opened) f id)
  block-small = (opened-legal (group_of opened) f opened facts).numbers id h

  pub separator-small : length (separator_in f id) ≤ 1024
  unfolding separator_in
  separator-small =
      let d = directory_part f in
      omega (
        arith,
        length-take (key_length d id) (drop (4 + 8 * count_in f + key_offset d id) d),
        facts.rules.pairs.short id (rw facts.count at h),
      )

  pub separator-is : part_at f (place_def opened f id) ≡ separator_in f id
  separator-is = place-separator (group_of opened) f opened facts id h

  pub line-fits : length (line_of id (block_in (group_of opened) f id) (separator_in f id)) ≤ line_len
  line-fits = line-short id (block_in (group_of opened) f id) id-small block-small (separator_in f id) separator-small
