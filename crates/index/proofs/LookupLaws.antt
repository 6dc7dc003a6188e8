-- Laws of bytes and record of one opening: its blocks are legal, and a separator's place holds the separator.
use mathlib.Core.Path.{◌≡◌, refl, sym, ap, ◌∙◌}
use Rattle.std.specs.Prelude.{Some}
use mathlib.Core.Bool.{false}
use mathlib.Core.List.{List}
use Prim.Native.Nat.{ℕ, ◌<◌}
use native.Mathlib.Nat.{zero-add}
use native.Mathlib.Omega.{arith}
use lib.ListN.{length-take}
use Rattle.serialize.proofs.Numbers.{part-of-front}
use Rattle.group.specs.Legal.{Legal}
use Rattle.directory.specs.Read.{key_length, key_position, key_outside}
use Rattle.directory.proofs.Rules.{is-inside}
use Rattle.index.specs.declared.SSTableIndexV3.{SSTableIndexV3}
use Rattle.index.specs.Parts.{len_of_directory, directory_part, count_in, block_in, separator_in}
use Rattle.index.specs.Opening.{opened_of}
use Rattle.index.specs.Answers.{part_at}
use Rattle.index.specs.Lookups.{place_by}
use Rattle.index.proofs.OpenFacts.{OpenFacts}
use Rattle.index.proofs.Places.{place_read}

module _ (L : ℕ) (f : List ℕ) (opened : SSTableIndexV3) (facts : OpenFacts L f opened) where
  pub opened-legal : Legal (block_in L f) opened.n
  unfolding block_in
  opened-legal = rw facts.count facts.ok.legal

  begins : opened.directory ≡ 0
  unfolding opened_of
  begins = ap (λ (x : SSTableIndexV3). x.directory) facts.is

  module _ (id : ℕ) where
    inside : id < opened.n → key_outside (directory_part f) (count_in f) id ≡ false
    inside h = facts.sorted.inside id (rw facts.count at h)

    pub place-known : id < opened.n
        → place_by L opened f id ≡ Some (key_position (directory_part f) (count_in f) id, key_length (directory_part f) id)
    place-known h =
        let named = place_read L opened f id facts.fits h (directory_part f) (sym facts.directory)
        (rw facts.count (inside h)) _ _ refl refl in
        sym named ∙ rw (begins, facts.count, zero-add (key_position (directory_part f) (count_in f) id))

    -- the part that stands there is the block's separator
    pub place-separator : id < opened.n → part_at f (place_by L opened f id) ≡ separator_in f id
    unfolding separator_in
    place-separator h =
        rw (place-known h)
        (sym (part-of-front f (len_of_directory f) (key_position (directory_part f) (count_in f) id) (key_length (directory_part f) id)
        (omega (arith, (is-inside (directory_part f) (count_in f) id (inside h)).bytes, length-take (len_of_directory f) f))))
