-- The directory gives the key's position and length, and the record the directory's place.
use Rattle.std.proofs.Common.{arith, sym, ap, ◌∙◌, drop, length}
use Rattle.std.proofs.Math.ListN.{length-take}
use Rattle.directory.proofs.Rules.{is-inside, length-key_of}
use Rattle.index.proofs.Places.{place-unknown, place-outside, place_read}
use Rattle.index_lookup.proofs.grouped.OpenedIndex.separator_place.Goals as goal

pub returns-then-block_id-self : goal.returns-then-block_id-self
returns-then-block_id-self c =
    let s = c.args.self.now in
    sym (place-unknown s.group_len s.opened s.«data».now c.args.block_id (omega arith))

pub returns-then-key_outside : goal.returns-then-key_outside
returns-then-key_outside c =
    let s = c.args.self.now in
    let is = c.directory-directory.ensures in
    sym (place-outside s.group_len s.opened s.«data».now c.args.block_id
    (sym (rw (is.0, is.1) at c.key_outside.ensures) ∙ c.if-key_outside.true))

pub overflow_add-position : goal.overflow_add-position
overflow_add-position c =
    let s = c.args.self.now in
    let is = c.directory-directory.ensures in
    omega (
      arith,
      s.fits.directory,
      (is-inside _ _ _ (sym c.key_outside.ensures ∙ c.if-key_outside.false)).bytes,
      c.key_position.ensures,
      ap length is.1,
      length-take s.opened.directory_len (drop s.opened.directory s.«data».now),
    )

pub returns : goal.returns
returns c =
    let s = c.args.self.now in
    let is = c.directory-directory.ensures in
    let inside = sym c.key_outside.ensures ∙ c.if-key_outside.false in
    place_read s.group_len s.opened s.«data».now c.args.block_id s.fits (omega arith) _ is.1 (rw is.0 at inside)
    _ _ (rw is.0 at c.key_position.ensures) (ap length c.key.ensures ∙ length-key_of _ _ _ (is-inside _ _ _ inside))
