-- Laws of a separator's place that hold in every case: when there is none, where it is, and that a part lies inside the bytes.
use mathlib.Core.Path.{◌≡◌, refl, ap}
use Rattle.std.specs.Prelude.{Option, Some, None}
use mathlib.Core.Bool.{Bool, true, false, ◌||◌, cond}
use mathlib.Core.List.{List}
use Prim.Native.Nat.{ℕ, ◌+◌, ◌≤◌, ◌<◌}
use native.Mathlib.Omega.{arith}
use lib.Dec.{leb}
use borrow.Author.Tests.{le-leb, lt-leb}
use lib.ListN.{length, drop, length-take}
use Rattle.directory.specs.Read.{key_length, key_position, key_outside}
use Rattle.directory.proofs.Rules.{is-inside}
use Rattle.index.specs.declared.SSTableIndexV3.{SSTableIndexV3}
use Rattle.index.specs.Answers.{place_offset, place_len}
use Rattle.index.specs.Opening.{group_of}
use Rattle.index.specs.Lookups.{opened_bad_by, opened_bad, OpenedFits, directory_at, place_by, place_def}
use Rattle.index.proofs.Fits.{opened-fits, fits-passes}

-- a miss by one of three tests
miss-first : (a b c : Bool) (p : Option (ℕ × ℕ)) → a ≡ true → cond (a || b || c) None p ≡ None
miss-first a b c p e = rw e

miss-second : (a b c : Bool) (p : Option (ℕ × ℕ)) → b ≡ true → cond (a || b || c) None p ≡ None
miss-second true b c p e = refl
miss-second false b c p e = rw e

miss-third : (a b c : Bool) (p : Option (ℕ × ℕ)) → c ≡ true → cond (a || b || c) None p ≡ None
miss-third true b c p e = refl
miss-third false true c p e = refl
miss-third false false c p e = rw e

-- a part passes all three
passes : (a b c : Bool) (p : Option (ℕ × ℕ)) (offset len : ℕ) → cond (a || b || c) None p ≡ Some (offset, len) → (a ≡ false) × (c ≡ false)
    × (p ≡ Some (offset, len))
passes true b c p offset len e = absurd (cc)
passes false true c p offset len e = absurd (cc)
passes false false true p offset len e = absurd (cc)
passes false false false p offset len e = (refl, refl, e)

module _ (L : ℕ) (opened : SSTableIndexV3) (f : List ℕ) (id : ℕ) where
  pub place-bad : opened_bad_by L opened (length f) ≡ true → place_by L opened f id ≡ None
  unfolding place_by
  place-bad e = miss-first (opened_bad_by L opened (length f)) _ _ _ e

  pub place-unknown : opened.n ≤ id → place_by L opened f id ≡ None
  unfolding place_by
  place-unknown h = miss-second (opened_bad_by L opened (length f)) (leb opened.n id) _ _ (le-leb opened.n id h)

  pub place-outside : key_outside (directory_at opened f) opened.n id ≡ true → place_by L opened f id ≡ None
  unfolding place_by
  place-outside e = miss-third (opened_bad_by L opened (length f)) (leb opened.n id) (key_outside (directory_at opened f) opened.n id) _ e

  -- with d the directory's bytes, and the key's position and length as the code reads them
  pub place_read : OpenedFits L opened (length f) → id < opened.n → (d : List ℕ) → d ≡ directory_at opened f
      → key_outside d opened.n id ≡ false
      → (position len : ℕ) → position ≡ key_position d opened.n id → len ≡ key_length d id
      → Some (opened.directory + position, len) ≡ place_by L opened f id
  unfolding place_by
  place_read fits h d same e position len p l =
      rw (p, l, ← same, fits-passes L opened (length f) fits, lt-leb opened.n id h, e)

  pub place_inside : (offset len : ℕ) → place_by L opened f id ≡ Some (offset, len) → offset + len ≤ length f
  unfolding place_by
  place_inside offset len e =
      let p = passes (opened_bad_by L opened (length f)) (leb opened.n id)
      (key_outside (directory_at opened f) opened.n id) _ offset len e in
      let at : opened.directory + key_position (directory_at opened f) opened.n id ≡ offset = ap place_offset p.2 in
      let size : key_length (directory_at opened f) id ≡ len = ap place_len p.2 in
      omega (
        arith,
        (is-inside (directory_at opened f) opened.n id p.1).bytes,
        length-take opened.directory_len (drop opened.directory f),
        (opened-fits L opened (length f) p.0).directory,
      )

-- a record that fails its own test has no separator
pub unfit-missing : (opened : SSTableIndexV3) (f : List ℕ) (id : ℕ) → opened_bad opened (length f) ≡ true → place_def opened f id ≡ None
unfit-missing opened f id = place-bad (group_of opened) opened f id
