-- A turn of a search keeps what is known of it, whichever way the comparison goes.
use mathlib.Core.Path.{◌≡◌, refl, sym, ◌∙◌}
use mathlib.Core.Bool.{Bool, true, false, cond}
use mathlib.Core.List.{List}
use mathlib.Core.Logic.{⊎_elim}
use Prim.Native.Nat.{ℕ, ◌+◌, ◌-◌, ◌/◌, ◌≤◌, ◌<◌, min}
use native.Mathlib.Nat.{eq-or-lt_of_le}
use native.Mathlib.Omega.{arith}
use lib.Dec.{eqb, ltb}
use lib.ListN.{get_or, set, replicate, length-set}
use lib.Seq.{get_or-set_same, get_or-set_other}
use borrow.Author.Tests.{lt-ltb, le-ltb, ltb-true, ltb-false, eqb-true, eqb-false}
use borrow.Table.Steps.{cases}
use Rattle.keys.specs.Order.{less, ◌≺◌, ◌≼◌, common_prefix_len}
use Rattle.keys.proofs.Order.{less-asym, ≼_trans}
use Rattle.directory.specs.Read.{Sorted, key_of}
use Rattle.directory.proofs.Reader.{keys-rise, all-below, shared-below, shared-above}
use Rattle.directory.proofs.Search.{lesser-shared}
use Rattle.key_list.specs.KeyList.{key_list_count, key_list_key}
use Rattle.batch_search.specs.Lanes.{LaneOk, Keeps, fresh, LanesOk}
use Rattle.batch_search.specs.declared.lanes.Lane.{Lane}
use Rattle.layout.proofs.Places.{get_or-replicate_same}

-- before the first turn
pub lane-fresh : (d : List ℕ) (n : ℕ) (key : List ℕ) → LaneOk d n key n 0 0 0
lane-fresh d n key =
    record {
      inside = omega arith;
      below = λ sorted i h. absurd (let z : ⊥ = omega arith in z);
      above = λ sorted h. absurd (let z : ⊥ = omega arith in z);
      low-shared = λ sorted i h g r. omega arith;
      high-shared = λ sorted i h r. omega arith;
    }

module _ (d : List ℕ) (n : ℕ) (key : List ℕ) (len left low high : ℕ) (ok : LaneOk d n key len left low high) (some : 1 ≤ len) where
  -- the key in the middle
  abbrev middle : ℕ
  middle = left + (len - len / 2) - 1

  pub middle-inside : middle < n
  middle-inside = omega (arith, ok.inside)

  pub skip-shared : Sorted d n → min low high ≤ common_prefix_len (key_of d n middle) key
  skip-shared sorted =
      lesser-shared (key_of d n middle) key low high
      (ok.low-shared sorted middle (omega arith) middle-inside)
      (ok.high-shared sorted middle (omega arith))

  module _ (shared : ℕ) (is : Sorted d n → shared ≡ common_prefix_len (key_of d n middle) key) where
    -- the key in the middle is below the key
    turned-below : (Sorted d n → key_of d n middle ≺ key) → LaneOk d n key (len / 2) (left + (len - len / 2)) shared high
    turned-below p =
        let e : left + (len - len / 2) + len / 2 ≡ left + len = omega arith in
        record {
          inside = omega (arith, ok.inside);
          below = λ sorted i h. all-below d n sorted middle key middle-inside (p sorted) i (omega arith);
          above = λ sorted h. rw e (ok.above sorted (omega arith));
          low-shared = λ sorted i h g r. rw (is sorted) (shared-below d n sorted middle key i (omega arith) g r);
          high-shared = λ sorted i h r. ok.high-shared sorted i (omega arith) r;
        }

    -- it isn't: up to it, keys that aren't below the key share no fewer bytes
    upto : (Sorted d n → key ≼ key_of d n middle) → (sorted : Sorted d n) (i : ℕ) → i ≤ middle → key ≼ key_of d n i
        → shared ≤ common_prefix_len (key_of d n i) key
    upto p sorted i h r =
        ⊎_elim
        (λ (e : i ≡ middle). rw (e, is sorted) (omega arith))
        (λ (l : i < middle). rw (is sorted) (shared-above d n sorted middle key middle-inside i l r))
        (eq-or-lt_of_le h)

    -- and neither is a key after it
    from-middle : (Sorted d n → key ≼ key_of d n middle) → (sorted : Sorted d n) (j : ℕ) → middle ≤ j → j < n → key ≼ key_of d n j
    from-middle p sorted j h g =
        ⊎_elim
        (λ (e : middle ≡ j). rw e at (p sorted))
        (λ (l : middle < j). ≼_trans key (key_of d n middle) (key_of d n j) (p sorted) (less-asym (key_of d n middle) (key_of d n j)
        (keys-rise d n sorted middle j l g)))
        (eq-or-lt_of_le h)

    turned-above : (Sorted d n → key ≼ key_of d n middle) → LaneOk d n key (len / 2) (left + 0) low shared
    turned-above p =
        record {
          inside = omega (arith, ok.inside);
          below = λ sorted i h. ok.below sorted i (omega arith);
          above = λ sorted h. from-middle p sorted (left + 0 + len / 2) (omega arith) h;
          low-shared = λ sorted i h g r. ok.low-shared sorted i (omega arith) g r;
          high-shared = λ sorted i h r. upto p sorted i (omega arith) r;
        }

    -- either way
    pub turned : (t : Bool) → (Sorted d n → less (key_of d n middle) key ≡ t)
        → LaneOk d n key (len / 2) (left + cond t (len - len / 2) 0) (cond t shared low) (cond t high shared)
    turned true p = turned-below p
    turned false p = turned-above p

-- ---- all searches

-- before a place and up to it is the same for every other one
same-side : (i m : ℕ) → (i ≡ m → ⊥) → ltb i (m + 1) ≡ ltb i m
same-side i m ne =
    cases (ltb i m)
    (λ t. lt-ltb i (m + 1) (omega (arith, ltb-true i m t)) ∙ sym t)
    (λ f. le-ltb i (m + 1) (omega (arith, ltb-false i m f)) ∙ sym f)

-- before the first turn of each
pub lanes-fresh : (d : List ℕ) (n : ℕ) (pairs bytes : List ℕ) → LanesOk d n pairs bytes 0 n (replicate 64 fresh)
lanes-fresh d n pairs bytes =
    record {
      long = refl;
      each = λ i h. rw (get_or-replicate_same fresh 64 i, le-ltb i 0 (omega arith)) (lane-fresh d n (key_list_key pairs bytes i));
    }

-- a search by default is one that hasn't begun
pub default-fresh : (l : Lane) → (l.left ≡ 0) × ((l.low ≡ 0) × (l.high ≡ 0)) → l ≡ fresh
default-fresh l d = from-parts l.left l.low l.high d.0 d.1.0 d.1.1
  where
    from-parts : (left low high : ℕ) → left ≡ 0 → low ≡ 0 → high ≡ 0 → record { left = left; low = low; high = high } ≡ fresh
    from-parts left low high e f g = rw (e, f, g) refl

-- when nothing is left to any
pub lanes-ended : (d : List ℕ) (n : ℕ) (pairs bytes : List ℕ) (lanes : List Lane) → LanesOk d n pairs bytes 0 0 lanes
    → (i : ℕ) → i < key_list_count pairs → Keeps d n (key_list_key pairs bytes i) 0 (get_or lanes i fresh)
lanes-ended d n pairs bytes lanes p i h = rw (le-ltb i 0 (omega arith)) at (p.each i h)

module _ (d : List ℕ) (n : ℕ) (pairs bytes : List ℕ) (len : ℕ) where
  -- after the turn of search m
  pub lanes_next : (m : ℕ) (lane : Lane) (lanes : List Lane) → LanesOk d n pairs bytes m len lanes → m < 64
      → Keeps d n (key_list_key pairs bytes m) (len / 2) lane → LanesOk d n pairs bytes (m + 1) len (set lanes m lane)
  lanes_next m lane lanes p g q =
      record {
        long = length-set lanes m lane ∙ p.long;
        each =
            λ i h.
            cases (eqb i m)
            (λ t.
            let e = eqb-true i m t in
            rw (e, lt-ltb m (m + 1) (omega arith), get_or-set_same lanes m lane fresh (omega (arith, p.long))) q)
            (λ f.
            let ne = eqb-false i m f in
            rw (get_or-set_other lanes m i lane fresh ne, same-side i m ne) (p.each i h));
      }
