-- Laws of a search that skips shared bytes: what a key between two others shares, what is counted and tested of it, and how it moves
-- the search's bounds.
use mathlib.Core.Path.{◌≡◌, sym, ap, ◌∙◌}
use mathlib.Core.Bool.{Bool}
use mathlib.Core.List.{List}
use Prim.Native.Nat.{ℕ, ◌+◌, ◌≤◌, ◌<◌, min}
use native.Mathlib.Omega.{arith}
use lib.ListN.{length}
use borrow.Table.Steps.{cases}
use Rattle.keys.specs.Order.{less, ◌≺◌, ◌≼◌, common_prefix_len}
use Rattle.keys.proofs.Order.{less-asym, ≼-whole}
use Rattle.directory.specs.Read.{key_of, Sorted}
use Rattle.directory.proofs.Reader.{all-below, shared-below, shared-above}

-- a key between the two shares the lesser of the two lengths
pub lesser-shared : (x key : List ℕ) (low high : ℕ) → (x ≼ key → low ≤ common_prefix_len x key)
    → (key ≼ x → high ≤ common_prefix_len x key) → min low high ≤ common_prefix_len x key
lesser-shared x key low high f g =
    cases (less key x)
    (λ e. let h = g (less-asym key x e) in omega arith)
    (λ e. let h = f e in omega arith)

-- what is counted and tested of a part x of the bytes holds of the key k that it is
module _ {x k : List ℕ} (key : List ℕ) (e : x ≡ k) where
  pub counted : (skip shared : ℕ) → skip ≤ common_prefix_len k key → (skip ≤ common_prefix_len x key → shared ≡ common_prefix_len x key)
      → shared ≡ common_prefix_len k key
  counted skip shared h p = rw e at p h

  pub tested : {t b : Bool} (shared : ℕ) → shared ≡ common_prefix_len k key → (shared ≡ common_prefix_len x key → t ≡ less x key) → t ≡ b
      → less k key ≡ b
  tested shared h p q = sym (rw e at p h) ∙ q

  pub whole : (shared : ℕ) → shared ≡ common_prefix_len k key → length x ≤ shared → k ≼ key
  whole shared h l = ≼-whole k key (omega (arith, ap length e))

-- what a search knows of n keys where they rise: those before `left` are below the key, the one at `right` isn't. Keys from left on that
-- aren't above the key share `low` bytes with it, and keys before right that aren't below it share `high`.
pub record Around (d : List ℕ) (n : ℕ) (key : List ℕ) (left right low high : ℕ) : Type 0 where
  pub order : left ≤ right
  pub inside : right ≤ n
  pub below : Sorted d n → (i : ℕ) → i < left → key_of d n i ≺ key
  pub above : Sorted d n → right < n → key ≼ key_of d n right
  pub low-shared : Sorted d n → (i : ℕ) → left ≤ i → i < n → key_of d n i ≼ key → low ≤ common_prefix_len (key_of d n i) key
  pub high-shared : Sorted d n → (i : ℕ) → i < right → key ≼ key_of d n i → high ≤ common_prefix_len (key_of d n i) key

module _ (d : List ℕ) (n : ℕ) (key : List ℕ) (left right low high : ℕ) (now : Around d n key left right low high)
    (mid : ℕ) (after : left ≤ mid) (before : mid < right) where
  -- a key between the bounds shares the lesser of the two lengths
  pub between-shared : Sorted d n → min low high ≤ common_prefix_len (key_of d n mid) key
  between-shared sorted =
      lesser-shared (key_of d n mid) key low high (now.low-shared sorted mid after (omega (arith, now.inside)))
      (now.high-shared sorted mid before)

  -- what is counted of a part of the bytes that is this key, from that length on
  pub between-counted : (part : List ℕ) (skip shared : ℕ) → part ≡ key_of d n mid → skip ≡ min low high
      → (skip ≤ common_prefix_len part key → shared ≡ common_prefix_len part key) → Sorted d n
      → shared ≡ common_prefix_len (key_of d n mid) key
  between-counted part skip shared e g p sorted = counted key e skip shared (omega (arith, between-shared sorted)) p

  module _ (shared : ℕ) (is : Sorted d n → shared ≡ common_prefix_len (key_of d n mid) key) where
    -- it is the new right bound where it isn't below the key
    pub right-moved : (Sorted d n → key ≼ key_of d n mid) → Around d n key left mid low shared
    right-moved p = record {
      order = after;
      inside = omega (arith, now.inside);
      below = now.below;
      above = λ sorted h. p sorted;
      low-shared = now.low-shared;
      high-shared = λ sorted i h r. rw (is sorted) (shared-above d n sorted mid key (omega (arith, now.inside)) i h r);
    }

    -- and the key behind it the left bound where it is
    pub left-moved : (Sorted d n → key_of d n mid ≺ key) → Around d n key (mid + 1) right shared high
    left-moved p = record {
      order = omega arith;
      inside = now.inside;
      below = λ sorted. all-below d n sorted mid key (omega (arith, now.inside)) (p sorted);
      above = now.above;
      low-shared = λ sorted i h g r. rw (is sorted) (shared-below d n sorted mid key i h g r);
      high-shared = now.high-shared;
    }
