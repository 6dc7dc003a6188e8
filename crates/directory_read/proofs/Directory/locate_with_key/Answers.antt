-- The key in the middle becomes the right bound where it isn't below the key, and the key behind it the left bound where it is.
use Rattle.std.proofs.Common.{◌≡◌, ◌+◌, ◌-◌, ◌/◌, ℕ, List, arith, length, ◌≤◌}
use Rattle.keys.specs.Order.{◌≼◌, common_prefix_len}
use Rattle.keys.proofs.Order.{less-end-right}
use Rattle.directory.specs.Read.{key_of, FoundAs}
use Rattle.directory.proofs.Reader.{all-before}
use Rattle.directory.proofs.Search.{between-counted, right-moved, left-moved, tested, whole}
use Rattle.directory_read.proofs.Directory.locate_with_key.Goals as goal

abbrev middle : ℕ → ℕ → ℕ
middle left right = left + (right - left - 1) / 2

-- with all of the key shared, the other isn't below it
not-below-whole : (k key : List ℕ) (shared : ℕ) → shared ≡ common_prefix_len k key → length key ≤ shared → key ≼ k
not-below-whole k key shared e h = less-end-right k key (omega arith)

-- the key in the middle is the key looked for
pub returns-then-shared-at-clause-found_as : goal.returns-then-shared-at-clause-found_as
unfolding FoundAs
returns-then-shared-at-clause-found_as c sorted =
    let a = c.args in
    let mid = middle c.loop-left.left c.loop-left.right in
    let shared = c.common_prefix_len_by_runs-shared.result in
    let key = key_of a.self.bytes.now a.self.n mid in
    let is : shared ≡ common_prefix_len key a.key.now
    = between-counted _ _ _ _ _ _ _ c.loop-left.invariant mid (omega arith)
    (omega arith) _ _ _ c.key-at.ensures c.min-skip.ensures c.common_prefix_len_by_runs-shared.ensures sorted in
    record {
      inside = omega (arith, c.loop-left.invariant.inside);
      not-below = not-below-whole key a.key.now shared is c.if-shared-key.true;
      earlier = all-before a.self.bytes.now a.self.n sorted mid a.key.now (omega (arith, c.loop-left.invariant.inside))
          (whole a.key.now c.key-at.ensures shared is c.if-shared-at.true);
    }

pub loop-left-preserved-then-shared-key : goal.loop-left-preserved-then-shared-key
loop-left-preserved-then-shared-key c =
    let mid = middle c.loop-left.left c.loop-left.right in
    let is = between-counted _ _ _ _ _ _ _ c.loop-left.invariant mid (omega arith)
    (omega arith) _ _ _ c.key-at.ensures c.min-skip.ensures c.common_prefix_len_by_runs-shared.ensures in
    right-moved _ _ _ _ _ _ _ c.loop-left.invariant mid (omega arith) (omega arith) _ is
    (λ sorted. not-below-whole _ _ _ (is sorted) c.if-shared-key.true)

pub loop-left-preserved-then-lt_behind : goal.loop-left-preserved-then-lt_behind
loop-left-preserved-then-lt_behind c =
    let mid = middle c.loop-left.left c.loop-left.right in
    let is = between-counted _ _ _ _ _ _ _ c.loop-left.invariant mid (omega arith)
    (omega arith) _ _ _ c.key-at.ensures c.min-skip.ensures c.common_prefix_len_by_runs-shared.ensures in
    left-moved _ _ _ _ _ _ _ c.loop-left.invariant mid (omega arith) (omega arith) _ is
    (λ sorted. tested _ c.key-at.ensures _ (is sorted) c.lt_behind.ensures c.if-lt_behind.true)

pub loop-left-preserved : goal.loop-left-preserved
loop-left-preserved c =
    let mid = middle c.loop-left.left c.loop-left.right in
    let is = between-counted _ _ _ _ _ _ _ c.loop-left.invariant mid (omega arith)
    (omega arith) _ _ _ c.key-at.ensures c.min-skip.ensures c.common_prefix_len_by_runs-shared.ensures in
    right-moved _ _ _ _ _ _ _ c.loop-left.invariant mid (omega arith) (omega arith) _ is
    (λ sorted. tested _ c.key-at.ensures _ (is sorted) c.lt_behind.ensures c.if-lt_behind.false)

-- the bounds have met
pub returns-clause-found_as : goal.returns-clause-found_as
unfolding FoundAs
returns-clause-found_as c sorted =
    let e : c.loop-left.right ≡ c.loop-left.left = omega (arith, c.loop-left.invariant.order) in
    record {
      inside = omega (arith, c.loop-left.invariant.inside);
      not-below = rw e at (c.loop-left.invariant.above sorted (omega (arith, c.loop-left.invariant.inside)));
      earlier = c.loop-left.invariant.below sorted;
    }
