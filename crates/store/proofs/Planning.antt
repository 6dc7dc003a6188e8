-- What is left to plan of a store while its groups are planned one after the other: the plans of the groups left, put behind those
-- before, give all of them.
use Prim.Native.Nat.{ℕ, ◌+◌, ◌-◌, ◌*◌, ◌≤◌, ◌<◌, min}
use mathlib.Core.Path.{◌≡◌, sym, ap, ◌∙◌}
use mathlib.Core.List.{List}
use native.Mathlib.Omega.{arith}
use lib.ListN.{length}
use lib.Seq.{sets, length-sets}
use Rattle.serialize.proofs.Stores.{sets-append}
use Rattle.slope.specs.Slope.{best_slope}
use Rattle.group.specs.Blocks.{blocks_at}
use Rattle.store.specs.Store.{group_count, group_addrs, addrs, store_bytes}
use Rattle.store.specs.Plans.{group_plan, plans}
use Rattle.store.specs.Facts.{GroupLenOk}
use Rattle.store.proofs.Groups.{group-count-turn}
use Rattle.store.proofs.Stored.{length-addrs-turn, addrs-none, none_left, length-store-area}
use Rattle.store.proofs.Plans.{plans-turn, plans-none, length-plan}
use Rattle.store.proofs.Left.{bits}

-- the plans of the groups from block `first` on
abbrev pub plans_from : List ℕ → ℕ → ℕ → ℕ → ℕ → List ℕ
plans_from area stride n L first = plans best_slope L (group_count L (n - first)) (blocks_at area stride first (n - first))

-- the groups before block `first` are planned; `len` is how many bytes their bits take
pub record Planning (area : List ℕ) (stride n L : ℕ) (kept₀ kept : List ℕ) (len g first : ℕ) : Type 0 where
  pub within : first ≤ n
  pub lengths : len + length (bits area stride n L first) ≡ length (addrs best_slope L (group_count L n) (blocks_at area stride 0 n))
  pub groups : g + group_count L (n - first) ≡ group_count L n
  pub long : length kept ≡ length kept₀
  pub same : sets kept (2 * g) (plans_from area stride n L first)
      ≡ sets kept₀ 0 (plans best_slope L (group_count L n) (blocks_at area stride 0 n))

module _ {area : List ℕ} {stride n L : ℕ} {kept₀ kept : List ℕ} {len g first : ℕ}
    (planning : Planning area stride n L kept₀ kept len g first) (group : GroupLenOk L) where
  -- behind the last group
  pub planning-none : n ≤ first → (8 + 36 * g + len ≡ length (store_bytes best_slope L (blocks_at area stride 0 n)))
      × (kept ≡ sets kept₀ 0 (plans best_slope L (group_count L n) (blocks_at area stride 0 n)))
  planning-none none =
      let all = blocks_at area stride first (n - first) in (
        omega (
          arith,
          ap length (addrs-none best_slope group.some n first none all),
          none_left best_slope group.some n first none all,
          planning.lengths,
          planning.groups,
          length-store-area best_slope group.some area stride 0 n,
        ),
        (rw (plans-none best_slope group.some n first none all) at planning.same),
      )

  module _ (count : ℕ) (is : count ≡ min L (n - first)) (more : first < n) where
    pub planning-turn : (r : ℕ) (kept' : List ℕ) → r ≡ length (group_addrs best_slope (blocks_at area stride first count))
        → kept' ≡ sets kept (2 * g) (group_plan best_slope (blocks_at area stride first count))
        → Planning area stride n L kept₀ kept' (len + r) (g + 1) (first + count)
    planning-turn r kept' e e' =
        let one = group_plan best_slope (blocks_at area stride first count) in
        let others = plans_from area stride n L (first + count) in
        let size : length one ≡ 2 = length-plan best_slope group.some area stride n first count is more in
        let next : 2 * (g + 1) ≡ 2 * g + length one = omega arith in
        record {
          within = omega arith;
          lengths = omega (arith, length-addrs-turn best_slope group.some area stride n first count is more, planning.lengths);
          groups = omega (arith, planning.groups, group-count-turn group.some n first count is more);
          long = ap length e' ∙ length-sets kept (2 * g) one ∙ planning.long;
          same =
              rw (e', next) (sets-append kept one others (2 * g))
              ∙ ap (sets kept (2 * g)) (sym (plans-turn best_slope group.some area stride n first count is more))
              ∙ planning.same;
        }
