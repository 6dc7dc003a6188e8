-- A store of an area, planned and written group after group: what is planned and what is left before group g.
use Prim.Native.Nat.{ℕ, ◌+◌, ◌*◌, ◌^◌, ◌≤◌, ◌<◌, min}
use mathlib.Core.Path.{◌≡◌, refl}
use mathlib.Core.List.{List, ◌++◌}
use native.Mathlib.Nat.{mul-suc, mul-le-mul_left}
use native.Mathlib.Numerals.{add-one}
use native.Mathlib.Omega.{arith}
use lib.ListN.{length}
use lib.Seq.{sets}
use Rattle.serialize.specs.Digits.{le_bytes}
use Rattle.slope.specs.Slope.{best_slope}
use Rattle.slope.proofs.Widths.{best_slope-lt}
use Rattle.group.specs.declared.BlockAddr.{BlockAddr}
use Rattle.store.specs.Read.{len_of_group}
use Rattle.store.specs.Store.{group_count, group_record, group_addrs, store_bytes}
use Rattle.store.specs.Plans.{group_plan, plans, StandsAt}
use Rattle.store.proofs.Groups.{group-count-above, group-count-le, group-first-lt}
use Rattle.store.proofs.Stored.{store-addrs-le, length-addrs-turn}
use Rattle.store.proofs.Plans.{plans-turn, length-plan, standing-front, standing-rest}
use Rattle.store.proofs.Planning.{Planning, planning-none, planning-turn, plans_from}
use Rattle.store.proofs.Left.{Left, left-none, bits-turn, bits-room, left-turn, whole}
use Rattle.store_write.specs.Blocks.{all_of, in_group}
use Rattle.store_write.specs.declared.AreaStore.{AreaStore}

abbrev pub groups_of : AreaStore → ℕ
groups_of s = group_count s.group_len s.n

-- where group g begins, or the end
abbrev pub first_of : AreaStore → ℕ → ℕ
first_of s g = min s.n (s.group_len * g)

-- the groups before group g are planned; `len` is how many bytes their bits take
abbrev pub Planned : AreaStore → List ℕ → List ℕ → ℕ → ℕ → Type 0
Planned s kept₀ kept len g = Planning s.area.now s.stride s.n s.group_len kept₀ kept len g (first_of s g)

module _ (s : AreaStore) where
  module _ (g : ℕ) (there : g < groups_of s) where
    pub group-there : s.group_len * g < s.n
    group-there = group-first-lt s.ok.1.some s.n g there

    first-is : first_of s g ≡ s.group_len * g
    first-is = omega (arith, group-there)

    next-is : s.group_len * g + len_of_group s.group_len s.n g ≡ first_of s (g + 1)
    next-is = rw (add-one g, mul-suc s.group_len g) (omega (arith, group-there))

    module _ {kept₀ kept : List ℕ} {len : ℕ} (planned : Planned s kept₀ kept len g) where
      here : Planning s.area.now s.stride s.n s.group_len kept₀ kept len g (s.group_len * g)
      here = rw first-is at planned

      module _ {b : List BlockAddr} (is : b ≡ in_group s g) {r : ℕ} (bytes : r ≡ length (group_addrs best_slope b)) where
        pub planned-less : len + r < 2 ^ 32
        planned-less =
            omega (
              arith,
              here.lengths,
              length-addrs-turn best_slope s.ok.1.some s.area.now s.stride s.n (s.group_len * g) (len_of_group s.group_len s.n g) refl
                  group-there,
              rw is at bytes,
              store-addrs-le best_slope best_slope-lt s.ok.0 s.ok.1,
            )

        pub planned-turn : {kept' : List ℕ} → kept' ≡ sets kept (2 * g) (group_plan best_slope b) → Planned s kept₀ kept' (len + r) (g + 1)
        planned-turn {kept'} put =
            rw (← next-is)
            (planning-turn here s.ok.1 (len_of_group s.group_len s.n g) refl group-there r kept' (rw is at bytes) (rw is at put))

  -- behind the last group
  end-is : (g : ℕ) → groups_of s ≤ g → first_of s g ≡ s.n
  end-is g h = omega (arith, group-count-above s.ok.1.some s.n, mul-le-mul_left {m = groups_of s} {n = g} s.group_len h)

  module _ {kept₀ kept : List ℕ} {len g : ℕ} (planned : Planned s kept₀ kept len g) (end : groups_of s ≤ g) where
    pub planned-all : (8 + 36 * g + len ≡ length (store_bytes best_slope s.group_len (all_of s)))
        × (kept ≡ sets kept₀ 0 (plans best_slope s.group_len (groups_of s) (all_of s)))
    planned-all = planning-none planned s.ok.1 (rw (end-is g end) (omega arith))

    pub planned-small : len < 2 ^ 32
    planned-small = omega (arith, planned.lengths, store-addrs-le best_slope best_slope-lt s.ok.0 s.ok.1)

  -- ---- written: `base` is where the address bytes begin

  abbrev pub Written : List ℕ → List ℕ → ℕ → List ℕ → ℕ → ℕ → Type 0
  Written kept out₀ base out offset g =
      Left s.area.now s.stride s.n s.group_len out₀ base out (8 + 36 * g) offset (first_of s g)
      × StandsAt kept (2 * g) (plans_from s.area.now s.stride s.n s.group_len (first_of s g))

  module _ (kept : List ℕ) (g : ℕ) (there : g < groups_of s) {out₀ out : List ℕ} {base offset : ℕ}
      (written : Written kept out₀ base out offset g) where
    left : Left s.area.now s.stride s.n s.group_len out₀ base out (8 + 36 * g) offset (s.group_len * g)
    left = rw (first-is g there) at written.0

    stands : StandsAt kept (2 * g) (plans_from s.area.now s.stride s.n s.group_len (s.group_len * g))
    stands = rw (first-is g there) at written.1

    split : StandsAt kept (2 * g)
        (group_plan best_slope (in_group s g)
        ++ plans_from s.area.now s.stride s.n s.group_len (s.group_len * g + len_of_group s.group_len s.n g))
    split = rw
        (plans-turn best_slope s.ok.1.some s.area.now s.stride s.n (s.group_len * g) (len_of_group s.group_len s.n g) refl
        (group-there g there)) at stands

    module _ {b : List BlockAddr} (is : b ≡ in_group s g) where
      pub written-stands : StandsAt kept (2 * g) (group_plan best_slope b)
      written-stands = rw is (standing-front kept (2 * g) (group_plan best_slope (in_group s g)) _ split)

      pub written-room : length (store_bytes best_slope s.group_len (all_of s)) ≤ length out₀
          → base + offset + length (group_addrs best_slope b) ≤ length out
      written-room h = rw is (bits-room left s.ok.1 (len_of_group s.group_len s.n g) refl (group-there g there) h)

      module _ {r : ℕ} (bytes : r ≡ length (group_addrs best_slope b)) where
        pub written-less : offset + r < 2 ^ 32
        written-less =
            omega (
              arith,
              rw is at bytes,
              bits-turn left s.ok.1 (len_of_group s.group_len s.n g) refl (group-there g there),
              left.bits-end,
              store-addrs-le best_slope best_slope-lt s.ok.0 s.ok.1,
            )

        pub written-turn : {out' : List ℕ}
            → out' ≡ sets (sets out (8 + 36 * g) (group_record best_slope offset b)) (base + offset) (group_addrs best_slope b)
            → Written kept out₀ base out' (offset + r) (g + 1)
        written-turn {out'} put =
            let next : 8 + 36 * g + 36 ≡ 8 + 36 * (g + 1) = omega arith in
            let plan : 2 * (g + 1) ≡ 2 * g + length (group_plan best_slope (in_group s g)) =
            omega (
              arith,
              length-plan best_slope s.ok.1.some s.area.now s.stride s.n (s.group_len * g) (len_of_group s.group_len s.n g) refl
                  (group-there g there),
            ) in
            rw (← (next-is g there)) (
              rw next at
                  (left-turn left s.ok.1 (len_of_group s.group_len s.n g) refl (group-there g there) r out' (rw is at bytes)
                  (rw is at put)),
              rw plan (standing-rest kept (2 * g) (group_plan best_slope (in_group s g)) _ split),
            )

  -- the place of a group's record, and where its bits begin
  pub written-small : (kept : List ℕ) (g : ℕ) {out₀ out : List ℕ} {base offset : ℕ} → Written kept out₀ base out offset g
      → (8 + 36 * g ≤ base) × (base + offset < 2 ^ 33)
  written-small kept g written = (
    omega (arith, written.0.records-end),
    omega (
      arith,
      written.0.base-is,
      written.0.bits-end,
      group-count-le s.ok.1.some s.n,
      s.ok.0.few,
      store-addrs-le best_slope best_slope-lt s.ok.0 s.ok.1,
    ),
  )

  -- the whole store
  module _ (kept out : List ℕ) {out₀ l : List ℕ} {groups offset g : ℕ} (is : groups ≡ groups_of s)
      (number : out₀ ≡ sets out 0 (le_bytes 8 (36 * groups)))
      (written : Written kept out₀ (8 + 36 * groups) l offset g) (end : groups_of s ≤ g) where
    pub written-all : (8 + 36 * groups + offset ≡ length (store_bytes best_slope s.group_len (all_of s)))
        × (l ≡ sets out 0 (store_bytes best_slope s.group_len (all_of s)))
    written-all =
        let none = left-none written.0 s.ok.1 (rw (end-is g end) (omega arith)) in
        (none.0, whole s.ok.0 s.ok.1 out out₀ l groups is number none.1)
