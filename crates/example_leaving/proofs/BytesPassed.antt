-- The bytes of a range, looked at one after the other: the lowest so far of those that lead to the least distance.
use mathlib.Core.Path.{◌≡◌, refl, sym, subst}
use mathlib.Core.List.{List}
use mathlib.Core.Logic.{⊎_elim}
use Prim.Native.Nat.{ℕ, ◌+◌, ◌-◌, ◌≤◌, ◌<◌}
use native.Mathlib.Omega.{arith}
use lib.ListN.{get_or}
use Rattle.std.specs.Prelude.{Option, None, Some}
use Rattle.std.proofs.lemmas.Bool.{cases_eq, cases_lt}
use Rattle.automaton.specs.Table.{WellFormed, states, next}
use Rattle.example_distance.specs.Distance.{Distances}
use Rattle.example_distance.proofs.Shortest.{at_most-one}
use Rattle.example_leaving.specs.Leaving.{NearestByte, NearestByteOf}

-- no byte is kept as long as none leads to a state that can match; one that is kept is the lowest of its distance
abbrev pub Kept : (t d : List ℕ) (s lo hi : ℕ) → Option ℕ → ℕ → Type 0
Kept t d s lo hi None least = least ≡ 64
Kept t d s lo hi (Some k) least = NearestByte t d s lo (k + 1) k × (k < hi) × (least ≡ get_or d (next t s k) 0)

-- the bytes from lo on and below `byte` are passed
pub record BytesPassed (t d : List ℕ) (s lo hi byte : ℕ) (nearest : Option ℕ) (least : ℕ) : Type 0 where
  pub kept : Kept t d s lo hi nearest least
  pub small : least ≤ 64
  pub lower : (b : ℕ) → lo ≤ b → b < byte → least ≤ get_or d (next t s b) 0

module _ {t d : List ℕ} {s lo hi : ℕ} where
  pub passed-none : BytesPassed t d s lo hi lo None 64
  passed-none = record { kept = refl; small = omega arith; lower = λ b l h. absurd (omega arith) }

  module _ {byte least : ℕ} {nearest : Option ℕ} (z : BytesPassed t d s lo hi byte nearest least) where
    -- the bytes passed, and this one
    with-this : (P : ℕ → Type 0) → ((b : ℕ) → lo ≤ b → b < byte → P b) → P byte → (b : ℕ) → lo ≤ b → b < byte + 1 → P b
    with-this P f p b l h = ⊎_elim (λ e. subst P (sym e) p) (λ n. f b l (omega arith)) (cases_eq b byte)

    module _ {distance : ℕ} (e : distance ≡ get_or d (next t s byte) 0) where
      -- it leads nearer
      module _ (l : lo ≤ byte) (h : byte < hi) (n : distance < least) where
        pub passed-nearer : BytesPassed t d s lo hi (byte + 1) (Some byte) distance
        passed-nearer =
            let here = get_or d (next t s byte) 0 in
            let low = with-this (λ b. here ≤ get_or d (next t s b) 0) (λ b g k. omega (arith, z.lower b g k)) (omega arith) in
            record {
              kept = (
                record {
                  from-lo = l;
                  below-hi = omega arith;
                  near = omega (arith, z.small);
                  least = low;
                  lowest = λ b g k. omega (arith, z.lower b g k);
                },
                h,
                e,
              );
              small = omega (arith, z.small);
              lower = λ b g k. omega (arith, low b g k);
            }

        -- as near as a byte leads: no byte behind it leads nearer
        pub passed-enough : Distances t d → WellFormed t → s < states t → hi ≤ 256 → distance ≡ get_or d s 0 - 1
            → NearestByte t d s lo hi byte
        passed-enough x wf hs fits q = record {
          from-lo = l;
          below-hi = h;
          near = omega (arith, z.small);
          least = λ b g k. ⊎_elim
              (λ m. omega (arith, at_most-one x s b wf hs (omega arith) m))
              (λ m. omega (arith, z.small))
              (cases_lt (get_or d (next t s b) 0) 64);
          lowest = λ b g k. omega (arith, z.lower b g k);
        }

      -- it doesn't
      pub passed-other : least ≤ distance → BytesPassed t d s lo hi (byte + 1) nearest least
      passed-other n = record {
        kept = z.kept;
        small = z.small;
        lower = with-this (λ b. least ≤ get_or d (next t s b) 0) z.lower (omega arith);
      }

  -- all are passed
  pub passed-all : {byte least : ℕ} (nearest : Option ℕ) → BytesPassed t d s lo hi byte nearest least → hi ≤ byte
      → NearestByteOf t d s lo hi nearest
  passed-all None z h = λ b l g. omega (arith, z.kept, z.lower b l (omega arith))
  passed-all (Some k) z h =
      let (n, g, e) = z.kept in
      record {
        from-lo = n.from-lo;
        below-hi = g;
        near = n.near;
        least = λ b l g'. omega (arith, z.lower b l (omega arith));
        lowest = n.lowest;
      }
