-- An accepted shorten changes at most one byte of the key area, in the last key, and of the numbers only the last key's length.
use Prim.Native.Nat.{ℕ, ◌+◌, ◌-◌, ◌*◌, ◌≤◌, ◌<◌}
use mathlib.Core.Path.{◌≡◌, refl, ◌∙◌}
use mathlib.Core.Logic.{◌⊎◌, inl, inr, ⊎_elim}
use mathlib.Core.List.{List}
use native.Mathlib.Omega.{arith}
use lib.Dec.{eqb}
use lib.ListN.{length, get_or, take, drop, set, length-take, length-drop}
use lib.Seq.{sets, get_or-take, get_or-drop, get_or-set_other, take-take}
use borrow.Author.Tests.{eqb-false}
use borrow.Table.Steps.{cases}
use Rattle.keys.specs.Shorten.{shorten}
use Rattle.keys.proofs.Shorten.{Raised, shorten-one-byte, sets-part, sets-part-one}
use Rattle.builder.specs.View.{stride}
use Rattle.builder.specs.Rows.{AreaOk}
use Rattle.builder.specs.Area.{key_len_field, area_place, area_view}
use Rattle.builder.specs.Calls.{short_blocks, short_keys}
use Rattle.builder.proofs.Views.{last-place}

pub short-blocks-only : (n : ℕ) (B K next : List ℕ) (j : ℕ)
    → (j ≡ stride * (n - 1) + key_len_field → ⊥) → get_or (short_blocks n B K next) j 0 ≡ get_or B j 0
unfolding short_blocks
short-blocks-only n B K next j h =
    cases (eqb n 0) (λ e. simp e) (λ e. simp e (get_or-set_other B (stride * (n - 1) + key_len_field) j _ 0 h))

-- the byte at `place`, within the len bytes at `at`, is raised
pub record OneRaised (at len : ℕ) (K K' : List ℕ) : Type 0 where
  pub place : ℕ
  pub behind : at ≤ place
  pub within : place < at + len
  pub result : K' ≡ set K place (get_or K place 0 + 1)

module _ (K next : List ℕ) (at len : ℕ) (fits : at + len ≤ length K) where
  raised : Raised (take len (drop at K)) next → OneRaised at len K (sets K at (shorten (take len (drop at K)) next))
  raised r =
      let l : length (take len (drop at K)) ≡ len = simp (length-take, length-drop) (omega arith) in
      let p : ℕ = r.place in
      let h : p < len = omega (arith, r.within) in
      let byte : get_or (take len (drop at K)) p 0 ≡ get_or K (at + p) 0 = get_or-take len (drop at K) p 0 h ∙ get_or-drop at K p 0 in
      record {
        place = at + p;
        behind = omega arith;
        within = omega arith;
        result =
            rw (r.result, take-take p len (drop at K) (omega arith), byte)
            (sets-part-one K at p (get_or K (at + p) 0 + 1) (omega arith));
      }

  one_byte : (sets K at (shorten (take len (drop at K)) next) ≡ K) ⊎ OneRaised at len K (sets K at (shorten (take len (drop at K)) next))
  one_byte =
      ⊎_elim
      (λ e. inl (rw e (sets-part K at len fits)))
      (λ r. inr (raised r))
      (shorten-one-byte (take len (drop at K)) next)

pub short-keys-one-byte : (n : ℕ) (B K next : List ℕ) → AreaOk (area_view n B K)
    → (short_keys n B K next ≡ K) ⊎ OneRaised (area_place B (n - 1)).offset (area_place B (n - 1)).len K (short_keys n B K next)
unfolding short_keys
short-keys-one-byte n B K next ok =
    cases (eqb n 0)
    (λ e. simp e (inl refl))
    (λ e.
    simp e
    (one_byte K next (area_place B (n - 1)).offset (area_place B (n - 1)).len (last-place n B K ok (eqb-false n 0 e)).within))
