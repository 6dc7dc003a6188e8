-- Entries: what an ended search writes is exact, and an entry is unique.
use mathlib.Core.Path.{◌≡◌, refl, sym, ◌∙◌}
use mathlib.Core.Bool.{cond}
use mathlib.Core.List.{List}
use mathlib.Core.Logic.{inl, inr}
use Prim.Native.Nat.{ℕ, ◌+◌, ◌<◌}
use native.Mathlib.Omega.{arith}
use lib.Dec.{eqb}
use borrow.Author.Tests.{eqb-true, eqb-false}
use borrow.Table.Steps.{cases}
use Rattle.directory.specs.Read.{Sorted, key_of, FoundIn, FoundAs}
use Rattle.std.specs.Prelude.{Result, Ok, Err}
use Rattle.layout.specs.declared.refusals.Refusal.{Refusal}
use Rattle.directory.proofs.Reader.{first-unique, first_or_none}
use Rattle.batch_search.specs.Entries.{EntryIn, EntryExact, no_id, found_entry}
use Rattle.key_list.specs.KeyList.{key_list_key}
use Rattle.batch_search.specs.Lanes.{LaneOk}

-- ---- an entry is unique

module _ (f : ℕ → List ℕ) (n : ℕ) (key : List ℕ) where
  pub entry-unique : (e e' : ℕ) → EntryExact f n key e → EntryExact f n key e' → e ≡ e'
  entry-unique e e' (inl a) (inl b) = first-unique f n key e e' a b
  entry-unique e e' (inl a) (inr b) = absurd (first_or_none f n key e a b.1)
  entry-unique e e' (inr a) (inl b) = absurd (first_or_none f n key e' b a.1)
  entry-unique e e' (inr a) (inr b) = a.0 ∙ sym b.0

-- ---- a search at its end

module _ (d : List ℕ) (n : ℕ) (key : List ℕ) (left low high : ℕ) (ok : LaneOk d n key 0 left low high) where
  -- the entry that is written
  abbrev entry : ℕ
  entry = cond (eqb left n) no_id left

  pub ended-in : EntryIn n entry
  ended-in =
      cases (eqb left n)
      (λ t. rw t (inr refl))
      (λ t. let l : left < n = omega (arith, ok.inside, eqb-false left n t) in rw t (inl l))

  pub ended-exact : Sorted d n → EntryExact (key_of d n) n key entry
  ended-exact sorted =
      cases (eqb left n)
      (λ t. let e = eqb-true left n t in rw t (inr (refl, λ i h. ok.below sorted i (omega (arith, e)))))
      (λ t.
      let l : left < n = omega (arith, ok.inside, eqb-false left n t) in
      let z : left + 0 ≡ left = omega arith in
      rw t (inl (record { inside = l; not-below = rw z at (ok.above sorted (omega arith)); earlier = ok.below sorted })))

-- ---- what one search after the other finds

pub found_in : (n : ℕ) (search : Result ℕ Refusal) → FoundIn n search → EntryIn n (found_entry search)
unfolding FoundIn
found_in n (Ok i) h = inl h
found_in n (Err refusal) h = inr refl

pub found-exact : (f : ℕ → List ℕ) (n : ℕ) (key : List ℕ) (search : Result ℕ Refusal) → FoundAs f n key search
    → EntryExact f n key (found_entry search)
unfolding FoundAs
found-exact f n key (Ok i) h = inl h
found-exact f n key (Err refusal) h = inr (refl, h.1)

-- what is known of the entry at place j
abbrev pub EntryOk : List ℕ → ℕ → List ℕ → List ℕ → ℕ → ℕ → Type 0
EntryOk d n pairs bytes j x = EntryIn n x × (Sorted d n → EntryExact (key_of d n) n (key_list_key pairs bytes j) x)
