-- The three adds of document 01's worked case: they are taken, what entries they leave, and which of the blocks an id or an ordinal finds.
use Prim.Native.Nat.{ℕ, zero, suc, ◌+◌, ◌*◌, ◌≤◌, ◌<◌}
use mathlib.Core.Path.{◌≡◌, refl, sym, ap, ◌∙◌}
use mathlib.Core.Bool.{false}
use mathlib.Core.List.{List, [], ◌∷◌}
use mathlib.Core.Logic.{inl, inr}
use native.Mathlib.Omega.{arith}
use lib.ListN.{length}
use borrow.Author.Tests.{le-ltb, ne_eqb}
use Rattle.keys.specs.Order.{less}
use Rattle.group.specs.declared.BlockAddr.{BlockAddr}
use Rattle.group.specs.Legal.{limit}
use Rattle.group.specs.Rows.{are_numbers_bad, is_join_bad, is_ordinal_bad}
use Rattle.group.specs.Blocks.{no_block}
use Rattle.store.specs.Read.{Last}
use Rattle.layout.specs.Layout.{max_blocks}
use Rattle.builder.specs.View.{stride, View}
use Rattle.builder.specs.Rows.{RecordOk, key_long, key_no, key_bad, room_bad, block_no, add_no}
use Rattle.machine.specs.Plain.{Entry, Rooms, key_bytes_taken, plain_view, call_no, taken, plain_next, plain_numbers, plain_end}
use Rattle.builder.proofs.Views.{area-good}
use Rattle.builder.proofs.Numbers.{add_none}
use Rattle.index.specs.Lookups.{ByIdExact, ByOrdExact}
use Rattle.demands.specs.Demand3.{entry_block}
use Rattle.demands.specs.Cases.{block0, block1, block2, worked_calls}

-- ---- the list

-- entries, newest first
abbrev pub one : List Entry
one = record { block = block0; key = 98 ∷ [] } ∷ []

abbrev pub two : List Entry
two = record { block = block1; key = 100 ∷ [] } ∷ one

abbrev pub three : List Entry
three = record { block = block2; key = 102 ∷ [] } ∷ two

room-good : (v : View) (key : List ℕ) → v.n < max_blocks → stride * v.n + stride ≤ v.room → v.next_key + length key ≤ v.key_room
    → room_bad v key ≡ false
unfolding room_bad
room-good v key few numbers fits =
    rw (
      ne_eqb v.n max_blocks (λ e. omega arith),
      le-ltb v.room (stride * v.n + stride) numbers,
      le-ltb v.key_room (v.next_key + length key) fits,
    )

added : (v : View) (key : List ℕ) (b : BlockAddr) → block_no v key key b ≡ 0 → v.n < max_blocks → stride * v.n + stride ≤ v.room
    → RecordOk v.key_room v.place → v.next_key + length key ≤ v.key_room → add_no v key b ≡ 0
added v key b e few numbers last fits =
    sym (add_none v key b (area-good v (record { few = omega arith; inside = omega arith; last = last })) 0 (sym e) refl
    (room-good v key few numbers fits))

module _ (rooms : Rooms) (blocks : 15 ≤ rooms.blocks) (keys : 3 ≤ rooms.keys) where
  add-0 : add_no (plain_view rooms []) (98 ∷ []) block0 ≡ 0
  unfolding block_no key_no key_long key_bad are_numbers_bad is_join_bad is_ordinal_bad limit plain_view
  add-0 = added (plain_view rooms []) (98 ∷ []) block0 refl (omega arith) (omega arith) (record { within = omega arith }) (omega arith)

  add-1 : add_no (plain_view rooms one) (100 ∷ []) block1 ≡ 0
  unfolding block_no key_no key_long key_bad are_numbers_bad is_join_bad is_ordinal_bad limit less plain_view key_bytes_taken
  add-1 = added (plain_view rooms one) (100 ∷ []) block1 refl (omega arith) (omega arith) (record { within = omega arith }) (omega arith)

  add-2 : add_no (plain_view rooms two) (102 ∷ []) block2 ≡ 0
  unfolding block_no key_no key_long key_bad are_numbers_bad is_join_bad is_ordinal_bad limit less plain_view key_bytes_taken
  add-2 = added (plain_view rooms two) (102 ∷ []) block2 refl (omega arith) (omega arith) (record { within = omega arith }) (omega arith)

  pub three-left : plain_end rooms worked_calls [] ≡ three
  unfolding plain_end call_no plain_next taken
  three-left = rw (add-0, add-1, add-2)

  pub three-taken : plain_numbers rooms worked_calls [] ≡ 0 ∷ 0 ∷ 0 ∷ []
  unfolding plain_numbers call_no plain_next taken
  three-taken = rw (add-0, add-1, add-2)

-- ---- what is found

pub id-2 : (k : ℕ) (addr : BlockAddr) → ByIdExact (entry_block three) 3 2 k addr → (k ≡ 0) × (addr ≡ block2)
id-2 k addr (inl p) = (p.0, p.2)
id-2 k addr (inr p) = absurd (let z : ⊥ = omega arith in z)

pub id-3 : (k : ℕ) (addr : BlockAddr) → ByIdExact (entry_block three) 3 3 k addr → (k ≡ 17) × (addr ≡ no_block)
id-3 k addr (inl p) = absurd (let z : ⊥ = omega arith in z)
id-3 k addr (inr p) = (p.0, p.2)

abbrev ordinal : ℕ → ℕ
ordinal i = (entry_block three i).first_ordinal

pub in-0 : (id : ℕ) → Last ordinal 3 3 id → id ≡ 0
in-0 zero l = refl
in-0 (suc zero) l = absurd (omega (arith, l.at_most))
in-0 (suc (suc zero)) l = absurd (omega (arith, l.at_most))
in-0 (suc (suc (suc id))) l = absurd (omega (arith, l.inside))

pub in-1 : (id : ℕ) → Last ordinal 3 4 id → id ≡ 1
in-1 zero l = absurd (omega (arith, l.later 1 (omega arith) (omega arith)))
in-1 (suc zero) l = refl
in-1 (suc (suc zero)) l = absurd (omega (arith, l.at_most))
in-1 (suc (suc (suc id))) l = absurd (omega (arith, l.inside))

pub in-2 : (id : ℕ) → Last ordinal 3 11 id → id ≡ 2
in-2 zero l = absurd (omega (arith, l.later 2 (omega arith) (omega arith)))
in-2 (suc zero) l = absurd (omega (arith, l.later 2 (omega arith) (omega arith)))
in-2 (suc (suc zero)) l = refl
in-2 (suc (suc (suc id))) l = absurd (omega (arith, l.inside))

-- the block of an ordinal below 12, where its number among the three is known
pub located : (ord at : ℕ) → ord < 12 → ((id : ℕ) → Last ordinal 3 ord id → id ≡ at) → (k id : ℕ) (addr : BlockAddr)
    → ByOrdExact (entry_block three) 3 12 ord k id addr
    → (k ≡ 0) × (id ≡ at) × (addr ≡ entry_block three at)
located ord at below is k id addr (inl p) = (p.0, is id p.2, p.3 ∙ ap (entry_block three) (is id p.2))
located ord at below is k id addr (inr (inl p)) = absurd (let z : ⊥ = omega (arith, p.3) in z)
located ord at below is k id addr (inr (inr p)) = absurd (let z : ⊥ = omega (arith, p.4) in z)

-- none at or above it
pub no-term : (ord : ℕ) → 12 ≤ ord → (k id : ℕ) (addr : BlockAddr) → ByOrdExact (entry_block three) 3 12 ord k id addr
    → (k ≡ 29) × (id ≡ 0) × (addr ≡ no_block)
no-term ord h k id addr (inl p) = absurd (let z : ⊥ = omega (arith, p.1) in z)
no-term ord h k id addr (inr (inl p)) = absurd (let z : ⊥ = omega (arith, p.3) in z)
no-term ord h k id addr (inr (inr p)) = (p.0, p.1, p.2)
